-- A sheet tells the history so far.
use Rattle.std.proofs.Common.{◌≡◌, ℕ, zero, suc, ◌+◌, ◌<◌, ◌≤◌, Bool, cond, List, [], ◌∷◌, ◌++◌, length, vec_items, fold, sym, refl, ap, ◌∙◌, subst, append_assoc, append-nil, arith, length-append}
use Rattle.std.specs.List.{flat_map}
use Rattle.orders.specs.declared.order.Line.{Line}
use Rattle.orders.specs.declared.order.Account.{Account}
use Rattle.orders.specs.Orders.{last_member}
use Rattle.orders.specs.Settlement.{Session, member_places, account, opening}
use Rattle.orders.specs.Members.{has_line}
use Rattle.steps.specs.declared.call.Call.{Call}
use Rattle.steps.specs.Ways.{Way}
use Rattle.steps.specs.Calls.{told, step}
use Rattle.history.specs.Histories.{Event, History, event_of, called, run, all_lines}
use Rattle.sheets.specs.declared.growing.Sheet.{Sheet}
use Rattle.sheets.specs.Rows.{account_row}
use Rattle.sheets.specs.Sheet.{answer_text, events_text, account_piece, accounts_from, accounts_text, history_text}
use Rattle.sheets.specs.Growing.{Marks, marked, Told}

events_more : (k : ℕ) (es : List Event) (e : Event) → events_text k (es ++ (e ∷ [])) ≡ events_text k es ++ answer_text (k + length es) e.answer e.lines
events_more k [] e =
    let z : k ≡ k + 0 = omega arith in
    append-nil (answer_text k e.answer e.lines) ∙ ap (λ n. answer_text n e.answer e.lines) z
events_more k (x ∷ es) e =
    let z : suc k + length es ≡ k + length (x ∷ es) = omega arith in
    ap (λ t. answer_text k x.answer x.lines ++ t) (events_more (suc k) es e ∙ ap (λ n. events_text (suc k) es ++ answer_text n e.answer e.lines) z)
    ∙ sym (append_assoc (answer_text k x.answer x.lines) (events_text (suc k) es) (answer_text (k + length (x ∷ es)) e.answer e.lines))

lines_more : (es : List Event) (e : Event) → flat_map (λ (x : Event). x.lines) (es ++ (e ∷ [])) ≡ flat_map (λ (x : Event). x.lines) es ++ e.lines
lines_more [] e = append-nil e.lines
lines_more (x ∷ es) e = ap (λ t. x.lines ++ t) (lines_more es e) ∙ sym (append_assoc x.lines (flat_map (λ (y : Event). y.lines) es) e.lines)

-- the sheet, and the session s, are those of a history; the calls cs still to come make of it what all calls make of the session s₀
pub record SoFar (w : Way) (s₀ s : Session) (cs₀ cs : List Call) (text : List ℕ) (traded : List Bool) (k : ℕ) : Type 0 where
  pub history : History
  pub session : history.session ≡ s
  pub marks : Marks (all_lines history) traded
  pub told : text ≡ events_text 1 history.events
  pub counted : k ≡ suc (length history.events)
  pub runs : fold (called w) history cs ≡ fold (called w) (record { session = s₀; events = [] }) cs₀

pub so_far_start : (w : Way) (s : Session) (cs₀ cs : List Call) (text : List ℕ) (traded : List Bool) (k : ℕ) → cs ≡ cs₀ → k ≡ 1 → text ≡ [] → Marks [] traded → SoFar w s s cs₀ cs text traded k
so_far_start w s cs₀ cs text traded k same one e m =
    record {
      history = record { session = s; events = [] };
      session = refl;
      marks = m;
      told = e;
      counted = one;
      runs = ap (λ x. fold (called w) (record { session = s; events = [] }) x) same;
    }

-- one more call
pub so_far_more : (w : Way) (s₀ s s' : Session) (cs₀ cs : List Call) (c : Call) (a b : Sheet) (k : ℕ) →
    Told k (step w s c) a b → s' ≡ (step w s c).1 →
    SoFar w s₀ s cs₀ (c ∷ cs) (vec_items a.text) a.traded k → SoFar w s₀ s' cs₀ cs (vec_items b.text) b.traded (k + 1)
so_far_more w s₀ s s' cs₀ cs c a b k told next f =
    let h = f.history in
    let e = event_of h.session c (step w h.session c) in
    let t : Told k (step w h.session c) a b = subst (λ (x : Session). Told k (step w x c) a b) (sym f.session) told in
    let n = length-append h.events (e ∷ []) in
    record {
      history = called w h c;
      session = ap (λ x. (step w x c).1) f.session ∙ sym next;
      marks = subst (λ (ls : List Line). Marks ls b.traded) (sym (lines_more h.events e)) (t.marks (all_lines h) f.marks);
      told = t.text ∙ ap (λ x. x ++ answer_text k e.answer e.lines) f.told
          ∙ ap (λ x. events_text 1 h.events ++ answer_text x e.answer e.lines) (f.counted ∙ omega arith)
          ∙ sym (events_more 1 h.events e);
      counted = omega (arith, f.counted);
      runs = f.runs;
    }

-- the same, where the way, the calls to come, the call and the counts are known by equations
pub so_far_turn : (w v : Way) (s₀ s s' : Session) (cs₀ all cs : List Call) (c d : Call) (a b : Sheet) (n k m : ℕ) → v ≡ w → all ≡ d ∷ cs → c ≡ d → n ≡ k → m ≡ k + 1 →
    Told k (step v s c) a b → s' ≡ (step v s c).1 →
    SoFar w s₀ s cs₀ all (vec_items a.text) a.traded n → SoFar w s₀ s' cs₀ cs (vec_items b.text) b.traded m
so_far_turn w v s₀ s s' cs₀ all cs c d a b n k m e i asked now then told next f =
    let t : Told k (step w s c) a b = subst (λ (x : Way). Told k (step x s c) a b) e told in
    let counted : SoFar w s₀ s cs₀ all (vec_items a.text) a.traded k = subst (λ (x : ℕ). SoFar w s₀ s cs₀ all (vec_items a.text) a.traded x) now f in
    let before : SoFar w s₀ s cs₀ (c ∷ cs) (vec_items a.text) a.traded k =
    subst (λ (x : List Call). SoFar w s₀ s cs₀ x (vec_items a.text) a.traded k) (i ∙ ap (λ (x : Call). x ∷ cs) (sym asked)) counted in
    subst (λ (x : ℕ). SoFar w s₀ s' cs₀ cs (vec_items b.text) b.traded x) (sym then)
    (so_far_more w s₀ s s' cs₀ cs c a b k t (next ∙ ap (λ x. (step x s c).1) e) before)

-- what the marks tell of the members
accounts_alike : (p q : ℕ → Bool) (acs : List Account) (n m : ℕ) → n + m ≤ member_places → ((x : ℕ) → x < member_places → p x ≡ q x) → accounts_from p acs n m ≡ accounts_from q acs n m
accounts_alike p q acs zero m h e = refl
accounts_alike p q acs (suc n) m h e =
    let b : m < member_places = omega arith in
    let here : account_piece p acs m ≡ account_piece q acs m = ap (λ x. cond x (account_row m (account acs m)) []) (e m b) in
    let rest = accounts_alike p q acs n (suc m) (omega arith) e in
    ap (λ x. x ++ accounts_from p acs n (suc m)) here ∙ ap (λ x. account_piece q acs m ++ x) rest

-- no call is left
pub so_far_end : (w : Way) (s₀ s : Session) (cs₀ : List Call) (text whole : List ℕ) (traded : List Bool) (k : ℕ) →
    SoFar w s₀ s cs₀ [] text traded k → whole ≡ text ++ accounts_text (marked traded) s.accounts →
    whole ≡ history_text (fold (called w) (record { session = s₀; events = [] }) cs₀)
unfolding accounts_text
so_far_end w s₀ s cs₀ text whole traded k f e =
    let h = f.history in
    e ∙ ap (λ x. x ++ accounts_from (marked traded) s.accounts last_member 1) f.told
    ∙ ap (λ x. events_text 1 h.events ++ x) (accounts_alike (marked traded) (has_line (all_lines h)) s.accounts last_member 1 (omega arith) f.marks)
    ∙ ap (λ (x : Session). events_text 1 h.events ++ accounts_from (has_line (all_lines h)) x.accounts last_member 1) (sym f.session)
    ∙ ap history_text f.runs

-- and the session was opened with these figures
pub so_far_whole : (w v : Way) (period : ℕ) (s₀ s : Session) (cs₀ cs : List Call) (text whole : List ℕ) (traded : List Bool) (k : ℕ) →
    w ≡ v → s₀ ≡ opening period → cs ≡ [] → SoFar w s₀ s cs₀ cs text traded k → whole ≡ text ++ accounts_text (marked traded) s.accounts →
    whole ≡ history_text (run v period cs₀)
so_far_whole w v period s₀ s cs₀ cs text whole traded k e o none f t =
    so_far_end w s₀ s cs₀ text whole traded k (subst (λ (x : List Call). SoFar w s₀ s cs₀ x text traded k) none f) t
    ∙ ap (λ (x : Way). history_text (fold (called x) (record { session = s₀; events = [] }) cs₀)) e
    ∙ ap (λ (x : Session). history_text (fold (called v) (record { session = x; events = [] }) cs₀)) o
