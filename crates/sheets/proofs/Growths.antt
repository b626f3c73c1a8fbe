-- A sheet grows line by line.
use Rattle.std.proofs.Common.{◌≡◌, ℕ, suc, ◌+◌, ◌-◌, ◌<◌, ◌≤◌, Bool, true, false, ◌||◌, eqb, ◌≢◌, List, [], ◌∷◌, ◌++◌, length, get_or, take, drop, set, replicate, sym, refl, ap, ◌∙◌, subst, inl, inr, append_assoc, append-nil, arith}
use Rattle.std.proofs.lemmas.List.{get_or-replicate, get_or-set_same, get_or-set_other, take_more, take_all, at_drop_more, at_drop_all}
use Rattle.std.proofs.lemmas.Bool.{cases_eq, eq-eqb, ne_eqb, or_right}
use Rattle.orders.specs.declared.order.Line.{Line}
use Rattle.orders.specs.Settlement.{member_places}
use Rattle.orders.specs.Kept.{no_line}
use Rattle.orders.specs.Members.{has_line}
use Rattle.orders.proofs.Marks.{has_push}
use Rattle.sheets.specs.Rows.{line_row, line_rows}
use Rattle.orders.specs.declared.order.Account.{Account}
use Rattle.sheets.specs.Sheet.{account_piece, accounts_from}
use Rattle.sheets.specs.Growing.{Marks, marked}

pub marks_none : Marks [] (replicate member_places false)
marks_none m h = get_or-replicate member_places m false false h

or_false : (b : Bool) → (b || false) ≡ b
or_false true = refl
or_false false = refl

-- the member of one more line is marked
pub marks_more : (seen : List Line) (marks : List Bool) (l : Line) → length marks ≡ member_places → l.member < member_places →
    Marks seen marks → Marks (seen ++ (l ∷ [])) (set marks l.member true)
marks_more seen marks l n lt h m b =
    let p = has_push seen l m in
    elim (cases_eq m l.member) [
      | inl e ↦
          let w : l.member < length marks = omega arith in
          let g : get_or (set marks l.member true) m false ≡ true = ap (λ k. get_or (set marks l.member true) k false) e ∙ get_or-set_same marks l.member true false w in
          g ∙ sym (p ∙ or_right (has_line seen m) (eqb l.member m) (eq-eqb l.member m (sym e)))
      | inr d ↦
          let o : l.member ≢ m = λ q. d (sym q) in
          let z : (has_line seen m || eqb l.member m) ≡ has_line seen m = ap (λ x. has_line seen m || x) (ne_eqb l.member m o) ∙ or_false (has_line seen m) in
          get_or-set_other marks l.member m true false d ∙ h m b ∙ sym (p ∙ z)
    ]

-- and so after the first i + 1 of some lines
pub marks_next : (seen ls : List Line) (i m : ℕ) (marks : List Bool) → m ≡ (get_or ls i no_line).member → i < length ls → length marks ≡ member_places → (get_or ls i no_line).member < member_places →
    Marks (seen ++ take i ls) marks → Marks (seen ++ take (i + 1) ls) (set marks m true)
marks_next seen ls i m marks is lt n b h =
    let l = get_or ls i no_line in
    let e : (seen ++ take i ls) ++ (l ∷ []) ≡ seen ++ take (i + 1) ls = append_assoc seen (take i ls) (l ∷ []) ∙ ap (λ x. seen ++ x) (sym (take_more ls i no_line lt)) in
    let more : Marks (seen ++ take (i + 1) ls) (set marks l.member true) = subst (λ (x : List Line). Marks x (set marks l.member true)) e (marks_more (seen ++ take i ls) marks l n b h) in
    subst (λ x. Marks (seen ++ take (i + 1) ls) (set marks x true)) (sym is) more

pub marks_all : (seen ls : List Line) (i : ℕ) (marks : List Bool) → length ls ≤ i → Marks (seen ++ take i ls) marks → Marks (seen ++ ls) marks
marks_all seen ls i marks h m = subst (λ (x : List Line). Marks (seen ++ x) marks) (take_all i ls h) m

-- one more line is written
pub rows_more : (ls : List Line) (i : ℕ) (bs bs' w : List ℕ) → i < length ls → bs' ≡ bs ++ line_row (get_or ls i no_line) →
    bs ++ line_rows (drop i ls) ≡ w → bs' ++ line_rows (drop (i + 1) ls) ≡ w
rows_more ls i bs bs' w h b inv =
    let s = at_drop_more line_rows ls i no_line h in
    let u = append_assoc bs (line_row (get_or ls i no_line)) (line_rows (drop (i + 1) ls)) in
    cc

pub rows_end : (ls : List Line) (i : ℕ) (bs w : List ℕ) → length ls ≤ i → bs ++ line_rows (drop i ls) ≡ w → bs ≡ w
rows_end ls i bs w h inv =
    let s = at_drop_all line_rows ls i h in
    let u = append-nil bs in
    cc

-- one more member
pub accounts_more : (f f' f'' : List Bool) (acs : List Account) (m : ℕ) (bs bs' w : List ℕ) → m < 64 → f ≡ f'' → f' ≡ f →
    bs' ≡ bs ++ account_piece (marked f) acs m → bs ++ accounts_from (marked f) acs (64 - m) m ≡ w →
    (bs' ++ accounts_from (marked f') acs (64 - (m + 1)) (m + 1) ≡ w) × (f' ≡ f'')
accounts_more f f' f'' acs m bs bs' w h e e' b inv =
    let piece = account_piece (marked f) acs m in
    let rest = accounts_from (marked f) acs (64 - (m + 1)) (m + 1) in
    let k : 64 - m ≡ suc (64 - (m + 1)) = omega arith in
    let o : suc m ≡ m + 1 = omega arith in
    let s : accounts_from (marked f) acs (64 - m) m ≡ piece ++ rest = ap (λ n. accounts_from (marked f) acs n m) k ∙ ap (λ n. piece ++ accounts_from (marked f) acs (64 - (m + 1)) n) o in
    let u = append_assoc bs piece rest in
    let v : bs' ++ rest ≡ w = cc in
    (ap (λ g. bs' ++ accounts_from (marked g) acs (64 - (m + 1)) (m + 1)) e' ∙ v, e' ∙ e)

pub accounts_end : (f : List Bool) (acs : List Account) (m : ℕ) (bs w : List ℕ) → 64 ≤ m → bs ++ accounts_from (marked f) acs (64 - m) m ≡ w → bs ≡ w
accounts_end f acs m bs w h inv =
    let z : 64 - m ≡ 0 = omega arith in
    sym (ap (λ k. bs ++ accounts_from (marked f) acs k m) z ∙ append-nil bs) ∙ inv
