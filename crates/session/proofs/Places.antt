-- A place, by its questions and by what it does.
use Rattle.std.proofs.Common.{◌≡◌, ℕ, suc, ◌≤◌, Bool, true, false, cond, not, ◌&&◌, ◌||◌, ltb, leb, List, [], ◌∷◌, ◌++◌, length, Some, None, Ok, Err, Option, Result, sym, refl, ap, ◌∙◌, subst, arith}
use Rattle.std.specs.List.{list_any}
use Rattle.std.proofs.lemmas.Bool.{le-leb, leb-true}
use Rattle.std.proofs.lemmas.List.Sums.{sum_by_push}
use Rattle.curves.specs.Orders.{on, keeps, willing}
use Rattle.orders.specs.declared.order.Ask.{Ask}
use Rattle.orders.specs.Settlement.{Session, settled, cleared, with_orders}
use Rattle.ticks.specs.Ticks.{highest_tick}
use Rattle.orders.specs.declared.order.Order.{Order}
use Rattle.orders.specs.Orders.{most_orders, least_quantity, most_quantity, buys, bids_of}
use Rattle.orders.specs.declared.order.Kind.TheVariants.{Normal, FillAndKill, FillOrKill}
use Rattle.orders.specs.Kept.{most_lines, Sound}
use Rattle.pairing.proofs.Loops.{pair_lines_fit}
use Rattle.orders.specs.Changes.{accepted, new_order}
use Rattle.steps.specs.declared.call.Acceptance.{Acceptance}
use Rattle.steps.specs.declared.refusal.Refusal.{Refusal}
use Rattle.steps.specs.declared.refusal.Refusal.TheVariants.{Member, Limit, Quantity, OtherSide, Numbers, Lines}
use Rattle.steps.specs.declared.refusal.Refusal.TheVariants.{Kind as KindOf}
use Rattle.steps.specs.Refusals.{Asked, first_no}
use Rattle.steps.specs.Ways.{Way, Uniform, Paired, Continuous, is_continuous, place_lines}
use Rattle.history.proofs.Wholes.{covers, cover_willing}
use Rattle.session.specs.Entries.{entered}
use Rattle.steps.specs.Calls.{made, is_member, is_normal, opposes, may_trade, with_ask, lines_of_place, ask_questions, closed, acceptance, placed, place}

-- questions that are put in a row
first_no_some : (xs ys : List Asked) (q : Refusal) → first_no xs ≡ Some q → first_no (xs ++ ys) ≡ Some q
first_no_some [] ys q e = let z : ◌≡◌ {A = ℕ} 0 1 = cc in absurd (omega arith)
first_no_some (x ∷ xs) ys q e =
    elim x.1 as (λ b. cond b (first_no xs) (Some x.0) ≡ Some q → cond b (first_no (xs ++ ys)) (Some x.0) ≡ Some q) [
      | true ↦ λ h. first_no_some xs ys q h
      | false ↦ λ h. h
    ] e

first_no_none : (xs ys : List Asked) → first_no xs ≡ None → first_no (xs ++ ys) ≡ first_no ys
first_no_none [] ys e = refl
first_no_none (x ∷ xs) ys e =
    elim x.1 as (λ b. cond b (first_no xs) (Some x.0) ≡ None → cond b (first_no (xs ++ ys)) (Some x.0) ≡ first_no ys) [
      | true ↦ λ h. first_no_none xs ys h
      | false ↦ λ h. let z : ◌≡◌ {A = ℕ} 0 1 = cc in absurd (omega arith)
    ] e

-- what questions leave where one is answered no, and where all are answered yes
made_refused : {A : Type 0} (o : Option Refusal) (x : A × Session) (r : Result A Refusal) (s t : Session) (q : Refusal) →
    ◌≡◌ {A = Result A Refusal × Session} (r, t) (made o x s) → r ≡ Err q → (o ≡ Some q) × (t ≡ s)
made_refused None x r s t q e is = grind arith
made_refused (Some question) x r s t q e is = (grind arith, grind arith)

pub made_accepted : {A : Type 0} (o : Option Refusal) (x : A × Session) (r : Result A Refusal) (s t : Session) (n : A) →
    ◌≡◌ {A = Result A Refusal × Session} (r, t) (made o x s) → r ≡ Ok n → (o ≡ None) × (n ≡ x.0) × (t ≡ x.1)
made_accepted None x r s t n e is = (refl, grind arith, grind arith)
made_accepted (Some question) x r s t n e is = grind arith

pub place_refused : (w : Way) (a : Ask) (b : Bool) (s t : Session) (r : Result ℕ Refusal) (q : Refusal) → is_continuous w ≡ b →
    ◌≡◌ {A = Result ℕ Refusal × Session} (r, t) (entered b a s) → r ≡ Err q → ◌≡◌ {A = Result Acceptance Refusal × Session} (Err q, t) (place w a s)
place_refused w a b s t r q way e is =
    let (question, same) = made_refused (first_no (ask_questions b a s)) (suc (length s.orders), accepted a (cleared s)) r s t q e is in
    let here : first_no (ask_questions (is_continuous w) a s) ≡ Some q = rw way question in
    rw same
    (sym (ap (λ o. made o (placed w a s) s) (first_no_some (ask_questions (is_continuous w) a s) ((Lines, leb (length (lines_of_place w a s.orders)) most_lines) ∷ []) q here)))

pub place_accepted : (w : Way) (a : Ask) (s : Session) → first_no (ask_questions (is_continuous w) a s) ≡ None →
    length (lines_of_place w a s.orders) ≤ most_lines → place w a s ≡ (Ok (placed w a s).0, (placed w a s).1)
place_accepted w a s e few =
    let room = (Lines, leb (length (lines_of_place w a s.orders)) most_lines) ∷ [] in
    let yes-room : first_no room ≡ None = ap (λ b. cond b None (Some Lines)) (le-leb (length (lines_of_place w a s.orders)) most_lines few) in
    ap (λ o. made o (placed w a s) s) (first_no_none (ask_questions (is_continuous w) a s) room e ∙ yes-room)

-- the order of an ask covers nothing of its own ask, so that it may trade where it might without it
own_covers_none : (a : Ask) (n : ℕ) → covers (not (buys a.side)) a.limit (new_order a n) ≡ 0
own_covers_none a n =
    elim (buys a.side) as (λ b. cond (on (not b) (record { buys = b; limit = a.limit; left = a.quantity }) && keeps (not b) a.limit a.limit) a.quantity 0 ≡ 0)
    [ true ↦ refl | false ↦ refl ]

pub same_trades : (a : Ask) (os : List Order) → may_trade a.kind a (with_ask a os) ≡ may_trade a.kind a os
same_trades a os =
    let side = not (buys a.side) in
    let new = new_order a (suc (length os)) in
    let same : willing side (bids_of (with_ask a os)) a.limit ≡ willing side (bids_of os) a.limit =
    omega (
      arith,
      cover_willing side a.limit os,
      cover_willing side a.limit (with_ask a os),
      sum_by_push (covers side a.limit) os new,
      own_covers_none a (suc (length os)),
    ) in
    elim a.kind as (λ k. may_trade k a (with_ask a os) ≡ may_trade k a os)
    [ Normal ↦ refl | FillAndKill ↦ refl | FillOrKill ↦ ap (leb a.quantity) same ]

-- an ask that is numbered, and then trades if it may
pub trades_where_it_may : (w : Way) (a : Ask) (s t u : Session) (b : Bool) → b ≡ may_trade a.kind a s.orders → t ≡ accepted a (cleared s) →
    u ≡ cond b (settled (place_lines w t.orders) t) t →
    u ≡ settled (lines_of_place w a s.orders) (with_orders (with_ask a s.orders) s)
trades_where_it_may w a s t u b e i o =
    o ∙ ap (λ (x : Session). cond b (settled (place_lines w x.orders) x) x) i
    ∙ elim b as (λ c. cond c (settled (place_lines w (with_ask a s.orders)) (accepted a (cleared s))) (accepted a (cleared s))
    ≡ settled (cond c (place_lines w (with_ask a s.orders)) []) (with_orders (with_ask a s.orders) s)) [ true ↦ refl | false ↦ refl ]
    ∙ ap (λ c. settled (cond c (place_lines w (with_ask a s.orders)) []) (with_orders (with_ask a s.orders) s)) e

-- and what it may not leave standing is killed
pub answered : (w : Way) (a : Ask) (s u v : Session) (n k i : ℕ) → u ≡ settled (lines_of_place w a s.orders) (with_orders (with_ask a s.orders) s) →
    i ≡ length s.orders → n ≡ suc (length s.orders) → ◌≡◌ {A = ℕ × Session} (k, v) (closed a.kind i u) →
    ◌≡◌ {A = Acceptance × Session} (record { number = n; killed = k }, v) (placed w a s)
answered w a s u v n k i e at number shut =
    ap (acceptance n) (shut ∙ ap (λ x. closed a.kind x u) at ∙ ap (closed a.kind (length s.orders)) e)
    ∙ ap (λ x. acceptance x (closed a.kind (length s.orders) (settled (lines_of_place w a s.orders) (with_orders (with_ask a s.orders) s)))) number

-- ---- what the code tells

second_yes : (p q : Bool) (rest : Option Refusal) (r t : Refusal) → cond p (cond q rest (Some r)) (Some t) ≡ None → q ≡ true
second_yes true true rest r t e = refl
second_yes true false rest r t e = let z : ◌≡◌ {A = ℕ} 0 1 = cc in absurd (omega arith)
second_yes false q rest r t e = let z : ◌≡◌ {A = ℕ} 0 1 = cc in absurd (omega arith)

-- what is asked of an ask after its limit
abbrev later_questions : Bool → Ask → Session → List Asked
later_questions c a s =
    (Quantity, leb least_quantity a.quantity && leb a.quantity most_quantity)
    ∷ (KindOf, is_normal a.kind || c)
    ∷ (OtherSide, not (list_any (opposes a) s.orders))
    ∷ (Numbers, ltb (length s.orders) most_orders)
    ∷ []

pub limit_passes : (c : Bool) (a : Ask) (s : Session) → first_no (ask_questions c a s) ≡ None → a.limit ≤ highest_tick
limit_passes c a s e =
    leb-true a.limit highest_tick (second_yes (is_member a.member) (leb a.limit highest_tick) (first_no (later_questions c a s)) Limit Member e)

-- the lines of a place always fit
place_lines_fit : (w : Way) (os : List Order) → Sound os (length os) → length os ≤ most_orders → length (place_lines w os) ≤ most_lines
place_lines_fit (Uniform price share reference) os sound few = omega arith
place_lines_fit (Paired rules) os sound few = omega arith
place_lines_fit (Continuous rules) os sound few = pair_lines_fit rules os sound few

pub few_lines : (w : Way) (a : Ask) (s : Session) (os : List Order) → os ≡ with_ask a s.orders → Sound os (length os) → length os ≤ most_orders →
    length (lines_of_place w a s.orders) ≤ most_lines
few_lines w a s os e sound few =
    let fit : length (place_lines w (with_ask a s.orders)) ≤ most_lines = subst (λ (x : List Order). length (place_lines w x) ≤ most_lines) e (place_lines_fit w os sound few) in
    elim (may_trade a.kind a s.orders) as (λ b. length (cond b (place_lines w (with_ask a s.orders)) []) ≤ most_lines) [
      | true ↦ fit
      | false ↦ omega arith
    ]
