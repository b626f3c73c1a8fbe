-- What the questions of a call leave: its step.
use Rattle.std.proofs.Common.{◌≡◌, ℕ, zero, suc, true, false, eqb, leb, List, [], ◌∷◌, length, take, drop, Some, None, Ok, Err, Option, sym, refl, ap, ◌∙◌, arith}
use Rattle.std.specs.List.{AllByRecursion}
use Rattle.std.proofs.lemmas.Bool.{cond_both, cond-true, both_ways, and_parts, leb-true, ltb-true, le-leb}
use Rattle.ticks.specs.Ticks.{highest_tick}
use Rattle.orders.specs.declared.order.Ask.{Ask}
use Rattle.orders.specs.declared.order.Kind.{Kind}
use Rattle.orders.specs.declared.order.Kind.TheVariants.{Normal, FillAndKill, FillOrKill}
use Rattle.orders.specs.Orders.{most_orders, last_member, least_quantity, most_quantity}
use Rattle.orders.specs.Settlement.{Session}
use Rattle.orders.specs.Kept.{most_lines}
use Rattle.steps.specs.declared.call.Call.{Call}
use Rattle.steps.specs.declared.call.Call.TheVariants.{Place, Withdraw, Round}
use Rattle.steps.specs.declared.call.Reply.{Reply}
use Rattle.steps.specs.declared.call.Reply.TheVariants.{Accepted, Withdrawn}
use Rattle.steps.specs.declared.refusal.Refusal.{Refusal}
use Rattle.steps.specs.declared.refusal.Refusal.TheVariants.{Member, Limit, Quantity, OtherSide, Numbers, Lines, NotGiven, NotOwned, NotStanding}
use Rattle.steps.specs.declared.refusal.Refusal.TheVariants.{Kind as KindOf}
use Rattle.steps.specs.Refusals.{number_of, Asked, first_no}
use Rattle.steps.specs.Ways.{Way, Laws}
use Rattle.steps.specs.Calls.{Answer, made, told, place_questions, lines_of_place, may_trade, placed, withdraw_questions, withdrawn, step}
use Rattle.history.specs.Histories.{event_of, WholeIf, Whole, Apart}
use Rattle.history.proofs.Wholes.{whole_lines}
use Rattle.history.proofs.Carries.{Sane, Stepped}
use Rattle.history.proofs.Calls.{Passed, new_good, place_few, placed_as, refused_steps, withdraw_steps, round_steps, place_steps}

-- where the first no is to none of the first n questions, those are answered yes, and it is to a later one
passes : (o : Option Refusal) (n : ℕ) (qs : List Asked) → AllByRecursion (λ (a : Asked). o ≡ Some a.0 → ⊥) (take n qs) → first_no qs ≡ o →
    AllByRecursion (λ (a : Asked). a.1 ≡ true) (take n qs) × (first_no (drop n qs) ≡ o)
passes o zero qs other e = (tt, e)
passes o (suc n) [] other e = (tt, e)
passes o (suc n) (a ∷ qs) other e =
    cond_both a.1 (first_no qs) (Some a.0) (λ z. z ≡ o → ((a.1 ≡ true) × AllByRecursion (λ (a : Asked). a.1 ≡ true) (take n qs)) × (first_no (drop n qs) ≡ o))
    (λ y e. let later = passes o n qs other.1 e in ((y, later.0), later.1))
    (λ _ e. absurd (other.0 (sym e)))
    e

-- the first no is to no question but that about lines
abbrev OnlyLines : Option Refusal → Type 0
OnlyLines o = (q : Refusal) → eqb (number_of q) (number_of Lines) ≡ false → o ≡ Some q → ⊥

only_none : OnlyLines None
only_none q n e = let z : ◌≡◌ {A = ℕ} 0 1 = cc in omega arith

only_lines : OnlyLines (Some Lines)
only_lines q n e =
    let same : Lines ≡ q = cc in
    both_ways (eqb (number_of q) (number_of Lines)) n (ap (λ x. eqb (number_of x) (number_of Lines)) (sym same))

place_passes : (w : Way) (a : Ask) (s : Session) (o : Option Refusal) → OnlyLines o → first_no (place_questions w a s) ≡ o →
    Passed a s × (first_no ((Lines, leb (length (lines_of_place w a s.orders)) most_lines) ∷ []) ≡ o)
place_passes w a s o only e =
    let h = passes o 6 (place_questions w a s)
    (only Member refl, (only Limit refl, (only Quantity refl, (only KindOf refl, (only OtherSide refl, (only Numbers refl, tt)))))) e in
    let m = and_parts (leb 1 a.member) (leb a.member last_member) h.0.0 in
    let q = and_parts (leb least_quantity a.quantity) (leb a.quantity most_quantity) h.0.1.1.0 in (
      record {
        member = leb-true a.member last_member m.1;
        limit = leb-true a.limit highest_tick h.0.1.0;
        some = omega (arith, leb-true least_quantity a.quantity q.0);
        room = ltb-true (length s.orders) most_orders h.0.1.1.1.1.1.0;
      },
      h.1,
    )

-- the lines of a place always fit
pub never_lines : (w : Way) → Laws w → (a : Ask) (s : Session) → Sane s → first_no (place_questions w a s) ≡ Some Lines → ⊥
never_lines w laws a s i e =
    let p = place_passes w a s (Some Lines) only_lines e in
    let few = place_few w laws a s i p.0 (may_trade a.kind a s.orders) in
    let y = cond-true (leb (length (lines_of_place w a s.orders)) most_lines) None (Some Lines) (le-leb (length (lines_of_place w a s.orders)) most_lines few) in
    let z : ◌≡◌ {A = ℕ} 0 1 = cc in
    omega arith

-- an answer is that of the call, or that of its first no
answers : {A : Type 0} (o : Option Refusal) (reply : A → Reply) (r : A × Session) (s : Session) (P : Answer × Session → Type 0) →
    (o ≡ None → P (Ok (reply r.0), r.1)) → ((q : Refusal) → o ≡ Some q → P (Err q, s)) → P (told reply (made o r s).0, (made o r s).1)
answers None reply r s P accept refuse = accept refl
answers (Some q) reply r s P accept refuse = refuse q refl

pub stepped : (w : Way) → Laws w → (s : Session) → Sane s → (c : Call) → Stepped w s (event_of s c (step w s c)) (step w s c).1
stepped w laws s i (Place a) =
    answers (first_no (place_questions w a s)) Accepted (placed w a s) s (λ r. Stepped w s (event_of s (Place a) r) r.1)
    (λ e. place_steps w laws a s i (place_passes w a s None only_none e).0 a.kind)
    (λ q e. refused_steps w s (Place a) q i tt (λ l. never_lines w laws a s i (e ∙ ap Some l)))
stepped w laws s i (Withdraw o) =
    let m = o.member in
    let n = o.number in
    answers (first_no (withdraw_questions s m n)) Withdrawn (withdrawn n s) s (λ r. Stepped w s (event_of s (Withdraw o) r) r.1)
    (λ e.
    let h = passes None 2 (withdraw_questions s m n) (only_none Member refl, (only_none NotGiven refl, tt)) e in
    let g = and_parts (leb 1 n) (leb n (length s.orders)) h.0.1.0 in
    withdraw_steps w s o i (leb-true 1 n g.0) (leb-true n (length s.orders) g.1))
    (λ q e. refused_steps w s (Withdraw o) q i tt (λ l.
    let h = passes (Some Lines) 4 (withdraw_questions s m n)
    (only_lines Member refl, (only_lines NotGiven refl, (only_lines NotOwned refl, (only_lines NotStanding refl, tt)))) (e ∙ ap Some l) in
    let z : ◌≡◌ {A = ℕ} 0 1 = cc in
    omega arith))
stepped w laws s i Round = round_steps w laws s i

-- ---- whole or not at all

module _ (w : Way) (laws : Laws w) (a : Ask) (s : Session) (i : Sane s) (passed : Passed a s) (apart : Apart w s.orders) where
  whole_place : (kind : Kind) →
      WholeIf kind (suc (length s.orders)) a.quantity (placed_as w laws a s i passed kind).1.lines
  whole_place Normal = tt
  whole_place FillAndKill = tt
  whole_place FillOrKill = whole_lines w laws a s.orders (new_good w laws a s i passed) apart (may_trade FillOrKill a s.orders) refl

pub whole_steps : (w : Way) → Laws w → (s : Session) → Sane s → Apart w s.orders → (c : Call) → Whole (event_of s c (step w s c))
whole_steps w laws s i apart (Place a) =
    answers (first_no (place_questions w a s)) Accepted (placed w a s) s (λ r. Whole (event_of s (Place a) r))
    (λ e. whole_place w laws a s i (place_passes w a s None only_none e).0 apart a.kind)
    (λ q e. tt)
whole_steps w laws s i apart (Withdraw o) = tt
whole_steps w laws s i apart Round = tt
