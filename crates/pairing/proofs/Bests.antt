-- The best standing orders: they stand, quotes find them, and where they do not meet nothing crosses.
use Rattle.std.proofs.Common.{◌≡◌, ℕ, zero, suc, ◌<◌, Bool, true, false, cond, List, length, IfSome, Some, None, Option, sym, refl, ap, ◌∙◌, subst, inl, inr, arith, MatchOption}
use Rattle.std.proofs.lemmas.List.{get_or_past}
use Rattle.std.proofs.lemmas.Bool.{cases_eq, cases_Bool}
use Rattle.ranking.specs.declared.OrderFields.{OrderFields}
use Rattle.ranking.specs.Laws.{better}
use Rattle.ranking.specs.Orders.{OrderRank, OrderRankLaw, order_rank}
use Rattle.ranking.specs.Best.{leads, joined, best_of, place_of, Distinct, Found}
use Rattle.ranking.proofs.Bests.{best_found}
use Rattle.orders.specs.declared.order.Order.{Order}
use Rattle.orders.specs.Orders.{at, no_order}
use Rattle.orders.specs.Kept.{Sound}
use Rattle.orders.proofs.Keeps.{sound_parts}
use Rattle.steps.specs.Pairing.{Pairs, fields_of, stands, standing_on, best_place, meeting, best_pair, Uncrossed}
use Rattle.pairing.specs.Quotes.{quote_on, best_on}

-- orders are numbered by their places
abbrev pub Numbered : List Order → Type 0
Numbered os = (k : ℕ) → k < length os → (at os k).number ≡ suc k

pub sound_numbered : (os : List Order) → Sound os (length os) → Numbered os
sound_numbered os h k l = (sound_parts k (at os k) (h k l)).number

none_stands : (side : Bool) → stands side no_order ≡ false
none_stands true = refl
none_stands false = refl

pub stands_in : (side : Bool) (os : List Order) (k : ℕ) → stands side (at os k) ≡ true → k < length os
stands_in side os k y = let none = none_stands side in grind (arith, get_or_past)

-- ---- the place of a best order

-- a place holds the thing that is said of it
abbrev Held : {X : Type 0} → (ℕ → Option X) → Option (ℕ × X) → Type 0
Held thing best = IfSome best (λ b. thing b.0 ≡ Some b.1)

module _ {X : Type 0} (ahead : X → X → Bool) (thing : ℕ → Option X) where
  joined_held : (n : ℕ) (here : Option X) (best : Option (ℕ × X)) → thing n ≡ here → Held thing best → Held thing (joined ahead n here best)
  joined_held n None best e h = h
  joined_held n (Some x) best e h = grind arith

  best_held : (n : ℕ) → Held thing (best_of ahead n thing)
  best_held zero = tt
  best_held (suc n) = joined_held n (thing n) (best_of ahead n thing) refl (best_held n)

on_stands : (side : Bool) (os : List Order) (k : ℕ) (x : OrderFields) → standing_on side os k ≡ Some x → stands side (at os k) ≡ true
on_stands side os k x e = grind arith

held_stands : (side : Bool) (os : List Order) (best : Option (ℕ × OrderFields)) → Held (standing_on side os) best →
    IfSome (place_of best) (λ k. stands side (at os k) ≡ true)
held_stands side os None h = tt
held_stands side os (Some b) h = on_stands side os b.0 b.1 h

-- the best order of a side stands on it
pub best_stands : (rank : OrderRank) (side : Bool) (os : List Order) → IfSome (best_on rank side os) (λ k. stands side (at os k) ≡ true)
best_stands rank side os =
    held_stands side os (best_of rank (length os) (standing_on side os)) (best_held rank (standing_on side os) (length os))

pub best_in : (rank : OrderRank) (side : Bool) (os : List Order) (k : ℕ) → best_on rank side os ≡ Some k → k < length os
best_in rank side os k e = let here = best_stands rank side os in stands_in side os k (grind arith)

-- ---- by quotes

abbrev quoted : {X : Type 0} → (OrderFields → X) → Option (ℕ × OrderFields) → Option (ℕ × X)
quoted made None = None
quoted made (Some b) = Some (b.0, made b.1)

quoted_place : {X : Type 0} (made : OrderFields → X) (best : Option (ℕ × OrderFields)) → place_of (quoted made best) ≡ place_of best
quoted_place made best = grind arith

module _ {X : Type 0} (ahead : X → X → Bool) (made : OrderFields → X) where
  quoted_leads : (x : OrderFields) (best : Option (ℕ × OrderFields)) → leads ahead (made x) (quoted made best) ≡ leads (order_rank ahead made) x best
  quoted_leads x best = grind arith

  quoted_joined : (n : ℕ) (stand : Bool) (x : OrderFields) (best : Option (ℕ × OrderFields)) →
      joined ahead n (cond stand (Some (made x)) None) (quoted made best) ≡ quoted made (joined (order_rank ahead made) n (cond stand (Some x) None) best)
  quoted_joined n stand x best = let same = quoted_leads x best in grind arith

  quoted_best : (side : Bool) (os : List Order) (n : ℕ) → best_of ahead n (quote_on made side os) ≡ quoted made (best_of (order_rank ahead made) n (standing_on side os))
  quoted_best side os zero = refl
  quoted_best side os (suc n) =
      ap (joined ahead n (quote_on made side os n)) (quoted_best side os n)
      ∙ quoted_joined n (stands side (at os n)) (fields_of (at os n)) (best_of (order_rank ahead made) n (standing_on side os))

  -- the best of the quotes is the best of the orders that they are made from
  best_by_quotes : (side : Bool) (os : List Order) → place_of (best_of ahead (length os) (quote_on made side os)) ≡ best_on (order_rank ahead made) side os
  best_by_quotes side os =
      ap place_of (quoted_best side os (length os)) ∙ quoted_place made (best_of (order_rank ahead made) (length os) (standing_on side os))

  pub best_found_by : (side : Bool) (os : List Order) (found known : Option ℕ) → found ≡ place_of (best_of ahead (length os) (quote_on made side os)) → found ≡ known →
      best_on (order_rank ahead made) side os ≡ known
  best_found_by side os found known e is = sym (best_by_quotes side os) ∙ sym e ∙ is

  -- a place that is found is within the table
  pub found_in : (side : Bool) (os : List Order) (found : Option ℕ) (k : ℕ) → found ≡ place_of (best_of ahead (length os) (quote_on made side os)) → found ≡ Some k → k < length os
  found_in side os found k e is = best_in (order_rank ahead made) side os k (best_found_by side os found (Some k) e is)

-- ---- nothing crosses

abbrev number_of : OrderFields → ℕ
number_of o = o.number

some_fields : (side : Bool) (os : List Order) (k : ℕ) (x : OrderFields) → standing_on side os k ≡ Some x → fields_of (at os k) ≡ x
some_fields side os k x e = grind arith

distinct : (side : Bool) (os : List Order) → Numbered os → Distinct number_of (length os) (standing_on side os)
distinct side os nb j k x y lj lk ej ek same =
    omega (arith, nb j lj, nb k lk, ap number_of (some_fields side os j x ej), ap number_of (some_fields side os k y ek), same)

-- the place of an order whose limit no standing order of its side betters; none where none stands
abbrev Top : Bool → List Order → Option ℕ → Type 0
Top side os best =
    MatchOption best ((k : ℕ) → k < length os → stands side (at os k) ≡ false)
    (λ b. (k : ℕ) → stands side (at os k) ≡ true → better side (at os k).limit (at os b).limit ≡ false)

module _ (side : Bool) (ahead : OrderRank) (law : OrderRankLaw side ahead) (os : List Order) (nb : Numbered os) where
  found_top : (best : Option ℕ) → Found ahead (length os) (standing_on side os) best → Top side os best
  found_top None f = λ k l. let none = f k l in grind arith
  found_top (Some b) (x, (lb, eb, ahead-all)) = λ k y. elim (cases_Bool (better side (at os k).limit (at os b).limit)) [
    | inr n ↦ n
    | inl t ↦
        let same : fields_of (at os b) ≡ x = some_fields side os b x eb in
        let up : ahead (fields_of (at os k)) (fields_of (at os b)) ≡ true = law.limits (fields_of (at os k)) (fields_of (at os b)) t in
        elim (cases_eq k b) [
          | inl e ↦ absurd (unbettered side (at os b).limit (subst (λ i. better side (at os i).limit (at os b).limit ≡ true) e t))
          | inr ne ↦
              let lk = stands_in side os k y in
              let apart : (at os b).number ≡ (at os k).number → ⊥ = λ m. ne (omega (arith, nb b lb, nb k lk)) in
              let one = law.ranks.one (fields_of (at os b)) (fields_of (at os k)) apart in
              let down = ahead-all k (fields_of (at os k)) lk ne (grind arith) in
              grind arith
        ]
  ]
    where
      unbettered : (s : Bool) (a : ℕ) → better s a a ≡ true → ⊥
      unbettered true a h = grind arith
      unbettered false a h = grind arith

  best_top : Top side os (place_of (best_of ahead (length os) (standing_on side os)))
  best_top = found_top _ (best_found number_of ahead law.ranks (standing_on side os) (length os) _ refl (distinct side os nb))

meets_none : (os : List Order) (b s : Option ℕ) → Top true os b → Top false os s → meeting os b s ≡ None → Uncrossed os
meets_none os None s h g e j k sj sk = let none = h j (stands_in true os j sj) in grind arith
meets_none os (Some b) None h g e j k sj sk = let none = g k (stands_in false os k sk) in grind arith
meets_none os (Some b) (Some s) h g e j k sj sk = let buy = h j sj in let sell = g k sk in grind arith

-- where no best buy meets the best sell, every standing buy's limit is below every standing sell's
pub uncrossed : (rules : Pairs) → OrderRankLaw true rules.buys → OrderRankLaw false rules.sells → (os : List Order) → Numbered os →
    best_pair rules os ≡ None → Uncrossed os
uncrossed rules buys sells os nb e =
    meets_none os (best_place rules true os) (best_place rules false os)
    (best_top true rules.buys buys os nb) (best_top false rules.sells sells os nb) e
