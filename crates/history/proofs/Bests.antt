-- The best pair of the orders that stand: two orders that can trade, or none can.
use Rattle.std.proofs.Common.{◌≡◌, ℕ, ◌<◌, ◌≤◌, Bool, true, false, not, ltb, leb, List, [], ◌∷◌, ◌++◌, length, Some, None, Option, sym, refl, ap, ◌∙◌, subst, inl, inr, arith}
use Rattle.std.proofs.lemmas.List.{get_or_past}
use Rattle.std.proofs.lemmas.Bool.{cases_eq, cases_lt, cases_Bool, cond_both, cond-true, and_parts, both_ways, ltb-true, ltb-false, le-ltb, leb-true, le-leb}
use Rattle.curves.specs.Orders.{on}
use Rattle.curves.proofs.Orders.{buys_of_on}
use Rattle.ranking.specs.declared.OrderFields.{OrderFields}
use Rattle.ranking.specs.Laws.{better}
use Rattle.ranking.specs.Orders.{OrderRankLaw}
use Rattle.ranking.specs.Best.{best_of, Distinct, Found}
use Rattle.ranking.proofs.Bests.{best_found}
use Rattle.orders.specs.declared.order.Event.{Event}
use Rattle.orders.specs.declared.order.Order.{Order}
use Rattle.orders.specs.Orders.{buys, after, at, no_order, standing, bid_of}
use Rattle.orders.specs.Settlement.{changed}
use Rattle.steps.specs.Pairing.{Pairs, rank_of, fields_of, stands, standing_on, best_place, meeting, best_pair, Uncrossed}
use Rattle.steps.specs.Ways.{PairsLaw}
use Rattle.history.proofs.Orders.{Good, Ends, changed_at, push_long, push_at}

-- ---- orders that stand on a side

pub stands_parts : (side : Bool) (o : Order) → stands side o ≡ true → (buys o.side ≡ side) × (0 < standing o)
stands_parts side o y =
    let p = and_parts (on side (bid_of o)) (ltb 0 (standing o)) y in
    (buys_of_on side (bid_of o) p.0, ltb-true 0 (standing o) p.1)

nobody_stands : (side : Bool) → stands side no_order ≡ false
nobody_stands true = refl
nobody_stands false = refl

pub stands_in : (side : Bool) (os : List Order) (k : ℕ) → stands side (at os k) ≡ true → k < length os
stands_in side os k y =
    elim (cases_lt k (length os)) [
      | inl l ↦ l
      | inr l ↦ absurd (both_ways _ (ap (stands side) (get_or_past os k no_order l) ∙ nobody_stands side) y)
    ]

-- ---- the best of a side

pub law_of : (rules : Pairs) → PairsLaw rules → (side : Bool) → OrderRankLaw side (rank_of rules side)
law_of rules laws true = laws.0
law_of rules laws false = laws.1

some_fields : (side : Bool) (os : List Order) (k : ℕ) (x : OrderFields) → standing_on side os k ≡ Some x → (stands side (at os k) ≡ true) × (fields_of (at os k) ≡ x)
some_fields side os k x =
    cond_both (stands side (at os k)) (Some (fields_of (at os k))) None (λ t. t ≡ Some x → (stands side (at os k) ≡ true) × (fields_of (at os k) ≡ x))
    (λ y e. (y, cc))
    (λ _ e. let z : ◌≡◌ {A = ℕ} 0 1 = cc in absurd (omega arith))

distinct : (side : Bool) (os : List Order) → Good os → Distinct (λ (o : OrderFields). o.number) (length os) (standing_on side os)
distinct side os g j k x y lj lk ej ek e = omega (
  arith,
  ap (λ (o : OrderFields). o.number) (some_fields side os j x ej).1,
  ap (λ (o : OrderFields). o.number) (some_fields side os k y ek).1,
  (g j lj).number,
  (g k lk).number,
)

abbrev BestOn : Pairs → Bool → List Order → Option ℕ → Type 0
BestOn rules side os place = Found (rank_of rules side) (length os) (standing_on side os) place

-- the best of a side stands on it
best_stands : (rules : Pairs) (side : Bool) (os : List Order) (b : ℕ) → BestOn rules side os (Some b) → stands side (at os b) ≡ true
best_stands rules side os b f = (some_fields side os b f.0 f.1.1).0

not_better : (side : Bool) (l : ℕ) → better side l l ≡ false
not_better true l = le-ltb l l (omega arith)
not_better false l = le-ltb l l (omega arith)

module _ (rules : Pairs) (laws : PairsLaw rules) (os : List Order) (good : Good os) where
  best_on : (side : Bool) → BestOn rules side os (best_place rules side os)
  best_on side =
      best_found (λ (o : OrderFields). o.number) (rank_of rules side) (law_of rules laws side).ranks (standing_on side os) (length os)
      (best_place rules side os) refl (distinct side os good)

  -- no order that stands on a side has a better limit than its best
  best_limit : (side : Bool) (b j : ℕ) → BestOn rules side os (Some b) → stands side (at os j) ≡ true → better side (at os j).limit (at os b).limit ≡ false
  best_limit side b j f y =
      let ahead = rank_of rules side in
      let law = law_of rules laws side in
      let x = fields_of (at os b) in
      let z = fields_of (at os j) in
      let lb = f.1.0 in
      let lj = stands_in side os j y in
      elim (cases_eq j b) [
        | inl e ↦ subst (λ k. better side (at os k).limit (at os b).limit ≡ false) (sym e) (not_better side (at os b).limit)
        | inr ne ↦ elim (cases_Bool (better side (at os j).limit (at os b).limit)) [
          | inr n ↦ n
          | inl t ↦
              let first : ahead x z ≡ true = subst (λ w. ahead w z ≡ true) (sym (some_fields side os b f.0 f.1.1).1)
              (f.1.2 j z lj ne (cond-true (stands side (at os j)) (Some z) None y)) in
              let differ : x.number ≡ z.number → ⊥ = λ m. ne (omega (arith, (good b lb).number, (good j lj).number)) in
              absurd (both_ways (ahead x z) (law.ranks.one x z differ ∙ ap not (law.limits z x t)) first)
        ]
      ]

-- ---- the best pair

-- the place of a side's order
abbrev pub of_side : ℕ × ℕ → Bool → ℕ
of_side p true = p.0
of_side p false = p.1

-- a buy and a sell that stand, and whose limits meet
pub record Pair (os : List Order) (p : ℕ × ℕ) : Type 0 where
  pub stand : (side : Bool) → stands side (at os (of_side p side)) ≡ true
  pub meet : (at os p.1).limit ≤ (at os p.0).limit

sides : (P : Bool → Type 0) → P true → P false → (side : Bool) → P side
sides P y n true = y
sides P y n false = n

module _ (rules : Pairs) (os : List Order) where
  meeting_pair : (b s : Option ℕ) (p : ℕ × ℕ) → BestOn rules true os b → BestOn rules false os s → meeting os b s ≡ Some p → Pair os p
  meeting_pair None s p f g e = let z : ◌≡◌ {A = ℕ} 0 1 = cc in absurd (omega arith)
  meeting_pair (Some b) None p f g e = let z : ◌≡◌ {A = ℕ} 0 1 = cc in absurd (omega arith)
  meeting_pair (Some b) (Some s) p f g met =
      cond_both (leb (at os s).limit (at os b).limit) (Some (b, s)) None (λ o. o ≡ Some p → Pair os p)
      (λ y e.
      let same : (b, s) ≡ p = cc in
      subst (Pair os) same (record {
        stand = sides (λ side. stands side (at os (of_side (b, s) side)) ≡ true) (best_stands rules true os b f) (best_stands rules false os s g);
        meet = leb-true (at os s).limit (at os b).limit y;
      }))
      (λ _ e. let z : ◌≡◌ {A = ℕ} 0 1 = cc in absurd (omega arith))
      met

-- where a side has no best, no order stands on it
none_stands : (rules : Pairs) (side : Bool) (os : List Order) (j : ℕ) → BestOn rules side os None → stands side (at os j) ≡ true → ⊥
none_stands rules side os j f y =
    let n = f j (stands_in side os j y) in
    let t = cond-true (stands side (at os j)) (Some (fields_of (at os j))) None y in
    let z : ◌≡◌ {A = ℕ} 0 1 = cc in
    omega arith

module _ (rules : Pairs) (laws : PairsLaw rules) (os : List Order) (good : Good os) where
  pub best_pair_stands : (p : ℕ × ℕ) → best_pair rules os ≡ Some p → Pair os p
  best_pair_stands p e =
      meeting_pair rules os (best_place rules true os) (best_place rules false os) p (best_on rules laws os good true) (best_on rules laws os good false) e

  meeting_none : (b s : Option ℕ) → BestOn rules true os b → BestOn rules false os s → meeting os b s ≡ None → Uncrossed os
  meeting_none None s f g e j k sj sk = absurd (none_stands rules true os j f sj)
  meeting_none (Some b) None f g e j k sj sk = absurd (none_stands rules false os k g sk)
  meeting_none (Some b) (Some s) f g e j k sj sk =
      let u : (at os j).limit ≤ (at os b).limit = ltb-false (at os b).limit (at os j).limit (best_limit rules laws os good true b j f sj) in
      let v : (at os s).limit ≤ (at os k).limit = ltb-false (at os k).limit (at os s).limit (best_limit rules laws os good false s k g sk) in
      elim (cases_lt (at os b).limit (at os s).limit) [
        | inl lt ↦ omega arith
        | inr le ↦
            let m = le-leb (at os s).limit (at os b).limit le in
            let t = cond-true {A = Option (ℕ × ℕ)} (leb (at os s).limit (at os b).limit) (Some (b, s)) None m in
            let z : ◌≡◌ {A = ℕ} 0 1 = cc in
            absurd (omega arith)
      ]

  -- where there is no best pair, no two orders that stand could trade
  pub no_pair_uncrossed : best_pair rules os ≡ None → Uncrossed os
  no_pair_uncrossed =
      meeting_none (best_place rules true os) (best_place rules false os) (best_on rules laws os good true) (best_on rules laws os good false)

-- ---- what stood

-- what stands of the second orders stood of the first, with its limit
abbrev pub Stood : List Order → List Order → Type 0
Stood os ps = (side : Bool) (k : ℕ) → stands side (at ps k) ≡ true → (stands side (at os k) ≡ true) × ((at ps k).limit ≡ (at os k).limit)

-- so where no two orders could trade, none can
pub stood_uncrossed : (os ps : List Order) → Stood os ps → Uncrossed os → Uncrossed ps
stood_uncrossed os ps h u j k sj sk =
    let a = h true j sj in
    let b = h false k sk in
    omega (arith, u j k a.0 b.0, a.1, b.1)

ended_stands : (e : Event) → Ends e → (side : Bool) (o : Order) → stands side (after e o) ≡ true → ⊥
ended_stands e ends side o y = omega (arith, (stands_parts side (after e o) y).1, ends o)

-- an order that ends leaves no new order standing
pub ended_stood : (e : Event) → Ends e → (os : List Order) (j : ℕ) → j < length os → Stood os (changed j e os)
ended_stood e ends os j l side k =
    changed_at j e os k (λ o. stands side o ≡ true → (stands side (at os k) ≡ true) × (o.limit ≡ (at os k).limit)) l
    (λ _ y. absurd (ended_stands e ends side (at os j) y))
    (λ _ y. (y, refl))

-- nor does one more order, if it ends at once
pub new_ended_stood : (e : Event) → Ends e → (os : List Order) (o : Order) → Stood os (changed (length os) e (os ++ (o ∷ [])))
new_ended_stood e ends os o side k =
    changed_at (length os) e ps k (λ x. stands side x ≡ true → (stands side (at os k) ≡ true) × (x.limit ≡ (at os k).limit))
    (omega (arith, push_long os o))
    (λ _ y. absurd (ended_stands e ends side (at ps (length os)) y))
    (λ n. push_at os o k (λ x. stands side x ≡ true → (stands side (at os k) ≡ true) × (x.limit ≡ (at os k).limit))
    (λ _ y. (y, refl))
    (λ d. absurd (n d))
    (λ _ y. absurd (both_ways _ (nobody_stands side) y)))
  where
    ps : List Order
    ps = os ++ (o ∷ [])
