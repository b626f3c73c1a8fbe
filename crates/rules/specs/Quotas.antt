-- The sharing rules that ship keep the law of a sharing rule.
use Rattle.std.specs.Prelude.{◌≡◌, ℕ, ◌+◌, ◌-◌, ◌*◌, ◌<◌, ◌≤◌, min, true, ◌&&◌, ◌||◌, ◌⊎◌, List, length, sum_by, sum, ◌==◌, nat_lt, refl}
use Rattle.std.proofs.Common.{sym, ap, ◌∙◌, inl, inr, arith, mul-le-mul_left, mod-lt, mul_comm, mul-add, mul-zero}
use Rattle.std.proofs.Math.Nat.{le_of_mul-le-mul_left, div-add-mod, div-zero, mod-zero}
use Rattle.std.proofs.lemmas.List.{ext_get_or}
use Rattle.std.proofs.lemmas.List.Sums.{get_or-le-sum_by}
use Rattle.std.proofs.lemmas.List.FromFn.{length-map-range_with_len}
use Rattle.std.proofs.lemmas.Bool.{cases_lt}
use Rattle.curves.specs.Sums.{total}
use Rattle.curves.specs.Sharing.{SharingLaw}
use Rattle.curves.proofs.Sums.{total_le, total_same, total_add, total_zero, total_scale}
use Rattle.turns.specs.Turns.{goes_first, in_turn, of_place, by_turns, by_key}
use Rattle.rules.specs.Sharing.{share_at, FilledFirst, UnitsFirst, earliest_first, largest_first, given, part, remainder, unit, pro_rata}
use Rattle.turns.proofs.Shares.{claim_first, turns_share, total_sumBy, turns_length, turns_within, turns_sum}

nothing : (xs : List ℕ) → sum_by (λ (q : ℕ). 0) xs ≡ 0
nothing xs = let e = total_sumBy (λ q. 0) xs in omega (arith, total_zero (length xs))

-- each claims its quantity, by whatever key
pub claims_law : (key : ℕ → ℕ) → SharingLaw (by_key key)
claims_law key =
    record {
      whole = turns_length (λ q. 0) key (λ q. q);
      within = λ amount group. turns_within (λ q. 0) key (λ q. q) amount group (λ q. omega arith);
      adds = λ amount group. omega (arith, turns_sum (λ q. 0) key (λ q. q) amount group, nothing group);
    }

pub earliest_law : SharingLaw earliest_first
earliest_law = claims_law (λ q. 0)

pub largest_law : SharingLaw largest_first
largest_law = claims_law (λ q. q)

-- whole * part + remainder = amount * quantity
divided : (amount whole q : ℕ) → whole * part amount whole q + remainder amount whole q ≡ amount * q
divided amount whole q = div-add-mod (q * amount) whole ∙ mul_comm q amount

-- a part and its unit are within the quantity
pub part_within : (amount whole q : ℕ) → amount ≤ whole → part amount whole q + unit amount whole q ≤ q
part_within amount whole q h =
    elim (cases_lt 0 whole) [
      | inl some ↦
          let d = divided amount whole q in
          let most : q * amount ≤ q * whole = mul-le-mul_left q h in
          elim (cases_lt (part amount whole q) q) [
            | inl l ↦ omega arith
            | inr g ↦
                let least : whole * q ≤ whole * part amount whole q = mul-le-mul_left whole g in
                let turned = mul_comm q amount in
                let turned2 = mul_comm q whole in
                let f : part amount whole q ≤ q = le_of_mul-le-mul_left {k = whole} (omega arith) some in
                omega arith
          ]
      | inr none ↦
          let z : whole ≡ 0 = omega arith in
          let y : amount ≡ 0 = omega arith in
          rw (z, y, mul-zero) (omega (arith, div-zero 0, mod-zero 0))
    ]

-- the units that are left over are no more than there are remainders
parts_and_units : (amount : ℕ) (group : List ℕ) → amount ≤ sum group →
    (sum_by (part amount (sum group)) group ≤ amount) × (amount ≤ sum_by (part amount (sum group)) group + sum_by (unit amount (sum group)) group)
parts_and_units amount group h =
    let w = sum group in
    let n = length group in
    let parts = total n (of_place (part amount w) group) in
    let rests = total n (of_place (remainder amount w) group) in
    let units = total n (of_place (unit amount w) group) in
    let p = total_sumBy (part amount w) group in
    let u = total_sumBy (unit amount w) group in
    elim (cases_lt 0 w) [
      | inl some ↦
          let all : w * parts + rests ≡ amount * w =
          rw (← total_scale n w (of_place (part amount w) group), ← total_add)
          (total_same n _ _ (λ k _. divided amount w (of_place (λ q. q) group k)) ∙ total_scale n amount (of_place (λ q. q) group) ∙ ap (λ (x : ℕ). amount * x) (total_sumBy (λ q. q) group)) in
          let few : rests ≤ w * units =
          rw (← total_scale n w (of_place (unit amount w) group))
          (total_le n _ _ (λ k _. small w (of_place (remainder amount w) group k) (mod-lt (of_place (λ q. q) group k * amount) some))) in
          let turned = mul_comm amount w in
          let spread : w * (parts + units) ≡ w * parts + w * units = mul-add w parts units in
          let most : parts ≤ amount = le_of_mul-le-mul_left {k = w} (omega arith) some in
          let least : amount ≤ parts + units = le_of_mul-le-mul_left {k = w} (omega arith) some in
          (omega arith, omega arith)
      | inr none ↦
          let within : parts ≤ total n (of_place (λ q. q) group) = total_le n _ _ (λ k _. omega (arith, part_within amount w (of_place (λ q. q) group k) h)) in
          let all = total_sumBy (λ q. q) group in
          (omega arith, omega arith)
    ]
  where
    small : (w r : ℕ) → r < w → r ≤ w * min 1 r
    small w r l =
        elim (cases_lt 0 r) [
          | inl some ↦ let one : min 1 r ≡ 1 = omega arith in rw one (omega arith)
          | inr none ↦ omega arith
        ]

pub pro_rata_law : SharingLaw pro_rata
pro_rata_law =
    record {
      whole = λ amount group. length-map-range_with_len _ 0 (length group);
      within = λ amount group k.
          let g = given amount group in
          let w = sum group in
          turns_within (part g w) (remainder g w) (unit g w) (g - sum_by (part g w) group) group (λ q. part_within g w q (omega arith)) k;
      adds = λ amount group.
          let g = given amount group in
          let w = sum group in
          let (most, least) = parts_and_units g group (omega arith) in
          omega (arith, turns_sum (part g w) (remainder g w) (unit g w) (g - sum_by (part g w) group) group);
    }

-- ---- the turns are kept

pub filled_first : (key : ℕ → ℕ) → FilledFirst key (by_key key)
filled_first key amount group i j hi hj first some =
    let at_i = turns_share (λ q. 0) key (λ q. q) amount group i hi in
    let at_j = turns_share (λ q. 0) key (λ q. q) amount group j hj in
    omega (arith, claim_first (length group) (of_place key group) (of_place (λ q. q) group) amount i j hi first (omega arith))

module _ (amount : ℕ) (group : List ℕ) where
  abbrev parts : ℕ → ℕ
  parts = of_place (part (given amount group) (sum group)) group

  abbrev rests : ℕ → ℕ
  rests = of_place (remainder (given amount group) (sum group)) group

  -- the unit of a place, in its turn
  abbrev turn : ℕ → ℕ
  turn =
      in_turn (length group) rests (of_place (unit (given amount group) (sum group)) group)
      (given amount group - sum_by (part (given amount group) (sum group)) group)

  share_of : (k : ℕ) → k < length group → share_at pro_rata amount group k ≡ parts k + turn k
  share_of k h =
      turns_share (part (given amount group) (sum group)) (remainder (given amount group) (sum group)) (unit (given amount group) (sum group))
      (given amount group - sum_by (part (given amount group) (sum group)) group) group k h

  unit_or_none : (k : ℕ) → k < length group → (share_at pro_rata amount group k ≡ parts k) ⊎ (share_at pro_rata amount group k ≡ parts k + 1)
  unit_or_none k h = let e = share_of k h in elim (cases_lt 0 (turn k)) [ inl some ↦ inr (omega arith) | inr none ↦ inl (omega arith) ]

  units_go : (i j : ℕ) → i < length group → j < length group → goes_first rests i j ≡ true →
      share_at pro_rata amount group j ≡ parts j + 1 → share_at pro_rata amount group i ≡ parts i + 1
  units_go i j hi hj first one =
      let at_i = share_of i hi in
      let at_j = share_of j hj in
      let larger : rests j ≤ rests i = no_smaller (rests i) (rests j) first in
      let mine = claim_first (length group) rests (of_place (unit (given amount group) (sum group)) group) (given amount group - sum_by (part (given amount group) (sum group)) group) i j hi first (omega arith) in
      omega arith
    where
      no_smaller : (a b : ℕ) → (nat_lt b a || (a == b && nat_lt i j)) ≡ true → b ≤ a
      no_smaller a b e = grind arith

pub units_first : UnitsFirst
units_first amount group = (unit_or_none amount group, units_go amount group)

-- ---- what the code of pro rata leaves to show

-- where there is nothing to share, the quantities are the shares
pub nothing_shared : (amount : ℕ) (group : List ℕ) → sum group ≡ 0 → group ≡ pro_rata amount group
nothing_shared amount group none =
    ext_get_or 0 group (pro_rata amount group) (sym (pro_rata_law.whole amount group))
    (λ k h. omega (arith, pro_rata_law.within amount group k, get_or-le-sum_by (λ q. q) group k 0 h))

pub parts_fit : (group : List ℕ) (w g : ℕ) → w ≡ sum group → g ≤ w → sum_by (part g w) group ≤ g
parts_fit group w g ew h = rw ew (parts_and_units g group (omega arith)).0

pub pro_rata_by : (amount : ℕ) (group : List ℕ) (w g p : ℕ) → w ≡ sum group → g ≡ min amount w → p ≡ sum_by (part g w) group →
    by_turns (part g w) (remainder g w) (unit g w) (g - p) group ≡ pro_rata amount group
pro_rata_by amount group w g p ew eg ep = rw ep (rw eg (rw ew refl))
