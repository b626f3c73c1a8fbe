-- The sharing rules that ship, all by turns.
use Rattle.std.specs.Prelude.{◌≡◌, ℕ, ◌+◌, ◌-◌, ◌*◌, ◌/◌, ◌%◌, ◌<◌, min, true, ◌⊎◌, List, length, sum_by, sum, slice_index}
use Rattle.curves.specs.Sharing.{SharingMeaning}
use Rattle.turns.specs.Turns.{goes_first, of_place, by_turns, by_key}

-- earliest first: all keys are equal, and each claims its quantity
abbrev pub earliest_first : SharingMeaning
earliest_first = by_key (λ q. 0)

-- largest first, then earlier
abbrev pub largest_first : SharingMeaning
largest_first = by_key (λ q. q)

-- pro rata: the amount, cut to the group's total
abbrev pub given : ℕ → List ℕ → ℕ
given amount group = min amount (sum group)

-- quantity times amount divided by the total, rounded down (0 if the total is 0)
abbrev pub part : ℕ → ℕ → ℕ → ℕ
part amount whole q = q * amount / whole

-- what the division leaves
abbrev pub remainder : ℕ → ℕ → ℕ → ℕ
remainder amount whole q = q * amount % whole

-- a unit, where the division leaves a remainder
abbrev pub unit : ℕ → ℕ → ℕ → ℕ
unit amount whole q = min 1 (remainder amount whole q)

-- what the parts leave of the amount goes out in units, by the larger remainder, then earlier
abbrev pub pro_rata : SharingMeaning
pro_rata amount group =
    let g = given amount group in
    let w = sum group in
    by_turns (part g w) (remainder g w) (unit g w) (g - sum_by (part g w) group) group

-- ---- theorems

-- the share of a place
abbrev pub share_at : SharingMeaning → ℕ → List ℕ → ℕ → ℕ
share_at share amount group k = slice_index (share amount group) k

-- where a place gets anything, every place that goes before it by this key has its quantity
abbrev pub FilledFirst : (ℕ → ℕ) → SharingMeaning → Type 0
FilledFirst key share =
    (amount : ℕ) (group : List ℕ) (i j : ℕ) → i < length group → j < length group → goes_first (of_place key group) i j ≡ true →
    0 < share_at share amount group j → share_at share amount group i ≡ slice_index group i

-- a share is the part or one unit more, and where a place gets a unit, so does every place that goes before it by its remainder
abbrev pub UnitsFirst : Type 0
UnitsFirst =
    (amount : ℕ) (group : List ℕ) →
    let p = of_place (part (given amount group) (sum group)) group in
    let r = of_place (remainder (given amount group) (sum group)) group in
    ((k : ℕ) → k < length group → (share_at pro_rata amount group k ≡ p k) ⊎ (share_at pro_rata amount group k ≡ p k + 1))
    × ((i j : ℕ) → i < length group → j < length group → goes_first r i j ≡ true →
    share_at pro_rata amount group j ≡ p j + 1 → share_at pro_rata amount group i ≡ p i + 1)
