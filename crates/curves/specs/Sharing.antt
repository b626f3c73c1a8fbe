-- What a sharing rule means, and its law.
use Rattle.std.specs.Prelude.{◌≡◌, ℕ, ◌≤◌, min, List, length, sum, slice_index}

-- from an amount and the left quantities of a group, earliest first, to their shares
abbrev pub SharingMeaning : Type 0
SharingMeaning = ℕ → List ℕ → List ℕ

-- a share for each quantity, none above it; they add up to the amount, or to the whole group if that is less
pub record SharingLaw (share : SharingMeaning) : Type 0 where
  pub whole : (amount : ℕ) (group : List ℕ) → length (share amount group) ≡ length group
  pub within : (amount : ℕ) (group : List ℕ) (k : ℕ) → slice_index (share amount group) k ≤ slice_index group k
  pub adds : (amount : ℕ) (group : List ℕ) → sum (share amount group) ≡ min amount (sum group)
