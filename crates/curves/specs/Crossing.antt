-- The crossing range of demand D and supply S: the ticks at which demand falls through V and supply rises through it.
use Rattle.std.specs.Prelude.{◌≡◌, ℕ, zero, suc, ◌+◌, ◌*◌, ◌/◌, ◌≤◌, Bool, ◌&&◌, nat_le}
use Rattle.curves.specs.Sums.{lowest, highest}
use Rattle.curves.specs.Curves.{Curves, executable, volume}

-- the figure a tick below p, 0 below tick 0
abbrev pub before : (ℕ → ℕ) → ℕ → ℕ
before S zero = 0
before S (suc p) = S p

-- tick p is in the crossing range: demand at p + 1 ≤ V ≤ demand at p, and supply at p - 1 ≤ V ≤ supply at p
pub record Crossing (top : ℕ) (D S : ℕ → ℕ) (p : ℕ) : Type 0 where
  pub tick : p ≤ top
  pub above : D (suc p) ≤ volume top D S
  pub demanded : volume top D S ≤ D p
  pub below : before S p ≤ volume top D S
  pub supplied : volume top D S ≤ S p

-- the same as a test, where V is v
abbrev pub crosses : ℕ → (ℕ → ℕ) → (ℕ → ℕ) → ℕ → Bool
crosses v D S p = (nat_le (D (suc p)) v && nat_le v (D p)) && (nat_le (before S p) v && nat_le v (S p))

-- the lowest tick of the range
abbrev pub crossing_low : ℕ → (ℕ → ℕ) → (ℕ → ℕ) → ℕ
crossing_low top D S = let v = volume top D S in lowest (suc top) (crosses v D S)

-- the highest tick of the range
abbrev pub crossing_high : ℕ → (ℕ → ℕ) → (ℕ → ℕ) → ℕ
crossing_high top D S = let v = volume top D S in highest (suc top) (crosses v D S)

-- half of a sum; a half rounds up
abbrev pub half_sum : ℕ → ℕ → ℕ
half_sum a b = (a + b + 1) / 2

-- half the sum of the range's ends
abbrev pub crossing_middle : ℕ → (ℕ → ℕ) → (ℕ → ℕ) → ℕ
crossing_middle top D S = half_sum (crossing_low top D S) (crossing_high top D S)

-- ---- theorems

-- the range is not empty, whatever V is
abbrev pub CrossingExists : Type 0
CrossingExists = (top : ℕ) (D S : ℕ → ℕ) → Curves top D S → (p : ℕ) × Crossing top D S p

-- a tick between two ticks of the range is in it
abbrev pub CrossingIsInterval : Type 0
CrossingIsInterval =
    (top : ℕ) (D S : ℕ → ℕ) → Curves top D S → (l p h : ℕ) →
    Crossing top D S l → Crossing top D S h → l ≤ p → p ≤ h → Crossing top D S p

-- every tick in the range has executable volume V
abbrev pub CrossingClears : Type 0
CrossingClears =
    (top : ℕ) (D S : ℕ → ℕ) (p : ℕ) → Crossing top D S p → executable D S p ≡ volume top D S

-- the range has its ends in it, and no tick beyond them
abbrev pub CrossingEnds : Type 0
CrossingEnds =
    (top : ℕ) (D S : ℕ → ℕ) → Curves top D S →
    Crossing top D S (crossing_low top D S)
    × Crossing top D S (crossing_high top D S)
    × ((p : ℕ) → Crossing top D S p → (crossing_low top D S ≤ p) × (p ≤ crossing_high top D S))

-- half the sum of its ends is in the range
abbrev pub CrossingMiddle : Type 0
CrossingMiddle =
    (top : ℕ) (D S : ℕ → ℕ) → Curves top D S → Crossing top D S (crossing_middle top D S)

-- twice the half of a sum is the sum, or 1 above it
abbrev pub HalfRoundsUp : Type 0
HalfRoundsUp = (a b : ℕ) → (a + b ≤ 2 * half_sum a b) × (2 * half_sum a b ≤ a + b + 1)
