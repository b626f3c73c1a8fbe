-- Demand D and supply S by tick, the ticks being 0 to top: the executable volume, and V.
use Rattle.std.specs.Prelude.{◌≡◌, ℕ, suc, ◌<◌, ◌≤◌, min, List, map, slice_index}
use Rattle.std.specs.List.{range_with_len}
use Rattle.curves.specs.Sums.{greatest}

-- demand falls, supply rises, and past the highest tick both are 0
pub record Curves (top : ℕ) (D S : ℕ → ℕ) : Type 0 where
  pub falls : (p r : ℕ) → p ≤ r → D r ≤ D p
  pub rises : (p r : ℕ) → p ≤ r → r ≤ top → S p ≤ S r
  pub demand_ends : (p : ℕ) → top < p → D p ≡ 0
  pub supply_ends : (p : ℕ) → top < p → S p ≡ 0

-- what can trade at tick p: the smaller of demand and supply
abbrev pub executable : (ℕ → ℕ) → (ℕ → ℕ) → ℕ → ℕ
executable D S p = min (D p) (S p)

-- V: the greatest executable volume of all ticks
abbrev pub volume : ℕ → (ℕ → ℕ) → (ℕ → ℕ) → ℕ
volume top D S = greatest top (executable D S)

-- the figures of a curve at the ticks 0 to top, as a list
unfoldable pub figures : ℕ → (ℕ → ℕ) → List ℕ
figures top f = map f (range_with_len 0 (suc top))

-- a list of figures as a curve: 0 past its end
abbrev pub curve : List ℕ → ℕ → ℕ
curve xs p = slice_index xs p

-- ---- theorems

-- V is reached at a tick, and no tick has a greater executable volume
abbrev pub VolumeIsGreatest : Type 0
VolumeIsGreatest =
    (top : ℕ) (D S : ℕ → ℕ) →
    ((p : ℕ) → p ≤ top → executable D S p ≤ volume top D S)
    × ((p : ℕ) × (p ≤ top) × (executable D S p ≡ volume top D S))
