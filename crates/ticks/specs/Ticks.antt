-- The ticks, and the figures of all ticks.
use Rattle.std.specs.Prelude.{◌≡◌, ℕ, suc, ◌≤◌, Bool, true, false, cond, ◌&&◌, List, length, ◌==◌, nat_le}
use Rattle.curves.specs.Sums.{total, lowest, highest}
use Rattle.curves.specs.Curves.{curve, figures, volume}
use Rattle.curves.specs.Orders.{Bid, at, on, keeps, demand, supply, OnTicks}

-- prices and limits are the ticks 0 to 2,000
abbrev pub highest_tick : ℕ
highest_tick = 2000

-- demand falls
abbrev pub Falls : List ℕ → Type 0
Falls d = (p r : ℕ) → p ≤ r → curve d r ≤ curve d p

-- supply rises up to the highest tick
abbrev pub Rises : List ℕ → Type 0
Rises s = (p r : ℕ) → p ≤ r → r ≤ highest_tick → curve s p ≤ curve s r

-- v is the greatest executable volume of all ticks
abbrev pub IsVolume : List ℕ → List ℕ → ℕ → Type 0
IsVolume d s v = v ≡ volume highest_tick (curve d) (curve s)

-- all of xs, what is wanted (the side true) or offered at each limit, whose limit is kept at tick p
abbrev pub kept_at : Bool → List ℕ → ℕ → ℕ
kept_at side xs p = total (suc highest_tick) (λ l. cond (keeps side l p) (curve xs l) 0)

-- demand or supply at tick p, 0 past the highest
abbrev pub summed : Bool → List ℕ → ℕ → ℕ
summed side xs p = cond (nat_le p highest_tick) (kept_at side xs p) 0

-- what is left of the orders of a side that have this limit
abbrev pub at_limit : Bool → List Bid → ℕ → ℕ
at_limit side bs l = total (length bs) (λ k. cond (on side (at bs k) && (at bs k).limit == l) (at bs k).left 0)

-- the figures summed from what stands at each limit
abbrev pub summed_figures : Bool → List Bid → List ℕ
summed_figures side bs = figures highest_tick (summed side (figures highest_tick (at_limit side bs)))

-- no tick passes
abbrev pub NonePasses : (ℕ → Bool) → Type 0
NonePasses P = (p : ℕ) → p ≤ highest_tick → P p ≡ false

-- tick p passes, and is the lowest that does
abbrev pub IsLowest : (ℕ → Bool) → ℕ → Type 0
IsLowest P p = (P p ≡ true) × (p ≡ lowest (suc highest_tick) P)

-- tick p passes, and is the highest that does
abbrev pub IsHighest : (ℕ → Bool) → ℕ → Type 0
IsHighest P p = (P p ≡ true) × (p ≡ highest (suc highest_tick) P)

-- ---- theorem

-- figures that are summed from the limits of orders are their demand and their supply at all ticks
abbrev pub FiguresOfOrders : Type 0
FiguresOfOrders =
    (bs : List Bid) → OnTicks highest_tick bs →
    (summed_figures true bs ≡ figures highest_tick (demand highest_tick bs))
    × (summed_figures false bs ≡ figures highest_tick (supply highest_tick bs))
