-- The price rules that ship: the crossing, and the principles.
use Rattle.std.specs.Prelude.{ℕ, zero, suc, ◌+◌, ◌-◌, min, max, Bool, cond, not, ◌&&◌, ◌||◌, ◌==◌, nat_lt}
use Rattle.curves.specs.Sums.{lowest, highest}
use Rattle.curves.specs.Curves.{curve, executable, volume}
use Rattle.curves.specs.Crossing.{before, crossing_middle}
use Rattle.curves.specs.Pricing.{PriceMeaning}
use Rattle.ticks.specs.Ticks.{highest_tick}

-- the crossing: half the sum of the ends of the crossing range, whatever the reference price
abbrev pub crossing : PriceMeaning
crossing d s reference = crossing_middle highest_tick (curve d) (curve s)

-- the smallest of d and of f at the places below n that pass
unfoldable pub smallest : ℕ → (ℕ → Bool) → (ℕ → ℕ) → ℕ → ℕ
smallest zero P f d = d
smallest (suc n) P f d = let r = smallest n P f d in cond (P n) (min r (f n)) r

-- no place below n passes
abbrev pub none : ℕ → (ℕ → Bool) → Bool
none n P = lowest n P == n

-- a limit of a standing order where the executable volume is v: demand differs from a tick above, or supply from a tick below
abbrev pub candidate : ℕ → (ℕ → ℕ) → (ℕ → ℕ) → ℕ → Bool
candidate v D S p = executable D S p == v && (not (D p == D (suc p)) || not (S p == before S p))

-- demand less supply, unsigned
abbrev pub unbalance : (ℕ → ℕ) → (ℕ → ℕ) → ℕ → ℕ
unbalance D S p = (D p - S p) + (S p - D p)

-- the smallest unbalance of all candidates; none has more than all demand or all supply
abbrev pub least_unbalance : ℕ → ℕ → (ℕ → ℕ) → (ℕ → ℕ) → ℕ
least_unbalance top v D S = smallest (suc top) (candidate v D S) (unbalance D S) (max (D 0) (S top))

-- a candidate with the smallest unbalance, u
abbrev pub kept_ticks : ℕ → ℕ → (ℕ → ℕ) → (ℕ → ℕ) → ℕ → Bool
kept_ticks v u D S p = candidate v D S p && unbalance D S p == u

-- a kept tick with demand above supply, and one with supply above demand
abbrev pub over : (ℕ → Bool) → (ℕ → ℕ) → (ℕ → ℕ) → ℕ → Bool
over K D S p = K p && nat_lt (S p) (D p)

abbrev pub under : (ℕ → Bool) → (ℕ → ℕ) → (ℕ → ℕ) → ℕ → Bool
under K D S p = K p && nat_lt (D p) (S p)

-- the reference price r, raised to low or cut to high
abbrev pub clamp : ℕ → ℕ → ℕ → ℕ
clamp r low high = min (max r low) high

-- the choice among the ticks K that are kept, all of unbalance u: no unbalance, demand above supply at all of them,
-- supply above demand at all of them, both
abbrev pub choice : ℕ → ℕ → (ℕ → Bool) → (ℕ → ℕ) → (ℕ → ℕ) → ℕ → ℕ
choice n u K D S r =
    cond (u == 0) (clamp r (lowest n K) (highest n K))
    (cond (none n (under K D S)) (highest n K)
    (cond (none n (over K D S)) (lowest n K)
    (clamp r (highest n (over K D S)) (lowest n (under K D S)))))

-- the price by principles, of demand D and supply S
abbrev pub principles_price : ℕ → (ℕ → ℕ) → (ℕ → ℕ) → ℕ → ℕ
principles_price top D S r =
    let v = volume top D S in
    let u = least_unbalance top v D S in
    choice (suc top) u (kept_ticks v u D S) D S r

-- the same as a rule
abbrev pub principles : PriceMeaning
principles d s reference = principles_price highest_tick (curve d) (curve s) reference
