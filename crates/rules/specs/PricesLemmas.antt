-- The price rules that ship keep the law of a price rule.
use Rattle.std.specs.Prelude.{◌≡◌, ℕ, suc, ◌≤◌, true}
use Rattle.std.proofs.Common.{arith}
use Rattle.curves.specs.Sums.{lowest, highest}
use Rattle.curves.specs.Crossing.{crosses, crossing_low, crossing_high}
use Rattle.curves.specs.Curves.{Curves, curve, volume}
use Rattle.curves.specs.Pricing.{PriceLaw}
use Rattle.curves.proofs.Crossings.{crossing_ends, crossing_exists, crosses_when, crossing_in_the_middle, crossing_clears}
use Rattle.ticks.specs.Ticks.{highest_tick}
use Rattle.rules.specs.Prices.{crossing, principles}
use Rattle.rules.specs.Choosing.{principles_clear}

-- some tick is in the crossing range
pub range_met : (top : ℕ) (D S : ℕ → ℕ) → Curves top D S → (p : ℕ) × (p ≤ top) × (crosses (volume top D S) D S p ≡ true)
range_met top D S c = let (p, x) = crossing_exists top D S c in (p, x.tick, crosses_when top D S p x)

-- the ends of the crossing range are ticks, and so is half their sum
pub range_ticks : (top : ℕ) (D S : ℕ → ℕ) (v l h : ℕ) → Curves top D S → v ≡ volume top D S → l ≡ lowest (suc top) (crosses v D S) → h ≡ highest (suc top) (crosses v D S) →
    (l ≤ top) × (h ≤ top)
range_ticks top D S v l h c ev el eh =
    let (low, high, _) = crossing_ends top D S c in
    let lt : crossing_low top D S ≤ top = low.tick in
    let ht : crossing_high top D S ≤ top = high.tick in
    let el' : l ≡ crossing_low top D S = rw ev at el in
    let eh' : h ≡ crossing_high top D S = rw ev at eh in
    (omega arith, omega arith)

pub crossing_law : PriceLaw highest_tick crossing
crossing_law d s reference dl sl c v =
    let middle = crossing_in_the_middle highest_tick (curve d) (curve s) c in
    (middle.tick, crossing_clears highest_tick (curve d) (curve s) (crossing d s reference) middle)

pub principles_law : PriceLaw highest_tick principles
principles_law d s reference dl sl c v = principles_clear highest_tick (curve d) (curve s) c reference v
