use Rattle.std.proofs.Common.{◌≡◌, ℕ, suc, ◌*◌, ◌<◌, ◌≤◌, length, get_or}
use Rattle.curves.specs.Sums.{total}
use Rattle.curves.specs.Curves.{curve}
use Rattle.ticks.specs.Ticks.{highest_tick}
use Rattle.ticks.proofs.figures.rising.Given as goal

abbrev pub invariant-loop-tick : goal.invariant-loop-tick
invariant-loop-tick l =
    (l.sum ≡ total l.tick (curve l.offered))
    × (l.sum ≤ 4294967295 * l.tick)
    × (length l.supply ≡ suc highest_tick)
    × ((k : ℕ) → k < l.tick → get_or l.supply k 0 ≡ total (suc k) (curve l.offered))
