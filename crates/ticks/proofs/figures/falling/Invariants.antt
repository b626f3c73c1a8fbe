use Rattle.std.proofs.Common.{◌≡◌, ℕ, suc, ◌+◌, ◌*◌, ◌<◌, ◌≤◌, true, length, get_or}
use Rattle.ticks.specs.Ticks.{highest_tick, kept_at}
use Rattle.ticks.proofs.figures.falling.Given as goal

abbrev pub invariant-loop-tick : goal.invariant-loop-tick
invariant-loop-tick l =
    (l.sum ≡ kept_at true l.wanted l.tick)
    × (l.sum + 4294967295 * l.tick ≤ 4294967295 * suc highest_tick)
    × (length l.demand ≡ suc highest_tick)
    × ((k : ℕ) → l.tick ≤ k → k < suc highest_tick → get_or l.demand k 0 ≡ kept_at true l.wanted k)
