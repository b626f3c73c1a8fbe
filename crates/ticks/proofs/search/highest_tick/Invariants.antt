use Rattle.std.proofs.Common.{◌≡◌, ℕ, ◌<◌, ◌≤◌, false}
use Rattle.ticks.specs.Ticks.{highest_tick}
use Rattle.ticks.proofs.search.highest_tick.Given as goal

abbrev pub invariant-loop-value : goal.invariant-loop-value
invariant-loop-value g l = (k : ℕ) → l.value < k → k ≤ highest_tick → g.T.TickTest.passing l.test k ≡ false
