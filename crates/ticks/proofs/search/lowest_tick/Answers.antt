use Rattle.std.proofs.Common.{sym, arith, suc}
use Rattle.ticks.specs.Ticks.{highest_tick}
use Rattle.ticks.proofs.Ends.{lowest_first}
use Rattle.ticks.proofs.search.lowest_tick.Goals as goal

pub returns-then-passes : goal.returns-then-passes
returns-then-passes g c = (sym c.if-passes.ensures, lowest_first (suc highest_tick) _ c.loop-value.value (omega arith) (sym c.if-passes.ensures) c.loop-value.invariant)
