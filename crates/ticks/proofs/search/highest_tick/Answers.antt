use Rattle.std.proofs.Common.{suc, sym, arith}
use Rattle.ticks.specs.Ticks.{highest_tick}
use Rattle.ticks.proofs.Ends.{highest_last}
use Rattle.ticks.proofs.search.highest_tick.Goals as goal

pub returns-then-passes : goal.returns-then-passes
returns-then-passes g c =
    (sym c.if-passes.ensures, highest_last (suc highest_tick) _ c.loop-value.value (omega arith) (sym c.if-passes.ensures) (λ k l h. c.loop-value.invariant k l (omega arith)))
