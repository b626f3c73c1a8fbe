use Rattle.std.proofs.Common.{suc, false, sym, ◌∙◌, arith, length-set}
use Rattle.curves.specs.Curves.{curve}
use Rattle.ticks.specs.Ticks.{highest_tick}
use Rattle.ticks.proofs.Steps.{total_none, total_more}
use Rattle.ticks.proofs.Limits.{rising_more, offered_to, all_figures}
use Rattle.ticks.proofs.figures.rising.Goals as goal

pub loop-tick-init : goal.loop-tick-init
loop-tick-init c = (sym (total_none (curve c.args.offered.now)), omega arith, omega arith, λ k a. absurd (omega arith))

pub loop-tick-preserved : goal.loop-tick-preserved
loop-tick-preserved c = (
  omega (arith, total_more c.loop-tick.tick (curve c.args.offered.now)),
  omega arith,
  simp length-set c.loop-tick.invariant.2,
  rising_more c.args.offered.now c.loop-tick.supply c.loop-tick.tick c.loop-tick.sum (omega arith) c.loop-tick.invariant.0 c.loop-tick.invariant.3,
)

pub returns : goal.returns
returns c =
    all_figures false c.args.offered.now c.loop-tick.supply c.loop-tick.invariant.2
    (λ k h. c.loop-tick.invariant.3 k (omega arith) ∙ sym (offered_to (suc highest_tick) k (curve c.args.offered.now) h))
