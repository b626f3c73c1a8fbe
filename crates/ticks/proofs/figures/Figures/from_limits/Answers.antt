use Rattle.std.proofs.Common.{◌∙◌, rules}
use Rattle.ticks.specs.Ticks.{highest_tick}
use Rattle.ticks.proofs.Steps.{fold_volume}
use Rattle.ticks.proofs.Limits.{summed_falls, summed_rises}
use Rattle.ticks.proofs.figures.Figures.from_limits.Goals as goal

pub invariant_of-result-clause-falls : goal.invariant_of-result-clause-falls
invariant_of-result-clause-falls c = rw c.falling.ensures (summed_falls c.args.wanted.now)

pub invariant_of-result-clause-rises : goal.invariant_of-result-clause-rises
invariant_of-result-clause-rises c = rw c.rising.ensures (summed_rises c.args.offered.now)

pub invariant_of-result-clause-greatest : goal.invariant_of-result-clause-greatest
invariant_of-result-clause-greatest c = c.greatest_volume-volume.ensures ∙ fold_volume _ _ highest_tick (search rules) (search rules)
