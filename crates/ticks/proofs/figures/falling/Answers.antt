use Rattle.std.proofs.Common.{suc, ◌-◌, true, sym, arith, length-set}
use Rattle.curves.specs.Curves.{curve}
use Rattle.ticks.specs.Ticks.{highest_tick}
use Rattle.ticks.proofs.Limits.{wanted_past, falling_more, all_figures}
use Rattle.ticks.proofs.figures.falling.Goals as goal

pub loop-tick-init : goal.loop-tick-init
loop-tick-init c = (sym (wanted_past (suc highest_tick) (curve c.args.wanted.now)), omega arith, omega arith, λ k a b. absurd (omega arith))

pub loop-tick-preserved : goal.loop-tick-preserved
loop-tick-preserved c =
    let (sum, all) = falling_more c.args.wanted.now c.loop-tick.demand c.loop-tick.tick (c.loop-tick.tick - 1) c.loop-tick.sum (omega arith) (omega arith) c.loop-tick.invariant.2 c.loop-tick.invariant.0 c.loop-tick.invariant.3 in
    (sum, omega arith, simp length-set c.loop-tick.invariant.2, all)

pub returns : goal.returns
returns c = all_figures true c.args.wanted.now c.loop-tick.demand c.loop-tick.invariant.2 (λ k h. c.loop-tick.invariant.3 k (omega arith) h)
