use Rattle.std.proofs.Common.{rules}
use Rattle.ticks.specs.Ticks.{highest_tick}
use Rattle.ticks.proofs.Limits.{in_order}
use Rattle.rules.specs.PricesLemmas.{range_met}
use Rattle.rules.proofs.crossing.crossing.Goals as goal

pub unwrap-low-requires : goal.unwrap-low-requires
unwrap-low-requires c =
    let figures = c.args.figures.now in
    let met = range_met highest_tick _ _ (in_order _ _ figures.falls figures.rises figures.wide.0 figures.wide.1) in
    search rules
