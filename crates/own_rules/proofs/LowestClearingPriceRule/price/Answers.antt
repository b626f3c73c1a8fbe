use Rattle.std.proofs.Common.{rules}
use Rattle.curves.specs.Curves.{curve}
use Rattle.ticks.specs.Ticks.{highest_tick}
use Rattle.own_rules.specs.Laws.{some_clears}
use Rattle.own_rules.proofs.LowestClearingPriceRule.price.Goals as goal

pub unwrap-requires : goal.unwrap-requires
unwrap-requires c =
    let figures = c.args.figures.now in
    let met = some_clears highest_tick (curve figures.demand) (curve figures.supply) in
    search rules
