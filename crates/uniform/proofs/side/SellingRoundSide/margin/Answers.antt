use Rattle.std.proofs.Common.{suc, nat_le, rules}
use Rattle.ticks.specs.Ticks.{highest_tick}
use Rattle.ticks.specs.Seen.{supply_of, greatest_volume}
use Rattle.ticks.proofs.Ends.{lowest_never}
use Rattle.uniform.proofs.side.SellingRoundSide.margin.Goals as goal

pub returns : goal.returns
returns c =
    let f = c.args.figures.now in
    let never = lowest_never (suc highest_tick) (λ p. nat_le (greatest_volume f) (supply_of f p)) in
    search rules
