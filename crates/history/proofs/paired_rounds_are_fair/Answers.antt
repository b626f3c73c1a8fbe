use Rattle.steps.specs.Ways.{Paired}
use Rattle.history.proofs.paired_rounds_are_fair.Goals as goal
use Rattle.history.proofs.Rounds.{rounds_are_fair}

pub returns : goal.returns
returns g c = rounds_are_fair (Paired _) (c.orders_are_ranked.ensures.buys, c.orders_are_ranked.ensures.sells, g.met.P.PairPrice.between)
