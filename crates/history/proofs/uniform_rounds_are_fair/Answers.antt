use Rattle.steps.specs.Ways.{Uniform}
use Rattle.history.proofs.uniform_rounds_are_fair.Goals as goal
use Rattle.history.proofs.Rounds.{rounds_are_fair}

pub returns : goal.returns
returns g c reference =
    rounds_are_fair (Uniform g.P.PriceRule.meaning g.S.SharingRule.meaning reference) (g.met.P.PriceRule.clears, g.met.S.SharingRule.shares)
