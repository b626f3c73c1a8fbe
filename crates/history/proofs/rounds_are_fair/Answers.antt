use Rattle.history.proofs.rounds_are_fair.Goals as goal
use Rattle.history.proofs.Rounds.{rounds_are_fair}

pub returns : goal.returns
returns c = rounds_are_fair
