use Rattle.history.proofs.examples_hold.Goals as goal
use Rattle.history.proofs.Worked.{examples}

pub returns : goal.returns
returns c = examples
