use Rattle.history.proofs.every_history_holds.Goals as goal
use Rattle.history.proofs.Every.{every_history}

pub returns : goal.returns
returns c = every_history
