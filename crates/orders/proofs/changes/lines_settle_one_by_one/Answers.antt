use Rattle.orders.proofs.Sessions.{settled_one_by_one}
use Rattle.orders.proofs.changes.lines_settle_one_by_one.Goals as goal

pub returns : goal.returns
returns c = settled_one_by_one
