use Rattle.curves.proofs.orders_make_curves.Goals as goal
use Rattle.curves.proofs.Orders.{orders_make_curves}

pub returns : goal.returns
returns c = orders_make_curves
