use Rattle.ticks.proofs.Limits.{figures_of_orders}
use Rattle.ticks.proofs.figures.figures_of_orders.Goals as goal

pub returns : goal.returns
returns c = figures_of_orders
