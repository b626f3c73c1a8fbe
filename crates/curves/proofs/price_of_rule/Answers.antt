use Rattle.curves.proofs.price_of_rule.Goals as goal
use Rattle.curves.proofs.Prices.{price_of_rule}

pub returns : goal.returns
returns c = price_of_rule
