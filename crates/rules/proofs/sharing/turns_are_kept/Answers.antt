use Rattle.rules.specs.Quotas.{filled_first, units_first}
use Rattle.rules.proofs.sharing.turns_are_kept.Goals as goal

pub returns : goal.returns
returns c = record { earliest = filled_first (λ q. 0); largest = filled_first (λ q. q); units = units_first }
