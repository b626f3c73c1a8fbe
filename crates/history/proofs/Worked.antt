-- The worked histories, computed from the definitions.
use Rattle.std.proofs.Common.{refl}
use Rattle.curves.specs.Sums.{total}
use Rattle.history.specs.Examples.{Examples}

pub examples : Examples
unfolding total
examples = record { first = refl; first_pays = refl; second = refl; second_gets = refl }
