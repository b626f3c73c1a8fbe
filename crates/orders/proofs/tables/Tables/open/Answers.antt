use Rattle.std.proofs.Common.{ap, arith}
use Rattle.std.proofs.lemmas.List.{get_or-replicate, length-replicate}
use Rattle.orders.specs.Settlement.{member_places, no_account}
use Rattle.orders.proofs.tables.Tables.open.Goals as goal

pub invariant_of-result-clause-owed : goal.invariant_of-result-clause-owed
invariant_of-result-clause-owed c = (
  length-replicate member_places no_account,
  (λ m h. omega (arith, ap (λ z. z.pays) (get_or-replicate member_places m no_account no_account h))),
  (λ m h. omega (arith, ap (λ z. z.gets) (get_or-replicate member_places m no_account no_account h))),
)
