use Rattle.std.proofs.Common.{◌≡◌, ◌≤◌, length, take}
use Rattle.uniform.specs.Margins.{marginal_group}
use Rattle.uniform.proofs.margin.gather.Given as goal

abbrev pub invariant-loop-order : goal.invariant-loop-order
invariant-loop-order g l =
    (l.group.items ≡ marginal_group g.S.Side.buys l.limit (take l.order-index l.orders)) × (length l.group.items ≤ l.order-index)
