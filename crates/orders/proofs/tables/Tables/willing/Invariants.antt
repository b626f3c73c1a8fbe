use Rattle.std.proofs.Common.{◌≡◌, ◌*◌, ◌≤◌}
use Rattle.curves.specs.Orders.{at}
use Rattle.curves.specs.Sums.{total}
use Rattle.orders.specs.Orders.{buys, bids_of, most_quantity}
use Rattle.orders.specs.Willing.{willing_at}
use Rattle.orders.proofs.tables.Tables.willing.Given as goal

abbrev pub invariant-loop-order : goal.invariant-loop-order
invariant-loop-order l =
    (l.sum ≡ total l.order-index (λ k. willing_at (buys l.side) l.tick.value (at (bids_of l.order-items) k)))
    × (l.sum ≤ most_quantity * l.order-index)
