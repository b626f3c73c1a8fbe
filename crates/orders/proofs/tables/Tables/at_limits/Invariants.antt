use Rattle.std.proofs.Common.{◌≡◌, ℕ, suc, ◌*◌, ◌<◌, ◌≤◌, length, get_or}
use Rattle.curves.specs.Orders.{at}
use Rattle.curves.specs.Sums.{total}
use Rattle.ticks.specs.Ticks.{highest_tick}
use Rattle.orders.specs.Orders.{buys, bids_of, most_quantity}
use Rattle.orders.specs.Willing.{limited_at}
use Rattle.orders.proofs.tables.Tables.at_limits.Given as goal

abbrev pub invariant-loop-order : goal.invariant-loop-order
invariant-loop-order l =
    (length l.quantities ≡ suc highest_tick)
    × ((m : ℕ) → m < length l.quantities → get_or l.quantities m 0 ≡ total l.order-index (λ k. limited_at (buys l.side) m (at (bids_of l.order-items) k)))
    × ((m : ℕ) → m < length l.quantities → get_or l.quantities m 0 ≤ most_quantity * l.order-index)
