use Rattle.std.proofs.Common.{◌≡◌, false, take}
use Rattle.std.specs.List.{list_any}
use Rattle.orders.specs.Orders.{buys}
use Rattle.session.specs.Entries.{stands_for}
use Rattle.session.proofs.desk.has_standing.Given as goal

-- none of the orders that were looked at is one
abbrev pub invariant-loop-order : goal.invariant-loop-order
invariant-loop-order l = list_any (stands_for l.member (buys l.side)) (take l.order-index l.placed) ≡ false
