use Rattle.std.proofs.Common.{◌≡◌, ◌<◌, length, sym, ap, ◌∙◌, arith}
use Rattle.curves.specs.Orders.{at}
use Rattle.ticks.proofs.Steps.{total_none, total_more}
use Rattle.orders.specs.Orders.{buys, bids_of}
use Rattle.orders.specs.Willing.{willing_at}
use Rattle.orders.proofs.Bids.{bid_at, willing_most}
use Rattle.orders.proofs.tables.Tables.willing.Goals as goal

pub loop-order-init : goal.loop-order-init
loop-order-init c = (sym (total_none (λ k. willing_at (buys c.args.side) c.args.tick.value (at (bids_of c.placed-order-items.result.now) k))), omega arith)

pub loop-order-preserved : goal.loop-order-preserved
loop-order-preserved c =
    let os = c.placed-order-items.result.now in
    let i = c.loop-order.order-index in
    let side = buys c.args.side in
    let p = c.args.tick.value in
    let lt : i < length os = omega arith in
    let one : c.willing-sum.result ≡ willing_at side p (at (bids_of os) i) =
    c.willing-sum.ensures ∙ sym (ap (willing_at side p) (bid_at os i lt)) in (
      omega (arith, c.loop-order.invariant.0, one, total_more i (λ k. willing_at side p (at (bids_of os) k))),
      omega (arith, c.loop-order.invariant.1, one, willing_most side p os i lt (c.placed-order-items.ensures.sound i lt)),
    )
