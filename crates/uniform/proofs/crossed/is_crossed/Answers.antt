use Rattle.std.proofs.Common.{◌≡◌, ℕ, ◌<◌, length, ap, subst, arith, rules}
use Rattle.orders.specs.Orders.{buys, is_standing}
use Rattle.uniform.proofs.Scans.{Scanned, scanned_none, scanned_buy, scanned_sell, scanned_other, scanned_all}
use Rattle.uniform.proofs.crossed.is_crossed.Goals as goal
use Rattle.uniform.proofs.crossed.is_crossed.Goals.{in-Standing-Buy, in-Standing-Sell, in_default}

pub loop-order-init : goal.loop-order-init
loop-order-init c = scanned_none c.args.orders.now

pub loop-order-preserved : goal.loop-order-preserved
loop-order-preserved c =
    let os = c.args.orders.now in
    let i = c.loop-order.order-index in
    let lt : i < length os = omega arith in
    let sound = c.requires i lt in
    let was = c.loop-order.invariant in
    elim c.match-order.branch [
      | in-Standing-Buy w ↦
          let more = scanned_buy os i lt sound _ _ was (ap is_standing w.in-Standing-Buy.is-0) (ap buys w.in-Standing-Buy.is-1) in search rules
      | in-Standing-Sell w ↦
          let more = scanned_sell os i lt sound _ _ was (ap is_standing w.in-Standing-Sell.is-0) (ap buys w.in-Standing-Sell.is-1) in search rules
      | in_default w ↦ let more = scanned_other os i lt sound _ _ was (search rules) in search rules
    ]

pub returns : goal.returns
returns c =
    let all : c.loop-order.order-index ≡ length c.args.orders.now = omega arith in
    scanned_all c.args.orders.now _ _ (subst (λ (n : ℕ). Scanned c.args.orders.now n c.loop-order.above_buys c.loop-order.lowest_sell) all c.loop-order.invariant)
