use Rattle.std.proofs.Common.{◌≡◌, ℕ, suc, ◌+◌, ◌<◌, List, length, get_or, replicate, sym, ap, ◌∙◌, arith}
use Rattle.std.proofs.lemmas.List.{length-map, length-set, length-replicate, get_or-replicate}
use Rattle.curves.specs.Curves.{figures}
use Rattle.curves.specs.Orders.{at as bid}
use Rattle.curves.specs.Sums.{total}
use Rattle.ticks.specs.Ticks.{highest_tick, at_limit}
use Rattle.ticks.proofs.Steps.{total_none}
use Rattle.orders.specs.Orders.{at, buys, bid_of, bids_of}
use Rattle.orders.specs.Willing.{limited_at, standing_on}
use Rattle.orders.proofs.Keeps.{sound_parts}
use Rattle.orders.proofs.Bids.{bid_at, standing_on_most, limits_more, most_more, all_figures}
use Rattle.orders.proofs.tables.Tables.at_limits.Goals as goal

pub loop-order-init : goal.loop-order-init
loop-order-init c =
    let bs = bids_of c.placed-order-items.result.now in
    let side = buys c.args.side in
    let zeros : List ℕ = replicate (suc highest_tick) 0 in
    let none : (m : ℕ) → m < suc highest_tick → get_or zeros m 0 ≡ 0 = λ m h. get_or-replicate {A = ℕ} (suc highest_tick) m 0 0 h in
    let long : length zeros ≡ suc highest_tick = length-replicate {A = ℕ} (suc highest_tick) 0 in (
      long,
      (λ m h. none m (omega (arith, long)) ∙ sym (total_none (λ k. limited_at side m (bid bs k)))),
      (λ m h. omega (arith, none m (omega (arith, long)))),
    )

pub loop-order-preserved : goal.loop-order-preserved
loop-order-preserved c =
    let os = c.placed-order-items.result.now in
    let i = c.loop-order.order-index in
    let side = buys c.args.side in
    let qs = c.loop-order.quantities in
    let inv = c.loop-order.invariant in
    let lt : i < length os = omega arith in
    let m = (at os i).limit in
    let v = c.standing_on.result in
    let sound = c.placed-order-items.ensures.sound i lt in
    let same = bid_at os i lt in
    let fits : m < length qs = omega (arith, (sound_parts i (at os i) sound).limit, inv.0) in
    let one : v ≡ standing_on side (bid (bids_of os) i) = c.standing_on.ensures ∙ sym (ap (standing_on side) same) in
    let long = length-set qs m (get_or qs m 0 + v) in (
      long ∙ inv.0,
      (λ l h. limits_more side (bids_of os) i v qs m (sym (ap (λ z. z.limit) same)) fits one inv.1 l (omega (arith, long))),
      (λ l h. most_more i v m qs fits (omega (arith, one, standing_on_most side os i lt sound)) inv.2 l (omega (arith, long))),
    )

pub returns : goal.returns
returns c =
    let os = c.placed-order-items.result.now in
    let i = c.loop-order.order-index in
    let side = buys c.args.side in
    let inv = c.loop-order.invariant in
    let all : i ≡ length (bids_of os) = omega (arith, length-map os bid_of) in
    all_figures (at_limit side (bids_of os)) c.loop-order.quantities inv.0
    (λ l h. inv.1 l (omega (arith, inv.0)) ∙ ap (λ n. total n (λ k. limited_at side l (bid (bids_of os) k))) all)
    ∙ ap (λ z. figures highest_tick (at_limit side (bids_of z))) c.placed-order-items.ensures.is
