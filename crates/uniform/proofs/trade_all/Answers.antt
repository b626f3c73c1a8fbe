use Rattle.std.proofs.Common.{◌≡◌, ℕ, ◌<◌, cond, List, length, get_or, sym, ap, ◌∙◌, arith}
use Rattle.std.proofs.lemmas.List.Sums.{fold_more}
use Rattle.std.proofs.lemmas.List.FromFn.{get_or-map-range_with_len}
use Rattle.orders.specs.declared.order.Order.{Order}
use Rattle.orders.specs.Orders.{at, no_order}
use Rattle.orders.specs.Settlement.{Session}
use Rattle.orders.specs.Held.{session_of}
use Rattle.orders.specs.Changes.{can_trade, traded}
use Rattle.uniform.specs.declared.margin.Margins.{Margins}
use Rattle.uniform.specs.Margins.{grant_of, turned, margins_at, grants, traded_to}
use Rattle.uniform.proofs.Rounds.{orders_stay, order_now, traded_more}
use Rattle.uniform.proofs.trade_all.Goals as goal

-- no order has come or gone
same_count : (c : goal.After-placed) → length c.placed.result.now ≡ length (session_of c.args.tables.now).orders
same_count c =
    let s = session_of c.args.tables.now in
    ap length c.placed.ensures.is
    ∙ ap (λ (z : Session). length z.orders) c.loop-place.invariant.0
    ∙ orders_stay c.args.price.value s (grants c.args.margins s.orders) c.loop-place.place

pub bounds-placed-place : goal.bounds-placed-place
bounds-placed-place c = omega (arith, same_count c, ap length c.placed-count.ensures.is)

pub loop-place-preserved : goal.loop-place-preserved
loop-place-preserved c =
    let s = session_of c.args.tables.now in
    let os = s.orders in
    let ms = c.args.margins in
    let p = c.args.price.value in
    let i = c.loop-place.place in
    let qs = grants ms os in
    let t = traded_to p s qs i in
    let here = session_of c.loop-place.tables in
    let lt : i < length os = omega (arith, ap length c.placed-count.ensures.is) in
    let order : get_or c.placed.result.now i no_order ≡ at os i =
    ap (λ (z : List Order). get_or z i no_order) c.placed.ensures.is
    ∙ ap (λ (z : Session). at z.orders i) c.loop-place.invariant.0
    ∙ order_now p s qs c.requires i lt in
    let q = c.grant-quantity.result in
    let given : q ≡ get_or qs i 0 =
    c.grant-quantity.ensures.quantity
    ∙ ap (λ (o : Order). grant_of c.loop-place.margins o) order
    ∙ ap (λ (z : Margins). grant_of z (at os i)) c.loop-place.invariant.1
    ∙ sym (get_or-map-range_with_len (λ k. grant_of (margins_at ms os k) (at os k)) 0 (length os) i i 0 lt (omega arith)) in
    let r = c.trade.result in
    let can : r ≡ can_trade i (get_or qs i 0) t =
    c.trade.ensures.answer ∙ ap (λ (z : Session). can_trade i q z) c.loop-place.invariant.0 ∙ ap (λ (z : ℕ). can_trade i z t) given in (
      c.trade.ensures.after
          ∙ ap (λ (z : Session). cond r (traded i q p z) z) c.loop-place.invariant.0
          ∙ ap (λ (z : ℕ). cond r (traded i z p t) t) given
          ∙ traded_more p s qs c.requires i lt r can,
      c.grant-quantity.ensures.after
          ∙ ap (λ (o : Order). turned c.loop-place.margins o) order
          ∙ ap (λ (z : Margins). turned z (at os i)) c.loop-place.invariant.1
          ∙ sym (fold_more turned ms os i no_order lt),
    )
