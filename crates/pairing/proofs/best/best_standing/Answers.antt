use Rattle.std.proofs.Common.{◌<◌, length, Some, None, rules}
use Rattle.orders.specs.Orders.{buys}
use Rattle.pairing.proofs.Bests.{best_found_by, found_in}
use Rattle.pairing.proofs.best.best_standing.Goals as goal

pub returns-in_err-place : goal.returns-in_err-place
returns-in_err-place g c =
    let none = best_found_by g.Q.Ranked.ahead g.Q.OrderQuote.made (buys c.args.side) c.args.orders.now _ None c.find_best.ensures.is c.in_err-place.was in
    rw c.from_residual.ensures none

pub bounds-orders-place : goal.bounds-orders-place
bounds-orders-place g c =
    found_in g.Q.Ranked.ahead g.Q.OrderQuote.made (buys c.args.side) c.args.orders.now _ c.in_ok-place.place c.find_best.ensures.is c.in_ok-place.was

pub offset_bounds-orders-place : goal.offset_bounds-orders-place
offset_bounds-orders-place g c =
    let within : c.in_ok-place.place < length c.args.orders.now =
    found_in g.Q.Ranked.ahead g.Q.OrderQuote.made (buys c.args.side) c.args.orders.now _ c.in_ok-place.place c.find_best.ensures.is c.in_ok-place.was in
    search rules

pub returns : goal.returns
returns g c =
    let made = g.met.Q.OrderQuote.from c.fields_of-order.result in
    record {
      place = best_found_by g.Q.Ranked.ahead g.Q.OrderQuote.made (buys c.args.side) c.args.orders.now _ (Some c.in_ok-place.place) c.find_best.ensures.is c.in_ok-place.was;
      number = search rules;
      limit = search rules;
      left = search rules;
    }
