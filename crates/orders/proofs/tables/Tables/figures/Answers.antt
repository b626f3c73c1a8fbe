use Rattle.std.proofs.Common.{◌≡◌, true, false, length, take, ap, ◌∙◌, arith}
use Rattle.std.proofs.lemmas.List.{length-take-le}
use Rattle.curves.specs.Curves.{figures}
use Rattle.ticks.specs.Ticks.{highest_tick, summed}
use Rattle.ticks.proofs.Limits.{figures_of_orders}
use Rattle.orders.specs.Orders.{bids_of}
use Rattle.orders.proofs.Keeps.{sound_take}
use Rattle.orders.proofs.Bids.{on_ticks}
use Rattle.orders.proofs.tables.Tables.figures.Goals as goal

pub returns : goal.returns
returns c =
    let t = c.args.self.now in
    let os = take t.count t.orders in
    let long : length os ≡ t.count = length-take-le t.count t.orders (omega (arith, t.ordered.0, t.ordered.1)) in
    let all = figures_of_orders (bids_of os) (on_ticks os (λ k l. sound_take t.orders t.count t.ordered.2 k (omega arith))) in
    record {
      demand = c.from_limits.ensures.demand ∙ ap (λ z. figures highest_tick (summed true z)) c.at_limits.ensures ∙ all.0;
      supply = c.from_limits.ensures.supply ∙ ap (λ z. figures highest_tick (summed false z)) c.at_limits-2.ensures ∙ all.1;
    }
