use Rattle.std.proofs.Common.{◌<◌, take, set, sym, ap, ◌∙◌, arith}
use Rattle.std.proofs.lemmas.List.{get_or-take}
use Rattle.std.proofs.Math.Seq.{take-set-lt}
use Rattle.orders.specs.Orders.{at, after, no_order}
use Rattle.orders.specs.Settlement.{with_orders}
use Rattle.orders.specs.Kept.{gone}
use Rattle.orders.specs.Held.{session_of}
use Rattle.orders.proofs.Keeps.{within_put, gone_event}
use Rattle.orders.proofs.tables.Tables.apply.Goals as goal

pub invariant_of-self-clause-owed : goal.invariant_of-self-clause-owed
invariant_of-self-clause-owed c =
    let t = c.args.self.now in
    let more = gone_event c.args.event (at t.orders c.args.place) in
    let is = ap gone c.after.ensures.is in (
      t.owed.0,
      within_put (λ a. a.pays) t.orders t.count _ c.after.result t.accounts t.ordered (omega arith) (omega (arith, more, is)) t.owed.1,
      within_put (λ a. a.gets) t.orders t.count _ c.after.result t.accounts t.ordered (omega arith) (omega (arith, more, is)) t.owed.2,
    )

pub returns-then-place-self : goal.returns-then-place-self
returns-then-place-self c =
    let t = c.args.self.now in
    let i = c.args.place in
    let e = c.args.event in
    let lt : i < t.count = omega arith in
    let os = take t.count t.orders in
    ap (λ z. with_orders z (session_of t))
    (take-set-lt t.count t.orders i c.after.result lt
    ∙ ap (set os i) (c.after.ensures.is ∙ ap (after e) (sym (get_or-take t.count t.orders i no_order lt))))
