use Rattle.std.proofs.Common.{◌≡◌, suc, cond, length, Ok, Err, sym, ap, ◌∙◌, arith, rules}
use Rattle.orders.specs.Settlement.{settled, cleared}
use Rattle.orders.specs.Held.{session_of}
use Rattle.orders.specs.Changes.{accepted}
use Rattle.pairing.proofs.Loops.{kept_orders}
use Rattle.steps.specs.Refusals.{first_no}
use Rattle.steps.specs.Ways.{is_continuous, place_lines}
use Rattle.steps.specs.Calls.{ask_questions, may_trade}
use Rattle.session.proofs.Places.{made_accepted, place_refused, place_accepted, trades_where_it_may, answered, limit_passes, few_lines, same_trades}
use Rattle.session.proofs.market.Market.place.Goals as goal
use Rattle.session.proofs.market.Market.place.Goals.{then-trades, else-trades}

pub returns-in_err-number-clause-answer : goal.returns-in_err-number-clause-answer
returns-in_err-number-clause-answer g c =
    let is : c.from_residual.result ≡ Err c.in_err-number.field-0.0 = search rules in
    rw is (place_refused (g.S.TakesOrders.way c.args.self.now.rules) c.args.ask c.is_continuous.result (session_of c.args.self.now.tables) _ _ _
    (sym (c.is_continuous.ensures.is)) c.enter.ensures c.in_err-number.was)

pub returns-clause-answer : goal.returns-clause-answer
returns-clause-answer g c =
    let way = g.S.TakesOrders.way c.args.self.now.rules in
    let ask = c.args.ask in
    let s = session_of c.args.self.now.tables in
    let tables = c.enter.new.tables in
    let t = session_of tables in
    let u = session_of c.if-trades.self.tables in
    let continuous = c.is_continuous.result in
    let (none, number, entry) = made_accepted (first_no (ask_questions continuous ask s)) (suc (length s.orders), accepted ask (cleared s)) c.enter.result s t c.in_ok-number.number c.enter.ensures c.in_ok-number.was in
    let all : first_no (ask_questions (is_continuous way) ask s) ≡ _ = ap (λ b. first_no (ask_questions b ask s)) (sym (c.is_continuous.ensures.is)) ∙ none in
    let kept = kept_orders tables.orders tables.count tables.ordered in
    let few = few_lines way ask s t.orders (ap (λ x. x.orders) entry) kept.0 kept.1 in
    let trades = c.may_trade-trades.result in
    let traded : u ≡ cond trades (settled (place_lines way t.orders) t) t =
    elim c.if-trades.branch [
      | then-trades w ↦
          ap (λ x. session_of x.tables) w.self-is ∙ w.trade.ensures
          ∙ sym (ap (λ b. cond b (settled (place_lines way t.orders) t) t) w.if-trades.true)
      | else-trades w ↦
          ap (λ x. session_of x.tables) w.self-is ∙ sym (ap (λ b. cond b (settled (place_lines way t.orders) t) t) w.if-trades.false)
    ] in
    let may : trades ≡ _ =
    c.may_trade-trades.ensures (limit_passes continuous ask s none) ∙ ap (λ x. may_trade ask.kind ask x.orders) entry ∙ same_trades ask s.orders in
    let settles = trades_where_it_may way ask s t u trades may entry traded in
    ap (λ r. (Ok r.0, r.1)) (answered way ask s u _ _ _ _ settles (omega (arith, number)) number c.close-killed.ensures)
    ∙ sym (place_accepted way ask s all few)
