use Rattle.std.proofs.Common.{◌≡◌, true, false, None, sym, ap, ◌∙◌, subst, arith, rules}
use Rattle.ranking.specs.Orders.{OrderRankLaw}
use Rattle.orders.specs.Held.{session_of}
use Rattle.orders.specs.Settlement.{Session, cleared}
use Rattle.steps.specs.Pairing.{Pairs, best_pair}
use Rattle.steps.specs.Ways.{bought}
use Rattle.pairing.specs.Quotes.{pairs_of}
use Rattle.pairing.specs.Found.{BestPair}
use Rattle.pairing.proofs.Loops.{SoFar, Turn, kept_orders, so_far_none, turn, bought_all, settled_all, uncrossed_all}
use Rattle.pairing.proofs.pair.Given.{Over}
use Rattle.pairing.proofs.pair.Goals.{After-trade-in-Some}
use Rattle.pairing.proofs.pair.Goals as goal

pub loop-pair-init : goal.loop-pair-init
loop-pair-init g c =
    let tables = c.clear_lines.new.self in
    let e : session_of tables ≡ cleared (session_of c.args.tables.now) = c.clear_lines.ensures in
    let kept = kept_orders tables.orders tables.count tables.ordered in
    (so_far_none _ (session_of tables) (ap cleared e ∙ sym e) kept.0 kept.1, ap (λ (s : Session). bought s.lines) (sym e))

-- the rules of the session
abbrev rules_of : Over → Pairs
rules_of g = pairs_of g.R.Buy.Ranked.ahead g.R.Buy.OrderQuote.made g.R.Sell.Ranked.ahead g.R.Sell.OrderQuote.made g.P.PairPrice.meaning

-- one turn of the loop
turned : (g : Over) (c : After-trade-in-Some g) →
    Turn (rules_of g) (session_of c.clear_lines.new.self) (session_of c.loop-pair.tables) (session_of c.trade-in-Some.new.self) c.in-Some.pair.quantity
turned g c =
    let t = session_of c.loop-pair.tables in
    let pair = c.in-Some.pair in
    let found : BestPair (rules_of g) t.orders pair = subst (λ os. BestPair (rules_of g) os pair) c.placed.ensures.is c.in-Some.ensures in
    turn (rules_of g) (session_of c.clear_lines.new.self) t c.loop-pair.invariant.0 (pair.buy, pair.sell) found.places pair.quantity pair.price.value found.quantity found.price
    (session_of c.trade.new.self) (session_of c.trade-in-Some.new.self) c.trade.result c.trade-in-Some.result
    c.trade.ensures.answer c.trade.ensures.after c.trade-in-Some.ensures.answer c.trade-in-Some.ensures.after

pub loop-pair-smaller : goal.loop-pair-smaller
loop-pair-smaller g c = (turned g (goal.at.loop-pair-smaller g c).After-trade-in-Some).units_less

pub loop-pair-preserved : goal.loop-pair-preserved
loop-pair-preserved g c =
    let more = turned g (goal.at.loop-pair-preserved g c).After-trade-in-Some in
    (more.so_far, omega (arith, c.loop-pair.invariant.1, more.bought_more))

pub returns : goal.returns
returns g c =
    let began = session_of c.args.tables.now in
    let s = session_of c.clear_lines.new.self in
    let t = session_of c.loop-pair.tables in
    let f : SoFar (rules_of g) s t = c.loop-pair.invariant.0 in
    let none : best_pair (rules_of g) t.orders ≡ None = subst (λ os. best_pair (rules_of g) os ≡ None) c.placed.ensures.is c.in_default.ensures in
    let buys : OrderRankLaw true (rules_of g).buys = search rules in
    let sells : OrderRankLaw false (rules_of g).sells = search rules in
    let u = session_of c.rank_lines.new.self in
    record {
      after = settled_all (rules_of g) began s t u c.clear_lines.ensures f none c.rank_lines.ensures;
      volume = bought_all (rules_of g) began s t u c.clear_lines.ensures f none c.rank_lines.ensures c.loop-pair.volume c.loop-pair.invariant.1;
      uncrossed = uncrossed_all (rules_of g) began s t u c.clear_lines.ensures f none c.rank_lines.ensures buys sells;
    }
