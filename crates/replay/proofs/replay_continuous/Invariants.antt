use Rattle.std.proofs.Common.{◌≡◌, take}
use Rattle.orders.specs.Held.{session_of}
use Rattle.pairing.specs.Quotes.{pairs_of}
use Rattle.steps.specs.Ways.{Continuous}
use Rattle.replay.specs.Deals.{call_of}
use Rattle.replay.proofs.Turns.{after}
use Rattle.replay.proofs.replay_continuous.Given as goal

abbrev pub invariant-loop-deal : goal.invariant-loop-deal
invariant-loop-deal g l =
    (session_of l.session.tables
    ≡ after call_of (Continuous (pairs_of g.R.Buy.Ranked.ahead g.R.Buy.OrderQuote.made g.R.Sell.Ranked.ahead g.R.Sell.OrderQuote.made g.P.PairPrice.meaning))
    (session_of l.initial.session.tables) (take l.deal-index l.deals))
    × (l.session.rules ≡ l.initial.session.rules)
