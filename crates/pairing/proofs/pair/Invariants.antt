use Rattle.std.proofs.Common.{◌≡◌}
use Rattle.orders.specs.Held.{session_of}
use Rattle.steps.specs.Pairing.{Pairs}
use Rattle.steps.specs.Ways.{bought}
use Rattle.pairing.specs.Quotes.{pairs_of}
use Rattle.pairing.proofs.Trades.{units}
use Rattle.pairing.proofs.Loops.{SoFar}
use Rattle.pairing.proofs.pair.Given as goal

abbrev pub invariant-loop-pair : goal.invariant-loop-pair
invariant-loop-pair g l =
    let rules : Pairs = pairs_of g.R.Buy.Ranked.ahead g.R.Buy.OrderQuote.made g.R.Sell.Ranked.ahead g.R.Sell.OrderQuote.made g.P.PairPrice.meaning in
    SoFar rules (session_of l.initial.tables) (session_of l.tables) × (l.volume ≡ bought (session_of l.tables).lines)

abbrev pub decreases-loop-pair : goal.decreases-loop-pair
decreases-loop-pair g l = units (session_of l.tables).orders
