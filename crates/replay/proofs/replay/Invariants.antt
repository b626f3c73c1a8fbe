use Rattle.std.proofs.Common.{◌≡◌, take}
use Rattle.orders.specs.Held.{session_of}
use Rattle.replay.proofs.Turns.{after}
use Rattle.replay.proofs.replay.Given as goal

abbrev pub invariant-loop-call : goal.invariant-loop-call
invariant-loop-call g l =
    (session_of l.session.tables
    ≡ after (λ c. c) (g.A.Auction.way l.initial.session.rules) (session_of l.initial.session.tables) (take l.call-index l.calls))
    × (l.session.rules ≡ l.initial.session.rules)
