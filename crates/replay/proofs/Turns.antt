-- The session after calls that are made one after the other, whatever stands for a call in the list of them.
use Rattle.std.proofs.Common.{List, [], fold}
use Rattle.orders.specs.Settlement.{Session}
use Rattle.steps.specs.declared.call.Call.{Call}
use Rattle.steps.specs.Ways.{Way}
use Rattle.history.specs.Histories.{History, called}

module _ {X : Type 0} (call : X → Call) where
  -- the history with the call that x stands for
  abbrev turn : Way → History → X → History
  turn w h x = called w h (call x)

  -- the session after the calls that xs stand for
  abbrev pub after : Way → Session → List X → Session
  after w s xs = (fold (turn w) (record { session = s; events = [] }) xs).session
