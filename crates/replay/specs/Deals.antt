-- The calls that are no rounds, among all calls.
use Rattle.steps.specs.declared.call.Call.{Call}
use Rattle.steps.specs.declared.call.Call.TheVariants.{Place as PlaceCall, Withdraw as WithdrawCall}
use Rattle.replay.specs.declared.Deal.{Deal}
use Rattle.replay.specs.declared.Deal.TheVariants.{Place, Withdraw}

abbrev pub call_of : Deal → Call
call_of (Place ask) = PlaceCall ask
call_of (Withdraw order) = WithdrawCall order
