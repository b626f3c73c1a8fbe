-- What a place does first.
use Rattle.std.specs.Prelude.{ℕ, suc, Bool, ◌==◌, ◌&&◌, length, Result}
use Rattle.curves.specs.Orders.{on}
use Rattle.orders.specs.declared.order.Ask.{Ask}
use Rattle.orders.specs.declared.order.Order.{Order}
use Rattle.orders.specs.Orders.{is_standing, bid_of}
use Rattle.orders.specs.Settlement.{Session, cleared}
use Rattle.orders.specs.Changes.{accepted}
use Rattle.steps.specs.declared.refusal.Refusal.{Refusal}
use Rattle.steps.specs.Refusals.{first_no}
use Rattle.steps.specs.Calls.{made, ask_questions}

-- is the order a standing one of the member, on the side?
abbrev pub stands_for : ℕ → Bool → Order → Bool
stands_for member side o = is_standing o.life && (o.member == member && on side (bid_of o))

-- the order of an ask is numbered, with no lines yet, where every question about it is answered yes
abbrev pub entered : Bool → Ask → Session → Result ℕ Refusal × Session
entered continuous a s = made (first_no (ask_questions continuous a s)) (suc (length s.orders), accepted a (cleared s)) s
