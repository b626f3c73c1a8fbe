-- What an awarded session tells of its round.
use Rattle.orders.specs.Held.{session_of}
use Rattle.orders.specs.Members.{distinct_members}
use Rattle.steps.specs.declared.call.Outcome.{Outcome}
use Rattle.session.specs.declared.market.Market.{Market}
use Rattle.session.specs.declared.batch.Award.{Award}

-- its volume and price, and how many members have lines
abbrev pub outcome_of : {A : Type 0} → Market A Award → Outcome
outcome_of a = record { volume = a.state.volume; price = a.state.price; members = distinct_members (session_of a.tables).lines }
