-- Worked histories: a short continuous session, and a paired one.
use Rattle.std.specs.Prelude.{◌≡◌, ℕ, true, false, List, [], ◌∷◌, map, Ok, Err}
use Rattle.ranking.specs.Orders.{continuous, paired}
use Rattle.rules.specs.Pairs.{earlier_orders_price, half_the_sum}
use Rattle.orders.specs.declared.order.Side.{Side}
use Rattle.orders.specs.declared.order.Side.TheVariants.{Buy, Sell}
use Rattle.orders.specs.declared.order.Kind.{Kind}
use Rattle.orders.specs.declared.order.Kind.TheVariants.{Normal, FillAndKill, FillOrKill}
use Rattle.orders.specs.Settlement.{account}
use Rattle.steps.specs.declared.call.Call.{Call}
use Rattle.steps.specs.declared.call.Call.TheVariants.{Place, Withdraw, Round}
use Rattle.steps.specs.declared.call.Reply.TheVariants.{Accepted, Withdrawn, Cleared}
use Rattle.steps.specs.declared.refusal.Refusal.TheVariants.{Quantity, OtherSide, NotStanding}
use Rattle.steps.specs.Ways.{Way, Paired, Continuous}
use Rattle.steps.specs.Calls.{Answer}
use Rattle.history.specs.Fairness.{pairs_of}
use Rattle.history.specs.Histories.{Event, run}

-- the member's ask of a quantity at a limit
abbrev pub asks : ℕ → Side → Kind → ℕ → ℕ → Call
asks member side kind quantity limit = Place (record { member = member; side = side; kind = kind; limit = limit; quantity = quantity })

-- an order is numbered, and so much of it is killed
abbrev pub numbers : ℕ → ℕ → Answer
numbers n killed = Ok (Accepted (record { number = n; killed = killed }))

-- what a session of a period of 4 quarter-hours answers to calls
abbrev pub answers_to : Way → List Call → List Answer
answers_to w calls = map (λ (e : Event). e.answer) (run w 4 calls).events

-- the session that ships for continuous trading: earlier numbers first among equals, at the earlier order's limit
abbrev pub in_turn : Way
in_turn = Continuous (pairs_of (continuous true) (continuous false) earlier_orders_price)

-- 1,000 are bought by 600 and 400; of the later sell 100 are killed; the last buy finds too little and is killed whole
abbrev pub traded_at_once : List Call
traded_at_once =
    asks 1 Buy Normal 1000 400
    ∷ asks 2 Sell Normal 600 300
    ∷ asks 2 Buy Normal 99 300
    ∷ asks 3 Sell FillAndKill 500 350
    ∷ asks 4 Buy FillOrKill 500 350
    ∷ Withdraw (record { member = 1; number = 1 })
    ∷ []

-- the session that ships for pairing: larger orders first among equals, here at half the sum of the limits
abbrev pub by_size : Way
by_size = Paired (pairs_of (paired true) (paired false) half_the_sum)

-- the larger of two buys trades first
abbrev pub paired_off : List Call
paired_off =
    asks 1 Buy Normal 200 400
    ∷ asks 2 Buy Normal 300 400
    ∷ asks 1 Sell Normal 100 500
    ∷ asks 3 Sell Normal 400 301
    ∷ Round
    ∷ Withdraw (record { member = 1; number = 1 })
    ∷ []

pub record Examples : Type 0 where
  pub first : answers_to in_turn traded_at_once
      ≡ numbers 1 0 ∷ numbers 2 0 ∷ Err Quantity ∷ numbers 3 100 ∷ numbers 4 500 ∷ Err NotStanding ∷ []
  pub first_pays : (account (run in_turn 4 traded_at_once).session.accounts 1).pays ≡ 1600000
  pub second : answers_to by_size paired_off
      ≡ numbers 1 0 ∷ numbers 2 0 ∷ Err OtherSide ∷ numbers 3 0 ∷ Ok (Cleared (record { volume = 400; price = 0; members = 3 })) ∷ Ok (Withdrawn 100) ∷ []
  pub second_gets : (account (run by_size 4 paired_off).session.accounts 3).gets ≡ 561600
