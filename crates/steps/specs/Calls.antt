-- The calls: what each answers, and the session that it leaves. A refused call leaves the session as it was.
use Rattle.std.specs.Prelude.{ℕ, suc, ◌-◌, Bool, true, false, cond, not, ◌&&◌, ◌||◌, List, [], ◌∷◌, ◌++◌, length, Some, None, Ok, Err, Option, Result, ◌==◌, nat_le, nat_lt, slice_index_or}
use Rattle.std.specs.List.{list_any}
use Rattle.curves.specs.Orders.{willing, on, demand, supply}
use Rattle.ticks.specs.Ticks.{highest_tick}
use Rattle.orders.specs.declared.order.Ask.{Ask}
use Rattle.orders.specs.declared.order.Kind.{Kind}
use Rattle.orders.specs.declared.order.Kind.TheVariants.{Normal, FillAndKill, FillOrKill}
use Rattle.orders.specs.declared.order.Event.TheVariants.{Withdraw as Withdrawal, Kill}
use Rattle.orders.specs.declared.order.Order.{Order}
use Rattle.orders.specs.declared.order.Line.{Line}
use Rattle.orders.specs.declared.order.Account.{Account}
use Rattle.orders.specs.Orders.{most_orders, last_member, least_quantity, most_quantity, buys, is_standing, at, standing, bid_of, bids_of}
use Rattle.orders.specs.Settlement.{Session, ranked, settled, changed, with_orders, account}
use Rattle.orders.specs.Kept.{most_lines, lawful_period, no_line}
use Rattle.orders.specs.Members.{distinct_members}
use Rattle.orders.specs.Changes.{new_order}
use Rattle.steps.specs.declared.call.Acceptance.{Acceptance}
use Rattle.steps.specs.declared.call.Outcome.{Outcome}
use Rattle.steps.specs.declared.call.Status.{Status}
use Rattle.steps.specs.declared.call.Call.{Call}
use Rattle.steps.specs.declared.call.Call.TheVariants.{Place, Withdraw, Round}
use Rattle.steps.specs.declared.call.Reply.{Reply}
use Rattle.steps.specs.declared.call.Reply.TheVariants.{Accepted, Withdrawn, Cleared}
use Rattle.steps.specs.declared.refusal.Refusal.{Refusal}
use Rattle.steps.specs.declared.refusal.Refusal.TheVariants.{Period, Reference, Member, Limit, Quantity, OtherSide, Numbers, Lines, NotGiven, NotOwned, NotStanding, NoSuchLine}
use Rattle.steps.specs.declared.refusal.Refusal.TheVariants.{Kind as KindOf}
use Rattle.steps.specs.Refusals.{Asked, first_no}
use Rattle.steps.specs.Ways.{Way, is_continuous, round_lines, round_volume, round_price, place_lines}

-- the answer of a call whose questions have this first no
abbrev pub answered : {A : Type 0} → Option Refusal → A → Result A Refusal
answered None x = Ok x
answered (Some question) x = Err question

-- the same, with the session that it leaves
abbrev pub made : {A : Type 0} → Option Refusal → A × Session → Session → Result A Refusal × Session
made None r s = (Ok r.0, r.1)
made (Some question) r s = (Err question, s)

-- ---- opening

abbrev pub open_questions : ℕ → ℕ → List Asked
open_questions period reference = (Period, lawful_period period) ∷ (Reference, nat_le reference highest_tick) ∷ []

-- ---- questions about one member's order

abbrev pub is_member : ℕ → Bool
is_member m = nat_le 1 m && nat_le m last_member

-- the order with this number, of the numbers 1, 2, 3 ..
abbrev pub order_of : Session → ℕ → Order
order_of s n = at s.orders (n - 1)

abbrev pub is_given : Session → ℕ → Bool
is_given s n = nat_le 1 n && nat_le n (length s.orders)

abbrev pub status_questions : Session → ℕ → ℕ → List Asked
status_questions s m n = (Member, is_member m) ∷ (NotGiven, is_given s n) ∷ (NotOwned, ((order_of s n).member == m)) ∷ []

abbrev pub withdraw_questions : Session → ℕ → ℕ → List Asked
withdraw_questions s m n = status_questions s m n ++ ((NotStanding, is_standing (order_of s n).life) ∷ [])

-- ---- place

abbrev pub is_normal : Kind → Bool
is_normal Normal = true
is_normal FillAndKill = false
is_normal FillOrKill = false

-- is the order the member's, standing, and on the other side than the ask?
abbrev pub opposes : Ask → Order → Bool
opposes a o = is_standing o.life && (o.member == a.member && on (not (buys a.side)) (bid_of o))

-- may the ask trade at once? A fill-or-kill order only if opposite quantity within its limit covers it
abbrev pub may_trade : Kind → Ask → List Order → Bool
may_trade Normal a os = true
may_trade FillAndKill a os = true
may_trade FillOrKill a os = nat_le a.quantity (willing (not (buys a.side)) (bids_of os) a.limit)

-- the orders with the ask's order behind them, standing
abbrev pub with_ask : Ask → List Order → List Order
with_ask a os = os ++ (new_order a (suc (length os)) ∷ [])

-- the lines that an accepted ask makes
abbrev pub lines_of_place : Way → Ask → List Order → List Line
lines_of_place w a os = cond (may_trade a.kind a os) (place_lines w (with_ask a os)) []

-- what a place is asked before its lines are made; only a continuous session takes orders that are not normal
abbrev pub ask_questions : Bool → Ask → Session → List Asked
ask_questions continuous a s =
    (Member, is_member a.member)
    ∷ (Limit, nat_le a.limit highest_tick)
    ∷ (Quantity, nat_le least_quantity a.quantity && nat_le a.quantity most_quantity)
    ∷ (KindOf, is_normal a.kind || continuous)
    ∷ (OtherSide, not (list_any (opposes a) s.orders))
    ∷ (Numbers, nat_lt (length s.orders) most_orders)
    ∷ []

abbrev pub place_questions : Way → Ask → Session → List Asked
place_questions w a s =
    ask_questions (is_continuous w) a s ++ ((Lines, nat_le (length (lines_of_place w a s.orders)) most_lines) ∷ [])

-- what the order at place k has left is killed, unless it may stand
abbrev pub closed : Kind → ℕ → Session → ℕ × Session
closed Normal k s = (0, s)
closed FillAndKill k s = (standing (at s.orders k), with_orders (changed k Kill s.orders) s)
closed FillOrKill k s = (standing (at s.orders k), with_orders (changed k Kill s.orders) s)

abbrev pub acceptance : ℕ → ℕ × Session → Acceptance × Session
acceptance n c = (record { number = n; killed = c.0 }, c.1)

-- the order is numbered, trades where it may, and what it may not leave standing is killed
abbrev pub placed : Way → Ask → Session → Acceptance × Session
placed w a s =
    acceptance (suc (length s.orders))
    (closed a.kind (length s.orders) (settled (lines_of_place w a s.orders) (with_orders (with_ask a s.orders) s)))

abbrev pub place : Way → Ask → Session → Result Acceptance Refusal × Session
place w a s = made (first_no (place_questions w a s)) (placed w a s) s

-- ---- withdraw

-- what the order has left is taken out; the call makes no lines
abbrev pub withdrawn : ℕ → Session → ℕ × Session
withdrawn n s = (standing (order_of s n), settled [] (with_orders (changed (n - 1) Withdrawal s.orders) s))

abbrev pub withdraw : ℕ → ℕ → Session → Result ℕ Refusal × Session
withdraw m n s = made (first_no (withdraw_questions s m n)) (withdrawn n s) s

-- ---- round

abbrev pub outcome : Way → Session → Outcome
outcome w s = record {
  volume = round_volume w s.orders;
  price = round_price w s.orders;
  members = distinct_members (ranked (round_lines w s.orders));
}

-- shut, award and carry over
abbrev pub round : Way → Session → Outcome × Session
round w s = (outcome w s, settled (round_lines w s.orders) s)

-- ---- reading

abbrev pub status : ℕ → ℕ → Session → Result Status Refusal
status m n s = answered (first_no (status_questions s m n)) (record { life = (order_of s n).life; left = (order_of s n).left })

abbrev pub account_of : ℕ → Session → Result Account Refusal
account_of m s = answered (first_no ((Member, is_member m) ∷ [])) (account s.accounts m)

-- demand and supply at a tick
abbrev pub demand_at : ℕ → Session → Result ℕ Refusal
demand_at tick s = answered (first_no ((Limit, nat_le tick highest_tick) ∷ [])) (demand highest_tick (bids_of s.orders) tick)

abbrev pub supply_at : ℕ → Session → Result ℕ Refusal
supply_at tick s = answered (first_no ((Limit, nat_le tick highest_tick) ∷ [])) (supply highest_tick (bids_of s.orders) tick)

-- the line at a place, from 0
abbrev pub line_at : ℕ → Session → Result Line Refusal
line_at i s = answered (first_no ((NoSuchLine, nat_lt i (length s.lines)) ∷ [])) (slice_index_or s.lines i no_line)

-- ---- the step

-- a reply, or why the call is refused
abbrev pub Answer : Type 0
Answer = Result Reply Refusal

abbrev pub told : {A : Type 0} → (A → Reply) → Result A Refusal → Answer
told reply (Ok x) = Ok (reply x)
told reply (Err question) = Err question

-- the answer to a call, and the session that it leaves
abbrev pub step : Way → Session → Call → Answer × Session
step w s (Place a) = (told Accepted (place w a s).0, (place w a s).1)
step w s (Withdraw o) = (told Withdrawn (withdraw o.member o.number s).0, (withdraw o.member o.number s).1)
step w s Round = (Ok (Cleared (outcome w s)), (round w s).1)
