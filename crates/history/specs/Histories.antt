-- Histories of calls, and what holds after each.
use Rattle.std.specs.Prelude.{◌≡◌, ℕ, suc, ◌+◌, ◌-◌, ◌≤◌, Bool, false, cond, ◌⊎◌, List, [], ◌∷◌, ◌++◌, length, Ok, Err, fold, sum_by, count_by, ◌==◌, nat_lt}
use Rattle.std.specs.List.{flat_map, AllByRecursion}
use Rattle.curves.specs.Allotments.{Best}
use Rattle.orders.specs.declared.order.Ask.{Ask}
use Rattle.orders.specs.declared.order.Kind.{Kind}
use Rattle.orders.specs.declared.order.Kind.TheVariants.{Normal, FillAndKill, FillOrKill}
use Rattle.orders.specs.declared.order.Order.{Order}
use Rattle.orders.specs.declared.order.Line.{Line}
use Rattle.orders.specs.declared.order.Account.{Account}
use Rattle.orders.specs.Orders.{at, standing, bids_of}
use Rattle.orders.specs.Settlement.{Session, opening, account}
use Rattle.orders.specs.Kept.{most_lines}
use Rattle.steps.specs.declared.call.Call.{Call}
use Rattle.steps.specs.declared.call.Call.TheVariants.{Place, Withdraw, Round}
use Rattle.steps.specs.declared.call.Acceptance.{Acceptance}
use Rattle.steps.specs.declared.call.Reply.TheVariants.{Accepted, Withdrawn, Cleared}
use Rattle.steps.specs.declared.refusal.Refusal.TheVariants.{Lines}
use Rattle.steps.specs.Uniform.{standing_of}
use Rattle.steps.specs.Pairing.{Uncrossed}
use Rattle.steps.specs.Ways.{Way, Uniform, Paired, Continuous, Laws}
use Rattle.steps.specs.Calls.{Answer, step, round}
use Rattle.history.specs.Fairness.{of_order, pays_of, gets_of, award_of, Kept, Fair}

-- a call, its answer, the lines that it made, and the orders that stood before it
pub record Event : Type 0 where
  pub call : Call
  pub answer : Answer
  pub lines : List Line
  pub before : List Order

-- the session after some calls, and their events
pub record History : Type 0 where
  pub session : Session
  pub events : List Event

-- the lines of a call, where it leaves these: a refused call makes none
abbrev pub lines_made : Answer → List Line → List Line
lines_made (Ok reply) ls = ls
lines_made (Err question) ls = []

-- the event of a call to a session, by its answer and the session that it leaves
abbrev pub event_of : Session → Call → Answer × Session → Event
event_of s c r = record { call = c; answer = r.0; lines = lines_made r.0 r.1.lines; before = standing_of s.orders }

-- the history with one event more
abbrev pub more : History → Call → Answer × Session → History
more h c r = record { session = r.1; events = h.events ++ (event_of h.session c r ∷ []) }

-- one call more
abbrev pub called : Way → History → Call → History
called w h c = more h c (step w h.session c)

-- a session as it opens
abbrev pub opened : ℕ → History
opened period = record { session = opening period; events = [] }

-- the history of a list of calls
abbrev pub run : Way → ℕ → List Call → History
run w period cs = fold (called w) (opened period) cs

-- ---- what calls said of the order numbered n

-- does the answer give the number n?
abbrev pub gives : Answer → ℕ → Bool
gives (Ok (Accepted a)) n = a.number == n
gives (Ok (Withdrawn q)) n = false
gives (Ok (Cleared o)) n = false
gives (Err question) n = false

-- does the call withdraw the order numbered n?
abbrev pub withdraws : Call → ℕ → Bool
withdraws (Place a) n = false
withdraws (Withdraw o) n = o.number == n
withdraws Round n = false

-- the quantity that a place names
abbrev pub asked_in : Call → ℕ
asked_in (Place a) = a.quantity
asked_in (Withdraw o) = 0
asked_in Round = 0

-- the quantity that a place answers as killed
abbrev pub killed_in : Answer → ℕ
killed_in (Ok (Accepted a)) = a.killed
killed_in (Ok (Withdrawn q)) = 0
killed_in (Ok (Cleared o)) = 0
killed_in (Err question) = 0

-- the quantity that a withdraw answers
abbrev pub withdrawn_in : Answer → ℕ
withdrawn_in (Ok (Accepted a)) = 0
withdrawn_in (Ok (Withdrawn q)) = q
withdrawn_in (Ok (Cleared o)) = 0
withdrawn_in (Err question) = 0

-- what an event says was named for the order numbered n
abbrev pub asked_for : ℕ → Event → ℕ
asked_for n e = cond (gives e.answer n) (asked_in e.call) 0

-- was killed of it
abbrev pub killed_for : ℕ → Event → ℕ
killed_for n e = cond (gives e.answer n) (killed_in e.answer) 0

-- was withdrawn of it
abbrev pub withdrawn_for : ℕ → Event → ℕ
withdrawn_for n e = cond (withdraws e.call n) (withdrawn_in e.answer) 0

-- ---- sums over a history

-- all lines that were ever made
abbrev pub all_lines : History → List Line
all_lines h = flat_map (λ (e : Event). e.lines) h.events

-- the quantity that its place named
abbrev pub asked_of : History → ℕ → ℕ
asked_of h n = sum_by (asked_for n) h.events

-- what place answered as killed of it
abbrev pub killed_of : History → ℕ → ℕ
killed_of h n = sum_by (killed_for n) h.events

-- what withdraw answered for it
abbrev pub withdrawn_of : History → ℕ → ℕ
withdrawn_of h n = sum_by (withdrawn_for n) h.events

-- the quantity of its lines
abbrev pub filled_of : History → ℕ → ℕ
filled_of h n = sum_by (of_order n) (all_lines h)

-- ---- what holds of each event

-- what a round's lines give is a best allotment of the orders that stood
abbrev pub BestIfRound : Call → Event → Type 0
BestIfRound (Place a) e = Unit {0}
BestIfRound (Withdraw o) e = Unit {0}
BestIfRound Round e = Best (bids_of e.before) (award_of e.before e.lines)

-- so it is in uniform sessions
abbrev pub Awarded : Way → Event → Type 0
Awarded (Uniform price share reference) e = BestIfRound e.call e
Awarded (Paired rules) e = Unit {0}
Awarded (Continuous rules) e = Unit {0}

-- what holds of an ask and its acceptance, if the call is a place that is accepted
abbrev pub IfAccepted : (Ask → Acceptance → Type 0) → Call → Answer → Type 0
IfAccepted P (Place a) (Ok (Accepted x)) = P a x
IfAccepted P (Place a) (Ok (Withdrawn q)) = Unit {0}
IfAccepted P (Place a) (Ok (Cleared o)) = Unit {0}
IfAccepted P (Place a) (Err question) = Unit {0}
IfAccepted P (Withdraw o) r = Unit {0}
IfAccepted P Round r = Unit {0}

-- the order numbered n is of the member, on the side and at the limit that was asked for
pub record AsAsked (os : List Order) (a : Ask) (n : ℕ) : Type 0 where
  pub given : 1 ≤ n
  pub within : n ≤ length os
  pub member : (at os (n - 1)).member ≡ a.member
  pub side : (at os (n - 1)).side ≡ a.side
  pub limit : (at os (n - 1)).limit ≡ a.limit

-- so is every order that a place was answered by
abbrev pub Asked : List Order → Event → Type 0
Asked os e = IfAccepted (λ a x. AsAsked os a x.number) e.call e.answer

-- an order of q, numbered n, trades whole or not at all, if it is fill or kill
abbrev pub WholeIf : Kind → ℕ → ℕ → List Line → Type 0
WholeIf Normal n q ls = Unit {0}
WholeIf FillAndKill n q ls = Unit {0}
WholeIf FillOrKill n q ls = (sum_by (of_order n) ls ≡ q) ⊎ (ls ≡ [])

-- so does every order, in the lines of its place
abbrev pub Whole : Event → Type 0
Whole e = IfAccepted (λ a x. WholeIf a.kind x.number a.quantity e.lines) e.call e.answer

-- the lines of a call fit the places for them, and no call is refused for want of such places
pub record Roomy (e : Event) : Type 0 where
  pub fits : length e.lines ≤ most_lines
  pub never : e.answer ≡ Err Lines → ⊥

-- ---- what holds of a history

-- in a continuous session every standing buy's limit is below every standing sell's
abbrev pub Apart : Way → List Order → Type 0
Apart (Uniform price share reference) os = Unit {0}
Apart (Paired rules) os = Unit {0}
Apart (Continuous rules) os = Uncrossed os

-- all of it, after some calls
pub record Holds (w : Way) (period : ℕ) (h : History) : Type 0 where
  -- awards: each uniform round's is an allotment of the orders that stood, with none of greater surplus, nor of equal surplus
  -- and greater volume
  pub award : AllByRecursion (Awarded w) h.events
  -- limits: every line is of its order, which is as its place asked, and keeps its limit
  pub asked : AllByRecursion (Asked h.session.orders) h.events
  pub limits : AllByRecursion (Kept h.session.orders) (all_lines h)
  -- accounts: a member pays the sum of quantity times price times period over its buy lines, and gets it over its sell lines
  pub pays : (m : ℕ) → (account h.session.accounts m).pays ≡ sum_by (pays_of period m) (all_lines h)
  pub gets : (m : ℕ) → (account h.session.accounts m).gets ≡ sum_by (gets_of period m) (all_lines h)
  -- and all members together pay what all get
  pub even : sum_by (λ (a : Account). a.pays) h.session.accounts ≡ sum_by (λ (a : Account). a.gets) h.session.accounts
  -- numbers: each up to the number of orders was given once, and no other
  pub given : (k : ℕ) → count_by (λ (e : Event). gives e.answer (suc k)) h.events ≡ cond (nat_lt k (length h.session.orders)) 1 0
  -- balance: what its place named for the order numbered k + 1 is what its lines gave it, what withdraw answered for it, what
  -- place answered as killed, and what it has left while it stands
  pub named : (k : ℕ) → asked_of h (suc k) ≡ (at h.session.orders k).placed
  pub balance : (k : ℕ) → asked_of h (suc k)
      ≡ filled_of h (suc k) + withdrawn_of h (suc k) + killed_of h (suc k) + standing (at h.session.orders k)
  -- in a continuous session no two orders that stand could trade
  pub uncrossed : Apart w h.session.orders
  -- fill-or-kill orders traded whole or not at all
  pub whole : AllByRecursion Whole h.events
  -- the lines of each call found room
  pub room : AllByRecursion Roomy h.events
  -- and a round that comes next is fair
  pub fair : Fair w h.session (round w h.session)

-- ---- theorem

-- it holds after every list of calls
abbrev pub HistoriesHold : Way → Type 0
HistoriesHold w = (period : ℕ) (cs : List Call) → Holds w period (run w period cs)

-- whatever the rules, if they keep their laws
abbrev pub EveryHistory : Type 0
EveryHistory = (w : Way) → Laws w → HistoriesHold w
