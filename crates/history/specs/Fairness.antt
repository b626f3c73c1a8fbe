-- What a round owes its members, in words of the orders that stand, the lines and the accounts.
use Rattle.std.specs.Prelude.{◌≡◌, ℕ, suc, ◌+◌, ◌<◌, ◌≤◌, Bool, true, false, cond, List, [], ◌∷◌, map, length, sum_by, ◌==◌}
use Rattle.std.specs.List.{AllByRecursion}
use Rattle.curves.specs.Orders.{keeps}
use Rattle.curves.specs.Allotments.{Best}
use Rattle.ranking.specs.Orders.{OrderRank}
use Rattle.rules.specs.Pairs.{PairMeaning}
use Rattle.orders.specs.declared.order.Side.TheVariants.{Buy, Sell}
use Rattle.orders.specs.declared.order.Order.{Order}
use Rattle.orders.specs.declared.order.Line.{Line}
use Rattle.orders.specs.declared.order.Account.{Account}
use Rattle.orders.specs.Orders.{buys, at, standing}
use Rattle.orders.specs.Settlement.{Session, member_places, place_of, bill, credit, account, ranked}
use Rattle.orders.specs.Kept.{Sound}
use Rattle.steps.specs.declared.call.Outcome.{Outcome}
use Rattle.steps.specs.Uniform.{standing_of, standing_bids}
use Rattle.steps.specs.Pairing.{Pairs, Uncrossed}
use Rattle.steps.specs.Ways.{Way, Uniform, Paired, Continuous, Laws}
use Rattle.steps.specs.Calls.{round}

-- ---- lines

-- a line's quantity, if it is of the order numbered n
abbrev pub of_order : ℕ → Line → ℕ
of_order n l = cond (l.order == n) l.quantity 0

-- a line's quantity, if it is on this side
abbrev pub on_side : Bool → Line → ℕ
on_side true l = cond (buys l.side) l.quantity 0
on_side false l = cond (buys l.side) 0 l.quantity

-- what a line has the member m pay
abbrev pub pays_of : ℕ → ℕ → Line → ℕ
pays_of period m l = cond (l.member == m) (bill period l) 0

-- what a line has the member m get
abbrev pub gets_of : ℕ → ℕ → Line → ℕ
gets_of period m l = cond (l.member == m) (credit period l) 0

-- what the lines give to each of the orders, 0 to one that has no line
abbrev pub award_of : List Order → List Line → List ℕ
award_of os ls = map (λ (o : Order). sum_by (of_order o.number) ls) os

-- a line is of an order that was numbered: its side, its member, some of its quantity, at a price that keeps its limit, at
-- most the limit of a buy and at least that of a sell
pub record Kept (os : List Order) (l : Line) : Type 0 where
  pub given : 1 ≤ l.order
  pub within : l.order ≤ length os
  pub side : l.side ≡ (at os (place_of l)).side
  pub member : l.member ≡ (at os (place_of l)).member
  pub some : 0 < l.quantity
  pub limit : keeps (buys l.side) (at os (place_of l)).limit l.price ≡ true

-- ---- what lines do to accounts and orders

-- every member's account grows by what its lines have it pay and get
pub record Accounted (period : ℕ) (acs : List Account) (ls : List Line) (bcs : List Account) : Type 0 where
  pub as_many : length bcs ≡ length acs
  pub pays : (m : ℕ) → (account bcs m).pays ≡ (account acs m).pays + sum_by (pays_of period m) ls
  pub gets : (m : ℕ) → (account bcs m).gets ≡ (account acs m).gets + sum_by (gets_of period m) ls

-- every order's standing quantity falls by what its lines give it, so no order is given more than it has
abbrev pub Taken : List Order → List Line → List Order → Type 0
Taken os ls ps = (k : ℕ) → standing (at ps k) + sum_by (of_order (suc k)) ls ≡ standing (at os k)

-- what every round owes: each line keeps its order's limit, each side's lines add up to the volume that is answered, buyers
-- pay what sellers get, and accounts and orders move by the lines
pub record Owed (s : Session) (r : Outcome × Session) : Type 0 where
  pub kept : AllByRecursion (Kept s.orders) r.1.lines
  pub volume : (side : Bool) → sum_by (on_side side) r.1.lines ≡ r.0.volume
  pub even : sum_by (bill s.period) r.1.lines ≡ sum_by (credit s.period) r.1.lines
  pub accounts : Accounted s.period s.accounts r.1.lines r.1.accounts
  pub taken : Taken s.orders r.1.lines r.1.orders

-- ---- a uniform round

-- one price for all; and what the lines give is an allotment of the orders that stood: no allotment of them has a greater
-- surplus, and none with equal surplus a greater volume
pub record FairUniform (s : Session) (r : Outcome × Session) : Type 0 where
  pub owed : Owed s r
  pub price : AllByRecursion (λ (l : Line). l.price ≡ r.0.price) r.1.lines
  pub best : Best (standing_bids s.orders) (award_of (standing_of s.orders) r.1.lines)

-- ---- a paired round

-- the two lines of the trade that is the i-th in the making: a buy's and a sell's, of one quantity at one price
pub record Trade (i : ℕ) (b s : Line) : Type 0 where
  pub buy : b.side ≡ Buy
  pub sell : s.side ≡ Sell
  pub quantity : b.quantity ≡ s.quantity
  pub price : b.price ≡ s.price
  pub first : b.making ≡ i
  pub second : s.making ≡ suc i

-- lines, as they were made from i on, come in pairs
abbrev pub InPairs : ℕ → List Line → Type 0
InPairs i [] = Unit {0}
InPairs i (b ∷ []) = ⊥
InPairs i (b ∷ s ∷ ls) = Trade i b s × InPairs (suc (suc i)) ls

-- the lines are the two lines of each trade, ranked; and afterwards no two orders that stand could trade
pub record FairPaired (s : Session) (r : Outcome × Session) : Type 0 where
  pub owed : Owed s r
  pub pairs : (ls : List Line) × (r.1.lines ≡ ranked ls) × InPairs 0 ls
  pub uncrossed : Uncrossed r.1.orders

-- ---- theorem

-- what a round owes, by the way of its session; a continuous session has no rounds
abbrev pub Fair : Way → Session → Outcome × Session → Type 0
Fair (Uniform price share reference) s r = FairUniform s r
Fair (Paired rules) s r = FairPaired s r
Fair (Continuous rules) s r = Unit {0}

-- every round of such sessions is fair
abbrev pub FairRounds : Way → Type 0
FairRounds w =
    (s : Session) → Sound s.orders (length s.orders) → length s.accounts ≡ member_places → Fair w s (round w s)

-- whatever the rules, if they keep their laws
abbrev pub RoundsAreFair : Type 0
RoundsAreFair = (w : Way) → Laws w → FairRounds w

-- the rules of a session by what ranks its buys, what ranks its sells, and its pair price
abbrev pub pairs_of : OrderRank → OrderRank → PairMeaning → Pairs
pairs_of buys sells price = record { buys = buys; sells = sells; price = price }
