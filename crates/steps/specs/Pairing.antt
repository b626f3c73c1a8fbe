-- Pairing: the best standing buy trades with the best standing sell while their limits meet.
use Rattle.std.specs.Prelude.{◌≡◌, ℕ, zero, suc, ◌<◌, min, Bool, true, false, cond, ◌&&◌, List, [], ◌∷◌, length, Some, None, sum_by, Option, nat_le, nat_lt}
use Rattle.curves.specs.Orders.{on}
use Rattle.ranking.specs.declared.OrderFields.{OrderFields}
use Rattle.ranking.specs.Orders.{OrderRank}
use Rattle.ranking.specs.Best.{best_of, place_of}
use Rattle.rules.specs.Pairs.{PairMeaning}
use Rattle.orders.specs.declared.order.Order.{Order}
use Rattle.orders.specs.declared.order.Line.{Line}
use Rattle.orders.specs.Orders.{at, standing, bid_of}
use Rattle.orders.specs.Settlement.{line_of, fill}

-- the two rankings of a session, of its buys and of its sells, and its pair price
pub record Pairs : Type 0 where
  pub buys : OrderRank
  pub sells : OrderRank
  pub price : PairMeaning

-- the ranking of a side
abbrev pub rank_of : Pairs → Bool → OrderRank
rank_of rules true = rules.buys
rank_of rules false = rules.sells

-- what a ranking reads of an order
abbrev pub fields_of : Order → OrderFields
fields_of o = record { number = o.number; limit = o.limit; placed = o.placed; left = standing o }

-- does the order stand on this side?
abbrev pub stands : Bool → Order → Bool
stands side o = on side (bid_of o) && nat_lt 0 (standing o)

-- the order at a place, where it stands on this side
abbrev pub standing_on : Bool → List Order → ℕ → Option OrderFields
standing_on side os k = cond (stands side (at os k)) (Some (fields_of (at os k))) None

-- the place of the best standing order of a side
abbrev pub best_place : Pairs → Bool → List Order → Option ℕ
best_place rules side os = place_of (best_of (rank_of rules side) (length os) (standing_on side os))

-- the places of a buy and a sell, where the buy's limit is at least the sell's
abbrev pub meeting : List Order → Option ℕ → Option ℕ → Option (ℕ × ℕ)
meeting os None s = None
meeting os (Some b) None = None
meeting os (Some b) (Some s) = cond (nat_le (at os s).limit (at os b).limit) (Some (b, s)) None

-- the best buy and the best sell, where their limits meet
abbrev pub best_pair : Pairs → List Order → Option (ℕ × ℕ)
best_pair rules os = meeting os (best_place rules true os) (best_place rules false os)

-- they trade the smaller of what they have left
abbrev pub pair_quantity : List Order → ℕ × ℕ → ℕ
pair_quantity os p = min (standing (at os p.0)) (standing (at os p.1))

-- at the pair price of their limits
abbrev pub pair_price : Pairs → List Order → ℕ × ℕ → ℕ
pair_price rules os p =
    rules.price (at os p.0).limit (at os p.1).limit (nat_lt (at os p.0).number (at os p.1).number)

-- the two lines of the trade, the buy's first
abbrev pub buy_line : Pairs → List Order → ℕ → ℕ × ℕ → Line
buy_line rules os i p = line_of (at os p.0) (pair_quantity os p) (pair_price rules os p) i

abbrev pub sell_line : Pairs → List Order → ℕ → ℕ × ℕ → Line
sell_line rules os i p = line_of (at os p.1) (pair_quantity os p) (pair_price rules os p) (suc i)

-- the orders after the trade
abbrev pub after_pair : Pairs → List Order → ℕ → ℕ × ℕ → List Order
after_pair rules os i p = fill (fill os (buy_line rules os i p)) (sell_line rules os i p)

abbrev pub lines_of_pair : Option (ℕ × ℕ) → (ℕ × ℕ → List Line) → List Line
lines_of_pair None lines = []
lines_of_pair (Some p) lines = lines p

-- the lines of at most n trades, their makings counted from i
abbrev pub pair_lines_from : Pairs → ℕ → ℕ → List Order → List Line
pair_lines_from rules zero i os = []
pair_lines_from rules (suc n) i os =
    lines_of_pair (best_pair rules os)
    (λ p. buy_line rules os i p ∷ sell_line rules os i p ∷ pair_lines_from rules n (suc (suc i)) (after_pair rules os i p))

-- the lines of all trades; there are no more than units that stand, since each trade takes some
abbrev pub pair_lines : Pairs → List Order → List Line
pair_lines rules os = pair_lines_from rules (sum_by standing os) 0 os

-- every standing buy's limit is below every standing sell's
abbrev pub Uncrossed : List Order → Type 0
Uncrossed os = (j k : ℕ) → stands true (at os j) ≡ true → stands false (at os k) ≡ true → (at os j).limit < (at os k).limit
