-- A uniform round: one price for all, the greatest volume, best limits first.
use Rattle.std.specs.Prelude.{ℕ, suc, cond, List, [], ◌∷◌, filter, nat_lt}
use Rattle.curves.specs.Orders.{Bid, clearing_volume}
use Rattle.curves.specs.Sharing.{SharingMeaning}
use Rattle.curves.specs.Filling.{award_by}
use Rattle.curves.specs.Pricing.{PriceMeaning, price_by}
use Rattle.ticks.specs.Ticks.{highest_tick}
use Rattle.orders.specs.declared.order.Order.{Order}
use Rattle.orders.specs.declared.order.Line.{Line}
use Rattle.orders.specs.Orders.{is_standing, bids_of}
use Rattle.orders.specs.Settlement.{line_of}

-- the orders that stand, by number
abbrev pub standing_of : List Order → List Order
standing_of os = filter (λ (o : Order). is_standing o.life) os

-- what an auction sees of the orders that stand
abbrev pub standing_bids : List Order → List Bid
standing_bids os = bids_of (standing_of os)

-- V of the orders that stand
abbrev pub uniform_volume : List Order → ℕ
uniform_volume os = clearing_volume highest_tick (standing_bids os)

-- the price rule's tick; 0 where nothing can trade, and then no rule is consulted
abbrev pub uniform_price : PriceMeaning → ℕ → List Order → ℕ
uniform_price price reference os =
    cond (nat_lt 0 (uniform_volume os)) (price_by price highest_tick (standing_bids os) reference) 0

-- a line at the price p for each order that is given something, in the order of the orders, their makings counted from i
abbrev pub lines_at : ℕ → ℕ → List Order → List ℕ → List Line
lines_at p i [] qs = []
lines_at p i (o ∷ os) [] = []
lines_at p i (o ∷ os) (q ∷ qs) = cond (nat_lt 0 q) (line_of o q p i ∷ lines_at p (suc i) os qs) (lines_at p i os qs)

-- the lines of a round: V to each side, best limits first, shared by the rule; none where nothing can trade
abbrev pub uniform_lines : PriceMeaning → SharingMeaning → ℕ → List Order → List Line
uniform_lines price share reference os =
    cond (nat_lt 0 (uniform_volume os))
    (lines_at (uniform_price price reference os) 0 (standing_of os) (award_by share highest_tick (standing_bids os)))
    []
