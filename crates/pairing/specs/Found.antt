-- What is found: the best order of a side, and the best pair.
use Rattle.std.specs.Prelude.{◌≡◌, Bool, List, Some}
use Rattle.ranking.specs.Orders.{OrderRank}
use Rattle.orders.specs.declared.order.Order.{Order}
use Rattle.orders.specs.Orders.{at, standing}
use Rattle.steps.specs.Pairing.{Pairs, best_pair, pair_quantity, pair_price}
use Rattle.pairing.specs.declared.best.Best.{Best}
use Rattle.pairing.specs.declared.Meeting.{Meeting}
use Rattle.pairing.specs.Quotes.{best_on}

-- the best standing order of a side, with its number, its limit and what it has left
pub record BestOrder (rank : OrderRank) (side : Bool) (os : List Order) (best : Best) : Type 0 where
  pub place : best_on rank side os ≡ Some best.place
  pub number : best.number ≡ (at os best.place).number
  pub limit : best.limit.value ≡ (at os best.place).limit
  pub left : best.left ≡ standing (at os best.place)

-- the best pair, with what it trades and at which price
pub record BestPair (rules : Pairs) (os : List Order) (pair : Meeting) : Type 0 where
  pub places : best_pair rules os ≡ Some (pair.buy, pair.sell)
  pub quantity : pair.quantity ≡ pair_quantity os (pair.buy, pair.sell)
  pub price : pair.price.value ≡ pair_price rules os (pair.buy, pair.sell)
