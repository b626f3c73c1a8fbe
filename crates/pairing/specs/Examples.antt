-- Worked examples of pairing.
use Rattle.std.specs.Prelude.{◌≡◌, ℕ, true, false, List, [], ◌∷◌, map}
use Rattle.ranking.specs.Orders.{paired}
use Rattle.rules.specs.Pairs.{PairMeaning, half_the_sum, sellers_price}
use Rattle.orders.specs.declared.order.Side.{Side}
use Rattle.orders.specs.declared.order.Side.TheVariants.{Buy, Sell}
use Rattle.orders.specs.declared.order.Kind.TheVariants.{Normal}
use Rattle.orders.specs.declared.order.Life.TheVariants.{Standing}
use Rattle.orders.specs.declared.order.Order.{Order}
use Rattle.orders.specs.declared.order.Line.{Line}
use Rattle.steps.specs.Pairing.{pair_lines}

-- a standing order with its number, of a quantity at a limit
abbrev pub order : Side → ℕ → ℕ → ℕ → Order
order side number quantity limit = record {
  number = number;
  member = 1;
  side = side;
  kind = Normal;
  limit = limit;
  placed = quantity;
  left = quantity;
  life = Standing;
}

abbrev pub sell : ℕ → ℕ → ℕ → Order
sell = order Sell

abbrev pub buy : ℕ → ℕ → ℕ → Order
buy = order Buy

-- a line by its order's number, its quantity and its price
abbrev pub seen : Line → ℕ × ℕ × ℕ
seen l = (l.order, l.quantity, l.price)

-- the lines that pairing makes of orders at a pair price, in their making: the better limit first, then the larger
-- order, then the earlier
abbrev pub lines_at : PairMeaning → List Order → List (ℕ × ℕ × ℕ)
lines_at price os = map seen (pair_lines (record { buys = paired true; sells = paired false; price = price }) os)

-- two trades, and a buy and a sell that no longer meet
abbrev pub two_and_two : List Order
two_and_two = sell 1 500 250 ∷ sell 2 1000 400 ∷ buy 3 1500 300 ∷ buy 4 1000 450 ∷ []

-- one buy takes the sells from the lowest limit on
abbrev pub one_buy : List Order
one_buy = buy 1 5000 280 ∷ sell 2 5000 278 ∷ sell 3 1500 272 ∷ sell 4 3000 268 ∷ []

pub record Examples : Type 0 where
  -- 500 at 350, then 500 at 425
  pub halves : lines_at half_the_sum two_and_two ≡ (4, 500, 350) ∷ (1, 500, 350) ∷ (4, 500, 425) ∷ (2, 500, 425) ∷ []
  -- 3,000 at 268, 1,500 at 272, then 500 at 278
  pub sellers : lines_at sellers_price one_buy
      ≡ (1, 3000, 268) ∷ (4, 3000, 268) ∷ (1, 1500, 272) ∷ (3, 1500, 272) ∷ (1, 500, 278) ∷ (2, 500, 278) ∷ []
