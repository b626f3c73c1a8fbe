-- Worked examples of the rules that ship.
use Rattle.std.specs.Prelude.{◌≡◌, ℕ, true, false, List, [], ◌∷◌}
use Rattle.curves.specs.Orders.{Bid, clearing_volume}
use Rattle.curves.specs.Pricing.{PriceMeaning, price_by}
use Rattle.ticks.specs.Ticks.{highest_tick}
use Rattle.rules.specs.Prices.{crossing, principles}
use Rattle.rules.specs.Sharing.{pro_rata}

-- a buy, and a sell, of a quantity at a limit
abbrev pub buy : ℕ → ℕ → Bid
buy quantity limit = record { buys = true; limit = limit; left = quantity }

abbrev pub sell : ℕ → ℕ → Bid
sell quantity limit = record { buys = false; limit = limit; left = quantity }

-- a price rule's price of these orders
abbrev pub price_of : PriceMeaning → List Bid → ℕ → ℕ
price_of rule orders reference = price_by rule highest_tick orders reference

-- V and the crossing price
abbrev pub Clears : List Bid → ℕ → ℕ → Type 0
Clears orders volume price = (clearing_volume highest_tick orders ≡ volume) × (price_of crossing orders 0 ≡ price)

-- a price at a limit of both sides
abbrev pub at_a_limit : List Bid
at_a_limit = buy 2500 500 ∷ buy 4000 300 ∷ sell 2000 300 ∷ sell 2000 150 ∷ []

-- more demand than supply at the price
abbrev pub demand_left_over : List Bid
demand_left_over = buy 2500 400 ∷ buy 5000 400 ∷ sell 2500 200 ∷ sell 2500 300 ∷ []

-- a price between two limits
abbrev pub between_limits : List Bid
between_limits = buy 1000 350 ∷ buy 1500 350 ∷ buy 2500 350 ∷ buy 2500 500 ∷ sell 2500 250 ∷ sell 5000 100 ∷ sell 4500 300 ∷ []

-- one buy and one sell
abbrev pub one_pair : List Bid
one_pair = buy 1000 50 ∷ sell 1000 30 ∷ []

-- V and the crossing prices; the principles near and far from the reference price; pro rata
pub record Examples : Type 0 where
  pub first : Clears at_a_limit 4000 300
  pub second : Clears demand_left_over 5000 400
  pub third : Clears between_limits 7500 275
  pub pair : Clears one_pair 1000 40
  pub near : price_of principles one_pair 45 ≡ 45
  pub far : price_of principles one_pair 10 ≡ 30
  pub shared : pro_rata 20000 (10000 ∷ 20000 ∷ []) ≡ 6667 ∷ 13333 ∷ []
