-- The ways of a session: what its rules mean, and their laws.
use Rattle.std.specs.Prelude.{ℕ, Bool, true, false, cond, List, [], sum_by}
use Rattle.curves.specs.Sharing.{SharingMeaning, SharingLaw}
use Rattle.curves.specs.Pricing.{PriceMeaning, PriceLaw}
use Rattle.ticks.specs.Ticks.{highest_tick}
use Rattle.ranking.specs.Orders.{OrderRankLaw}
use Rattle.rules.specs.Pairs.{PairLaw}
use Rattle.orders.specs.declared.order.Order.{Order}
use Rattle.orders.specs.declared.order.Line.{Line}
use Rattle.orders.specs.Orders.{buys}
use Rattle.steps.specs.Uniform.{uniform_volume, uniform_price, uniform_lines}
use Rattle.steps.specs.Pairing.{Pairs, pair_lines}

-- uniform, with the meanings of a price rule and a sharing rule and the reference price; paired or continuous, with two
-- rankings and the meaning of a pair price
pub data Way : Type 0 where
  Uniform : PriceMeaning → SharingMeaning → ℕ → Way
  Paired : Pairs → Way
  Continuous : Pairs → Way

-- what rankings and a pair price owe
abbrev pub PairsLaw : Pairs → Type 0
PairsLaw rules = OrderRankLaw true rules.buys × OrderRankLaw false rules.sells × PairLaw rules.price

-- what the rules of a session owe
abbrev pub Laws : Way → Type 0
Laws (Uniform price share reference) = PriceLaw highest_tick price × SharingLaw share
Laws (Paired rules) = PairsLaw rules
Laws (Continuous rules) = PairsLaw rules

abbrev pub is_continuous : Way → Bool
is_continuous (Uniform price share reference) = false
is_continuous (Paired rules) = false
is_continuous (Continuous rules) = true

-- the quantity of the buy lines
abbrev pub bought : List Line → ℕ
bought ls = sum_by (λ (l : Line). cond (buys l.side) l.quantity 0) ls

-- the lines that a round makes of these orders; a continuous session has no rounds
abbrev pub round_lines : Way → List Order → List Line
round_lines (Uniform price share reference) os = uniform_lines price share reference os
round_lines (Paired rules) os = pair_lines rules os
round_lines (Continuous rules) os = []

-- the volume that it reports
abbrev pub round_volume : Way → List Order → ℕ
round_volume (Uniform price share reference) os = uniform_volume os
round_volume (Paired rules) os = bought (pair_lines rules os)
round_volume (Continuous rules) os = 0

-- and the price
abbrev pub round_price : Way → List Order → ℕ
round_price (Uniform price share reference) os = uniform_price price reference os
round_price (Paired rules) os = 0
round_price (Continuous rules) os = 0

-- the lines of an accepted place, where the orders, the new one last, are os: only a continuous session trades at once
abbrev pub place_lines : Way → List Order → List Line
place_lines (Uniform price share reference) os = []
place_lines (Paired rules) os = []
place_lines (Continuous rules) os = pair_lines rules os
