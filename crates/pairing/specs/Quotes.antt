-- The quotes of standing orders, and the rules that quotes and a pair price come to.
use Rattle.std.specs.Prelude.{ℕ, Bool, cond, List, length, Some, None, Option}
use Rattle.ranking.specs.declared.OrderFields.{OrderFields}
use Rattle.ranking.specs.Orders.{OrderRank, order_rank}
use Rattle.ranking.specs.Best.{best_of, place_of}
use Rattle.rules.specs.Pairs.{PairMeaning}
use Rattle.orders.specs.declared.order.Order.{Order}
use Rattle.orders.specs.Orders.{at}
use Rattle.steps.specs.Pairing.{Pairs, stands, standing_on, fields_of}

-- the quote of the order at a place, where it stands on this side
abbrev pub quote_on : {X : Type 0} → (OrderFields → X) → Bool → List Order → ℕ → Option X
quote_on made side os k = cond (stands side (at os k)) (Some (made (fields_of (at os k)))) None

-- the place of the best standing order of a side, by the ranking of that side
abbrev pub best_on : OrderRank → Bool → List Order → Option ℕ
best_on rank side os = place_of (best_of rank (length os) (standing_on side os))

-- the rules of two kinds of quotes, of buys and of sells, and of a pair price
abbrev pub pairs_of : {B S : Type 0} → (B → B → Bool) → (OrderFields → B) → (S → S → Bool) → (OrderFields → S) → PairMeaning → Pairs
pairs_of buy-ahead buy-made sell-ahead sell-made price =
    record { buys = order_rank buy-ahead buy-made; sells = order_rank sell-ahead sell-made; price = price }
