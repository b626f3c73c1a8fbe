-- The way that a book's header names, and the calls of its records.
use Rattle.std.specs.Prelude.{◌≡◌, ℕ, true, false, cond, List, map, ◌==◌}
use Rattle.curves.specs.Sharing.{SharingMeaning}
use Rattle.rules.specs.Prices.{crossing, principles}
use Rattle.rules.specs.Sharing.{earliest_first, largest_first, pro_rata}
use Rattle.rules.specs.Pairs.{PairMeaning, buyers_price, sellers_price, half_the_sum, earlier_orders_price}
use Rattle.ranking.specs.Orders.{paired, continuous}
use Rattle.book.specs.declared.values.Header.{Header}
use Rattle.book.specs.declared.values.Placement.{Placement}
use Rattle.book.specs.declared.values.Entry.{Entry}
use Rattle.book.specs.Reading.{NoRounds}
use Rattle.book.specs.declared.values.Entry.TheVariants.{Place as PlaceEntry, Withdraw as WithdrawEntry, Round as RoundEntry}
use Rattle.orders.specs.declared.order.Ask.{Ask}
use Rattle.orders.specs.declared.order.Side.{Side}
use Rattle.orders.specs.declared.order.Side.TheVariants.{Buy, Sell}
use Rattle.orders.specs.declared.order.Kind.{Kind}
use Rattle.orders.specs.declared.order.Kind.TheVariants.{Normal, FillAndKill, FillOrKill}
use Rattle.steps.specs.declared.call.Call.{Call}
use Rattle.steps.specs.declared.call.Call.TheVariants.{Place, Withdraw, Round}
use Rattle.steps.specs.Ways.{Way, Uniform, Paired, Continuous, is_continuous}

-- 0 earliest first, 1 largest first, 2 pro rata
abbrev pub sharing_of : ℕ → SharingMeaning
sharing_of n = cond (n == 0) earliest_first (cond (n == 1) largest_first pro_rata)

-- the pair prices of the ways 2 buyer's, 3 seller's, 4 half the sum
abbrev pub paired_at : PairMeaning → Way
paired_at price = Paired (record { buys = paired true; sells = paired false; price = price })

-- the way 5: continuous at the earlier order's price
abbrev pub continuous_way : Way
continuous_way = Continuous (record { buys = continuous true; sells = continuous false; price = earlier_orders_price })

-- 0 crossing, 1 principles, 2 to 4 paired, 5 continuous
unfoldable pub way_of : Header → Way
way_of h =
    cond (h.way == 0) (Uniform crossing (sharing_of h.sharing) h.reference)
    (cond (h.way == 1) (Uniform principles (sharing_of h.sharing) h.reference)
    (cond (h.way == 2) (paired_at buyers_price)
    (cond (h.way == 3) (paired_at sellers_price)
    (cond (h.way == 4) (paired_at half_the_sum) continuous_way))))

-- 0 buy, 1 sell
abbrev pub side_of : ℕ → Side
side_of n = cond (n == 0) Buy Sell

-- 0 normal, 1 fill-and-kill, 2 fill-or-kill
abbrev pub kind_of : ℕ → Kind
kind_of n = cond (n == 0) Normal (cond (n == 1) FillAndKill FillOrKill)

abbrev pub ask_of : Placement → Ask
ask_of p = record {
  member = p.member;
  side = side_of p.side;
  kind = kind_of p.kind;
  limit = p.limit;
  quantity = p.quantity;
}

-- the call of a record
abbrev pub call_of : Entry → Call
call_of (PlaceEntry p) = Place (ask_of p)
call_of (WithdrawEntry w) = Withdraw (record { member = w.member; number = w.number })
call_of RoundEntry = Round

-- a continuous way has no rounds among its records
abbrev pub Suits : Way → List Entry → Type 0
Suits w es = is_continuous w ≡ true → NoRounds es

-- the calls of records
abbrev pub calls_of : List Entry → List Call
calls_of es = map call_of es
