-- Orders, their lives, and the orders as the mathematics of an auction reads them.
use Rattle.std.specs.Prelude.{ℕ, suc, ◌-◌, Bool, true, false, cond, ◌&&◌, List, map, ◌==◌, nat_le, nat_lt, slice_index_or}
use Rattle.curves.specs.Orders.{Bid}
use Rattle.ticks.specs.Ticks.{highest_tick}
use Rattle.orders.specs.declared.order.Side.{Side}
use Rattle.orders.specs.declared.order.Side.TheVariants.{Buy, Sell}
use Rattle.orders.specs.declared.order.Kind.TheVariants.{Normal}
use Rattle.orders.specs.declared.order.Life.{Life}
use Rattle.orders.specs.declared.order.Life.TheVariants.{Standing, Filled, Withdrawn, Killed}
use Rattle.orders.specs.declared.order.Event.{Event}
use Rattle.orders.specs.declared.order.Event.TheVariants.{Fill, Withdraw, Kill}
use Rattle.orders.specs.declared.order.Order.{Order}

-- a session numbers at most 511 orders
abbrev pub most_orders : ℕ
most_orders = 511

-- members are the numbers 1 to 63
abbrev pub last_member : ℕ
last_member = 63

-- an order's quantity is at least 100
abbrev pub least_quantity : ℕ
least_quantity = 100

-- and at most 1,000,000
abbrev pub most_quantity : ℕ
most_quantity = 1000000

-- is it the buying side?
abbrev pub buys : Side → Bool
buys Buy = true
buys Sell = false

-- does an order with this life stand?
abbrev pub is_standing : Life → Bool
is_standing Standing = true
is_standing Filled = false
is_standing Withdrawn = false
is_standing Killed = false

-- what an event leaves of an order with n left: it moves a standing order only
abbrev pub left_after : Life → Event → ℕ → ℕ
left_after Standing (Fill q) n = n - q
left_after Standing Withdraw n = 0
left_after Standing Kill n = 0
left_after Filled e n = n
left_after Withdrawn e n = n
left_after Killed e n = n

-- the life that it leaves: the fill that takes the last unit makes the order filled
abbrev pub life_after : Life → Event → ℕ → Life
life_after Standing (Fill q) n = cond (nat_lt q n) Standing Filled
life_after Standing Withdraw n = Withdrawn
life_after Standing Kill n = Killed
life_after Filled e n = Filled
life_after Withdrawn e n = Withdrawn
life_after Killed e n = Killed

-- an order after an event: what is left of it, its life, and nothing else may change
abbrev pub after : Event → Order → Order
after e o = record {
  number = o.number;
  member = o.member;
  side = o.side;
  kind = o.kind;
  limit = o.limit;
  placed = o.placed;
  left = left_after o.life e o.left;
  life = life_after o.life e o.left;
}

-- an order after a fill of q
abbrev pub filled_by : ℕ → Order → Order
filled_by q o = after (Fill q) o

-- what stands past the end of a list of orders
abbrev pub no_order : Order
no_order = record { number = 0; member = 0; side = Buy; kind = Normal; limit = 0; placed = 0; left = 0; life = Standing }

-- the order at place k
abbrev pub at : List Order → ℕ → Order
at os k = slice_index_or os k no_order

-- what an order has left while it stands
abbrev pub standing : Order → ℕ
standing o = cond (is_standing o.life) o.left 0

-- an order as an auction sees it
abbrev pub bid_of : Order → Bid
bid_of o = record { buys = buys o.side; limit = o.limit; left = standing o }

-- all orders, as an auction sees them
abbrev pub bids_of : List Order → List Bid
bids_of os = map bid_of os

-- a standing order has something left, any other nothing
abbrev pub left_by : Life → ℕ → Bool
left_by Standing n = nat_lt 0 n
left_by Filled n = n == 0
left_by Withdrawn n = n == 0
left_by Killed n = n == 0

-- the order at place k is in order: numbered by its place, of a member, its limit a tick, no more left than was placed
abbrev pub sound_order : ℕ → Order → Bool
sound_order k o =
    (o.number == suc k) && (nat_le 1 o.member && (nat_le o.member last_member && (nat_le o.limit highest_tick
    && (nat_le o.placed most_quantity && (nat_le o.left o.placed && left_by o.life o.left)))))
