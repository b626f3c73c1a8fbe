-- One more order, and one more trade.
use Rattle.std.specs.Prelude.{ℕ, suc, Bool, ◌&&◌, [], ◌∷◌, ◌++◌, length, nat_le, nat_lt}
use Rattle.ticks.specs.Ticks.{highest_tick}
use Rattle.orders.specs.declared.order.Ask.{Ask}
use Rattle.orders.specs.declared.order.Life.TheVariants.{Standing}
use Rattle.orders.specs.declared.order.Order.{Order}
use Rattle.orders.specs.Orders.{most_orders, last_member, least_quantity, most_quantity, at, standing}
use Rattle.orders.specs.Settlement.{Session, line_of, with_orders, posted}
use Rattle.orders.specs.Kept.{most_lines}

-- is what is asked for within its bounds?
abbrev pub sound_ask : Ask → Bool
sound_ask a =
    nat_le 1 a.member && (nat_le a.member last_member && (nat_le a.limit highest_tick
    && (nat_le least_quantity a.quantity && nat_le a.quantity most_quantity)))

-- the order of a member's ask, with its number
abbrev pub new_order : Ask → ℕ → Order
new_order a n = record {
  number = n;
  member = a.member;
  side = a.side;
  kind = a.kind;
  limit = a.limit;
  placed = a.quantity;
  left = a.quantity;
  life = Standing;
}

-- may one more order be numbered?
abbrev pub can_accept : Ask → Session → Bool
can_accept a s = sound_ask a && nat_lt (length s.orders) most_orders

-- the session with one more order, whose number comes next
abbrev pub accepted : Ask → Session → Session
accepted a s = with_orders (s.orders ++ (new_order a (suc (length s.orders)) ∷ [])) s

-- has the order at place k this quantity standing, and is there room for its line?
abbrev pub can_trade : ℕ → ℕ → Session → Bool
can_trade k q s =
    nat_lt (length s.lines) most_lines && (nat_lt 0 q && nat_le q (standing (at s.orders k)))

-- the session after a trade of q of the order at place k at the price p
abbrev pub traded : ℕ → ℕ → ℕ → Session → Session
traded k q p s = posted (line_of (at s.orders k) q p (length s.lines)) s
