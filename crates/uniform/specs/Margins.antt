-- The margin of a side, and what each order is given by it.
use Rattle.std.specs.Prelude.{◌≡◌, ℕ, suc, ◌-◌, ◌<◌, ◌≤◌, min, Bool, true, false, cond, ◌&&◌, List, [], map, length, take, drop, fold, filter, ◌==◌, nat_le, slice_index}
use Rattle.std.specs.List.{range_with_len}
use Rattle.curves.specs.Sums.{lowest, highest}
use Rattle.curves.specs.Curves.{volume}
use Rattle.curves.specs.Crossing.{before}
use Rattle.curves.specs.Orders.{on, better}
use Rattle.curves.specs.Sharing.{SharingMeaning}
use Rattle.curves.specs.Filling.{grouped}
use Rattle.ticks.specs.Ticks.{highest_tick}
use Rattle.orders.specs.declared.order.Order.{Order}
use Rattle.orders.specs.declared.order.Line.{Line}
use Rattle.orders.specs.Orders.{most_orders, is_standing, standing, buys, bid_of, at}
use Rattle.orders.specs.Settlement.{Session, posted}
use Rattle.orders.specs.Kept.{Sound}
use Rattle.steps.specs.Uniform.{lines_at}
use Rattle.uniform.specs.declared.margin.Margin.{Margin}
use Rattle.uniform.specs.declared.margin.Margins.{Margins}

-- what a side has open at p, of demand D and supply S
abbrev pub open_at : Bool → (ℕ → ℕ) → (ℕ → ℕ) → ℕ → ℕ
open_at true D S p = D p
open_at false D S p = S p

-- the limit at which V runs out: the side's best tick with as much open
abbrev pub margin_tick : Bool → (ℕ → ℕ) → (ℕ → ℕ) → ℕ
margin_tick true D S = highest (suc highest_tick) (λ p. nat_le (volume highest_tick D S) (D p))
margin_tick false D S = min (lowest (suc highest_tick) (λ p. nat_le (volume highest_tick D S) (S p))) highest_tick

-- what is open at better limits than p
abbrev pub ahead_of : Bool → (ℕ → ℕ) → (ℕ → ℕ) → ℕ → ℕ
ahead_of true D S p = D (suc p)
ahead_of false D S p = before S p

-- does the order stand in the group of this side and this limit?
abbrev pub marginal : Bool → ℕ → Order → Bool
marginal side l o = is_standing o.life && grouped side l (bid_of o)

-- the left quantities of that group, earliest first
abbrev pub marginal_group : Bool → ℕ → List Order → List ℕ
marginal_group side l os = map (λ (o : Order). o.left) (filter (marginal side l) os)

-- what an order with the limit l and q left gets: all of it, the next share of the margin's group, or nothing
abbrev pub granted : Bool → Margin → ℕ → ℕ → ℕ
granted side m l q = cond (better side l m.limit) q (cond (l == m.limit) (slice_index m.shares 0) 0)

-- the margin once an order with the limit l has had its turn
abbrev pub passed : ℕ → Margin → Margin
passed l m = record { limit = m.limit; shares = cond (l == m.limit) (drop 1 m.shares) m.shares }

-- a side's margin
abbrev pub margin_of : Bool → Margins → Margin
margin_of true ms = ms.buys
margin_of false ms = ms.sells

-- what an order gets at its turn: only a standing order gets anything
abbrev pub grant_of : Margins → Order → ℕ
grant_of ms o = cond (is_standing o.life) (granted (buys o.side) (margin_of (buys o.side) ms) o.limit o.left) 0

-- the margins once an order has had its turn
abbrev pub turned : Margins → Order → Margins
turned ms o = record {
  buys = cond (is_standing o.life && on true (bid_of o)) (passed o.limit ms.buys) ms.buys;
  sells = cond (is_standing o.life && on false (bid_of o)) (passed o.limit ms.sells) ms.sells;
}

-- the margins before the turn of place k
abbrev pub margins_at : Margins → List Order → ℕ → Margins
margins_at ms os k = fold turned ms (take k os)

-- what all orders get, each at its turn
abbrev pub grants : Margins → List Order → List ℕ
grants ms os = map (λ k. grant_of (margins_at ms os k) (at os k)) (range_with_len 0 (length os))

-- the session once lines have been posted one by one
abbrev pub posted_lines : Session → List Line → Session
posted_lines s ls = fold (λ (t : Session) (l : Line). posted l t) s ls

-- the session once the first i orders have traded what qs gives them, at the price p
abbrev pub traded_to : ℕ → Session → List ℕ → ℕ → Session
traded_to p s qs i = posted_lines s (lines_at p 0 (take i s.orders) (take i qs))

-- the lines of all orders, at the price p
abbrev pub all_lines : ℕ → Session → List ℕ → List Line
all_lines p s qs = lines_at p 0 s.orders qs

-- what a round needs of the quantities that its orders trade
pub record Ready (s : Session) (qs : List ℕ) : Type 0 where
  pub sound : Sound s.orders (length s.orders)
  pub few : length s.orders ≤ most_orders
  pub fresh : s.lines ≡ []
  pub whole : length qs ≡ length s.orders
  pub within : (k : ℕ) → k < length s.orders → slice_index qs k ≤ standing (at s.orders k)

-- where each side gets V of the orders os: the margins' limits, and the shares of their groups
pub record MadeBy (share : SharingMeaning) (D S : ℕ → ℕ) (os : List Order) (ms : Margins) : Type 0 where
  pub limit : (side : Bool) → (margin_of side ms).limit ≡ margin_tick side D S
  pub shares : (side : Bool) → (margin_of side ms).shares
      ≡ share (volume highest_tick D S - ahead_of side D S (margin_of side ms).limit) (marginal_group side (margin_of side ms).limit os)
