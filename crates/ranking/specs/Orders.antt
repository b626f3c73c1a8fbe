-- Rankings of orders, over their plain fields.
use Rattle.std.specs.Prelude.{◌≡◌, ℕ, Bool, cond, ◌&&◌, ◌||◌, List, length, get_or, Some, None, Option, ◌==◌, nat_lt, slice_index_or}
use Rattle.ranking.specs.declared.OrderFields.{OrderFields}
use Rattle.ranking.specs.Laws.{RankLaw, LimitLaw, better}

-- a ranking of one side's orders: is the first ahead of the second?
abbrev pub OrderRank : Type 0
OrderRank = OrderFields → OrderFields → Bool

-- a quote made from an order has its number for a mark, its limit and what it has left
abbrev pub MadeFrom : {X : Type 0} → (X → ℕ) → (X → ℕ) → (X → ℕ) → (OrderFields → X) → Type 0
MadeFrom mark limit left made = (o : OrderFields) → (mark (made o) ≡ o.number) × (limit (made o) ≡ o.limit) × (left (made o) ≡ o.left)

-- a ranking of quotes, as it comes to the orders that they are made from
abbrev pub order_rank : {X : Type 0} → (X → X → Bool) → (OrderFields → X) → OrderRank
order_rank ahead made x y = ahead (made x) (made y)

-- what a ranking of one side's orders owes: orders differ by number, and the better limit is ahead
pub record OrderRankLaw (buys : Bool) (ahead : OrderRank) : Type 0 where
  pub ranks : RankLaw (λ (o : OrderFields). o.number) ahead
  pub limits : LimitLaw buys (λ (o : OrderFields). o.limit) ahead

-- the better limit, and where limits are equal what the tie-break puts ahead
abbrev pub by_limit : Bool → OrderRank → OrderRank
by_limit buys tie x y = better buys x.limit y.limit || (x.limit == y.limit && tie x y)

-- the earlier number
abbrev pub earlier : OrderRank
earlier x y = nat_lt x.number y.number

-- the larger placed quantity, then the earlier number
abbrev pub larger : OrderRank
larger x y = nat_lt y.placed x.placed || (x.placed == y.placed && earlier x y)

-- the ranking of the buys, or of the sells, in continuous trading
abbrev pub continuous : Bool → OrderRank
continuous buys = by_limit buys earlier

-- and in pairing
abbrev pub paired : Bool → OrderRank
paired buys = by_limit buys larger

-- what stands past the end of a list
abbrev pub no_order : OrderFields
no_order = record { number = 0; limit = 0; placed = 0; left = 0 }

-- the quote of the order at a place, where it has anything left
abbrev pub quote_at : {X : Type 0} → (OrderFields → X) → List OrderFields → ℕ → Option X
quote_at made os k = cond (nat_lt k (length os) && nat_lt 0 (get_or os k no_order).left) (Some (made (slice_index_or os k no_order))) None
