-- What the mathematics of an auction reads of orders; their demand and supply. A side is a Bool: `true` the buys.
use Rattle.std.specs.Prelude.{ℕ, ◌<◌, ◌≤◌, Bool, true, false, cond, not, ◌&&◌, List, length, nat_le, nat_lt, slice_index_or}
use Rattle.curves.specs.Sums.{total}
use Rattle.curves.specs.Curves.{Curves, volume}

-- an order's side, its limit, and the quantity that it has left
pub record Bid : Type 0 where
  pub buys : Bool
  pub limit : ℕ
  pub left : ℕ

-- what stands past the end of a list
abbrev pub no_bid : Bid
no_bid = record { buys = true; limit = 0; left = 0 }

-- the order at place k
abbrev pub at : List Bid → ℕ → Bid
at bs k = slice_index_or bs k no_bid

-- is the order on this side?
abbrev pub on : Bool → Bid → Bool
on true b = b.buys
on false b = not b.buys

-- is the first limit strictly better than the second? A buy's is where it is higher, a sell's where it is lower
abbrev pub better : Bool → ℕ → ℕ → Bool
better true l m = nat_lt m l
better false l m = nat_lt l m

-- does a trade at tick p keep the limit l? A buy pays at most its limit, a sell gets at least its limit
abbrev pub keeps : Bool → ℕ → ℕ → Bool
keeps true l p = nat_le p l
keeps false l p = nat_le l p

-- what is left of all orders on a side that keep their limits at tick p
abbrev pub willing : Bool → List Bid → ℕ → ℕ
willing side bs p =
    total (length bs) (λ k. cond (on side (at bs k) && keeps side (at bs k).limit p) (at bs k).left 0)

-- demand at tick p: what is left of every buy whose limit is at or above p; 0 past the ticks
abbrev pub demand : ℕ → List Bid → ℕ → ℕ
demand top bs p = cond (nat_le p top) (willing true bs p) 0

-- supply at tick p: what is left of every sell whose limit is at or below p; 0 past the ticks
abbrev pub supply : ℕ → List Bid → ℕ → ℕ
supply top bs p = cond (nat_le p top) (willing false bs p) 0

-- V of a list of orders
abbrev pub clearing_volume : ℕ → List Bid → ℕ
clearing_volume top bs = volume top (demand top bs) (supply top bs)

-- every limit is a tick
abbrev pub OnTicks : ℕ → List Bid → Type 0
OnTicks top bs = (k : ℕ) → k < length bs → (at bs k).limit ≤ top

-- ---- theorems

-- the demand of any orders falls, and their supply rises
abbrev pub OrdersMakeCurves : Type 0
OrdersMakeCurves = (top : ℕ) (bs : List Bid) → Curves top (demand top bs) (supply top bs)
