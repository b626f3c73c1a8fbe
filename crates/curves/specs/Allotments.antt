-- Allotments of a list of orders, their volume and surplus; awards, and that they are best.
use Rattle.std.specs.Prelude.{◌≡◌, ℕ, ◌*◌, ◌<◌, ◌≤◌, Bool, true, false, cond, List, length, ℤ, pos, ◌-ℤ◌, ◌≤ℤ◌, slice_index}
use Rattle.curves.specs.Sums.{total}
use Rattle.curves.specs.Curves.{executable}
use Rattle.curves.specs.Orders.{Bid, at, on, better, keeps, demand, supply, clearing_volume, OnTicks}

-- what the quantities qs give to the order at place k, if it is on this side
abbrev pub given_to : Bool → List Bid → List ℕ → ℕ → ℕ
given_to side bs qs k = cond (on side (at bs k)) (slice_index qs k) 0

-- what they give to all orders on a side
abbrev pub given : Bool → List Bid → List ℕ → ℕ
given side bs qs = total (length bs) (given_to side bs qs)

-- limit times quantity, over the orders on a side
abbrev pub worth : Bool → List Bid → List ℕ → ℕ
worth side bs qs = total (length bs) (λ k. (at bs k).limit * given_to side bs qs k)

-- the worth of the buys less that of the sells
abbrev pub surplus : List Bid → List ℕ → ℤ
surplus bs qs = pos (worth true bs qs) -ℤ pos (worth false bs qs)

-- a quantity for each order, none above what the order has left
pub record Within (bs : List Bid) (qs : List ℕ) : Type 0 where
  pub whole : length qs ≡ length bs
  pub within : (k : ℕ) → k < length bs → slice_index qs k ≤ (at bs k).left

-- an allotment: buys and sells add up alike
pub record Allotment (bs : List Bid) (qs : List ℕ) : Type 0 where
  pub fits : Within bs qs
  pub even : given true bs qs ≡ given false bs qs

-- the volume of an allotment: what each side adds up to
abbrev pub volume_of : List Bid → List ℕ → ℕ
volume_of bs qs = given true bs qs

-- of two orders of one side, where the one with the strictly worse limit gets anything, the better is full
abbrev pub BestFirst : List Bid → List ℕ → Type 0
BestFirst bs qs =
    (i j : ℕ) → i < length bs → j < length bs → (at bs i).buys ≡ (at bs j).buys →
    better (at bs i).buys (at bs i).limit (at bs j).limit ≡ true →
    0 < slice_index qs j → slice_index qs i ≡ (at bs i).left

-- an award gives V to each side, best limits first
pub record Award (top : ℕ) (bs : List Bid) (qs : List ℕ) : Type 0 where
  pub fits : Within bs qs
  pub clears : (side : Bool) → given side bs qs ≡ clearing_volume top bs
  pub first : BestFirst bs qs

-- an allotment than which none has a greater surplus, nor with equal surplus a greater volume
pub record Best (bs : List Bid) (qs : List ℕ) : Type 0 where
  pub allots : Allotment bs qs
  pub surplus_most : (x : List ℕ) → Allotment bs x → surplus bs x ≤ℤ surplus bs qs
  pub volume_most : (x : List ℕ) → Allotment bs x → surplus bs x ≡ surplus bs qs → volume_of bs x ≤ volume_of bs qs

-- ---- theorems

-- every award is an allotment, and a best one
abbrev pub AwardIsBest : Type 0
AwardIsBest =
    (top : ℕ) (bs : List Bid) → OnTicks top bs → (qs : List ℕ) → Award top bs qs → Best bs qs

-- two awards of the same orders agree in volume and surplus
abbrev pub AwardsAgree : Type 0
AwardsAgree =
    (top : ℕ) (bs : List Bid) → OnTicks top bs → (qs rs : List ℕ) → Award top bs qs → Award top bs rs →
    (volume_of bs qs ≡ volume_of bs rs) × (surplus bs qs ≡ surplus bs rs)

-- at every tick whose executable volume is V, each order that gets anything keeps its limit
abbrev pub AwardKeepsLimits : Type 0
AwardKeepsLimits =
    (top : ℕ) (bs : List Bid) (qs : List ℕ) (p : ℕ) → Award top bs qs →
    executable (demand top bs) (supply top bs) p ≡ clearing_volume top bs →
    (k : ℕ) → k < length bs → 0 < slice_index qs k → keeps (at bs k).buys (at bs k).limit p ≡ true
