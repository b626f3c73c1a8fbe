-- The award of a sharing rule: groups of one limit are filled from the best on, and the rule shares in each what is left for it.
use Rattle.std.specs.Prelude.{ℕ, ◌-◌, Bool, cond, ◌&&◌, List, map, length, take, count_by, filter, ◌==◌, slice_index}
use Rattle.std.specs.List.{range_with_len}
use Rattle.curves.specs.Sums.{total}
use Rattle.curves.specs.Orders.{Bid, at, on, better, clearing_volume, OnTicks}
use Rattle.curves.specs.Allotments.{Award}
use Rattle.curves.specs.Sharing.{SharingMeaning, SharingLaw}

-- what is left of all orders on a side whose limit is strictly better than l
abbrev pub ahead : Bool → List Bid → ℕ → ℕ
ahead side bs l =
    total (length bs) (λ k. cond (on side (at bs k) && better side (at bs k).limit l) (at bs k).left 0)

-- is the order in the group of this side and this limit?
abbrev pub grouped : Bool → ℕ → Bid → Bool
grouped side l b = on side b && b.limit == l

-- the left quantities of a group, earliest first
abbrev pub group : Bool → List Bid → ℕ → List ℕ
group side bs l = map (λ b. b.left) (filter (grouped side l) bs)

-- how many of a group stand before place k
abbrev pub earlier : Bool → List Bid → ℕ → ℕ → ℕ
earlier side bs l k = count_by (grouped side l) (take k bs)

-- where the side gets v: the share of place k in a group, of what the better limits leave of v
abbrev pub share_of : SharingMeaning → ℕ → Bool → List Bid → ℕ → ℕ → ℕ
share_of share v side bs l k = slice_index (share (v - ahead side bs l) (group side bs l)) (earlier side bs l k)

-- what the order at place k gets: its share in its own group
abbrev pub filled : SharingMeaning → ℕ → List Bid → ℕ → ℕ
filled share v bs k = share_of share v (at bs k).buys bs (at bs k).limit k

-- the quantities of all orders, where each side gets V
abbrev pub award_by : SharingMeaning → ℕ → List Bid → List ℕ
award_by share top bs = map (filled share (clearing_volume top bs) bs) (range_with_len 0 (length bs))

-- ---- theorems

-- whatever lawful rule shares, this is an award
abbrev pub AwardOfSharing : Type 0
AwardOfSharing =
    (share : SharingMeaning) → SharingLaw share → (top : ℕ) (bs : List Bid) → OnTicks top bs → Award top bs (award_by share top bs)
