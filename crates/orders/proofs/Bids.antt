-- Orders as bids, one at a time.
use Rattle.std.proofs.Common.{◌≡◌, ℕ, suc, ◌+◌, ◌*◌, ◌<◌, ◌≤◌, Bool, true, cond, ◌&&◌, List, length, get_or, set, ap, arith}
use Rattle.std.proofs.lemmas.List.{get_or-map, length-map}
use Rattle.std.proofs.lemmas.List.FromFn.{fill_by_all}
use Rattle.std.proofs.lemmas.Bool.{cond_both}
use Rattle.std.proofs.lemmas.Grind.{elements}
use Rattle.curves.specs.Sums.{total}
use Rattle.curves.specs.Curves.{figures}
use Rattle.curves.specs.Orders.{Bid, on, keeps, no_bid, OnTicks}
use Rattle.ticks.specs.Ticks.{highest_tick}
use Rattle.ticks.proofs.Steps.{total_more}
use Rattle.curves.specs.Orders.{at as bid}
use Rattle.orders.specs.declared.order.Order.{Order}
use Rattle.orders.specs.Orders.{most_quantity, is_standing, standing, bid_of, bids_of, at, no_order, sound_order}
use Rattle.orders.specs.Willing.{willing_at, limited_at, standing_on}
use Rattle.orders.specs.Kept.{Sound}
use Rattle.orders.proofs.Keeps.{sound_parts}

pub bid_at : (os : List Order) (k : ℕ) → k < length os → bid (bids_of os) k ≡ bid_of (at os k)
bid_at os k h = get_or-map bid_of os k no_order no_bid h

pub standing_most : (k : ℕ) (o : Order) → sound_order k o ≡ true → standing o ≤ most_quantity
standing_most k o h =
    let s = sound_parts k o h in
    cond_both (is_standing o.life) o.left 0 (λ x. x ≤ most_quantity) (λ _. omega (arith, s.left, s.placed)) (λ _. omega arith)

-- no order adds more than the most that an order can have
part_most : (b : Bool) (os : List Order) (k : ℕ) → k < length os → sound_order k (at os k) ≡ true →
    cond b (bid (bids_of os) k).left 0 ≤ most_quantity
part_most b os k h s =
    cond_both b (bid (bids_of os) k).left 0 (λ x. x ≤ most_quantity)
    (λ _. omega (arith, ap (λ z. z.left) (bid_at os k h), standing_most k (at os k) s)) (λ _. omega arith)

pub willing_most : (side : Bool) (p : ℕ) (os : List Order) (k : ℕ) → k < length os → sound_order k (at os k) ≡ true →
    willing_at side p (bid (bids_of os) k) ≤ most_quantity
willing_most side p os k h s = part_most (on side (bid (bids_of os) k) && keeps side (bid (bids_of os) k).limit p) os k h s

pub standing_on_most : (side : Bool) (os : List Order) (k : ℕ) → k < length os → sound_order k (at os k) ≡ true →
    standing_on side (bid (bids_of os) k) ≤ most_quantity
standing_on_most side os k h s = part_most (on side (bid (bids_of os) k)) os k h s

-- ---- what stands at each limit

limited_same : (side : Bool) (b : Bid) (l : ℕ) → l ≡ b.limit → limited_at side l b ≡ standing_on side b
limited_same side b l e = grind arith

limited_other : (side : Bool) (b : Bid) (l : ℕ) → (b.limit ≡ l → ⊥) → limited_at side l b ≡ 0
limited_other side b l n = grind arith

-- one more order adds what stands of it at its own limit, and nothing at any other
pub limits_more : (side : Bool) (bs : List Bid) (i v : ℕ) (qs : List ℕ) (m : ℕ) → m ≡ (bid bs i).limit → m < length qs → v ≡ standing_on side (bid bs i) →
    ((l : ℕ) → l < length qs → get_or qs l 0 ≡ total i (λ k. limited_at side l (bid bs k))) →
    (l : ℕ) → l < length qs → get_or (set qs m (get_or qs m 0 + v)) l 0 ≡ total (i + 1) (λ k. limited_at side l (bid bs k))
limits_more side bs i v qs m at-m lt e so_far l h =
    let more = total_more i (λ k. limited_at side l (bid bs k)) in
    let here = limited_same side (bid bs i) l in
    let other = limited_other side (bid bs i) l in
    let before = so_far l in
    grind (arith, elements)

pub most_more : (i v m : ℕ) (qs : List ℕ) → m < length qs → v ≤ most_quantity → ((l : ℕ) → l < length qs → get_or qs l 0 ≤ most_quantity * i) →
    (l : ℕ) → l < length qs → get_or (set qs m (get_or qs m 0 + v)) l 0 ≤ most_quantity * (i + 1)
most_more i v m qs lt le so_far l h = grind (arith, elements)

-- a list that holds the figures of all ticks
pub all_figures : (f : ℕ → ℕ) (ys : List ℕ) → length ys ≡ suc highest_tick → ((k : ℕ) → k < suc highest_tick → get_or ys k 0 ≡ f k) → ys ≡ figures highest_tick f
unfolding figures
all_figures f ys long same = fill_by_all f ys (suc highest_tick) 0 long same

pub on_ticks : (os : List Order) → Sound os (length os) → OnTicks highest_tick (bids_of os)
on_ticks os h k l =
    let lt : k < length os = omega (arith, length-map os bid_of) in
    omega (arith, ap (λ z. z.limit) (bid_at os k lt), (sound_parts k (at os k) (h k lt)).limit)
