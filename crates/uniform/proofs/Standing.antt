-- Orders that do not stand add nothing: demand, supply and V are those of the standing orders.
use Rattle.std.proofs.Common.{◌≡◌, ℕ, zero, suc, ◌≤◌, Bool, true, false, cond, ◌&&◌, leb, List, [], ◌∷◌, length, get_or, sum_by, sym, refl, ap, ◌∙◌, arith}
use Rattle.std.proofs.lemmas.List.Sums.{sum_by-cons}
use Rattle.curves.specs.Sums.{total, highest}
use Rattle.curves.specs.Orders.{Bid, no_bid, on, keeps, willing, demand, supply, clearing_volume}
use Rattle.curves.specs.Curves.{volume}
use Rattle.curves.proofs.Sums.{total_head}
use Rattle.orders.specs.declared.order.Order.{Order}
use Rattle.orders.specs.Orders.{bid_of, bids_of}
use Rattle.orders.specs.Willing.{willing_at}
use Rattle.steps.specs.Uniform.{standing_bids}

-- a sum by place is a sum over the list
total_sumBy : {X : Type 0} (f : X → ℕ) (d : X) (xs : List X) → total (length xs) (λ k. f (get_or xs k d)) ≡ sum_by f xs
total_sumBy f d [] = unfold total in refl
total_sumBy f d (x ∷ xs) =
    omega (arith, total_head (length xs) (λ k. f (get_or (x ∷ xs) k d)), total_sumBy f d xs, sum_by-cons f x xs)

sum_standing : (f : Bid → ℕ) → ((b : Bid) → b.left ≡ 0 → f b ≡ 0) → (os : List Order) → sum_by f (bids_of os) ≡ sum_by f (standing_bids os)
sum_standing f none [] = refl
sum_standing f none (o ∷ os) =
    let ih = sum_standing f none os in
    let here = sum_by-cons f (bid_of o) (bids_of os) in
    let kept = sum_by-cons f (bid_of o) (standing_bids os) in
    let nothing = none (bid_of o) in
    grind arith

pub cut_le : (b : Bool) (x : ℕ) → cond b x 0 ≤ x
cut_le b x = grind arith

pub willing_standing : (side : Bool) (os : List Order) (p : ℕ) → willing side (bids_of os) p ≡ willing side (standing_bids os) p
willing_standing side os p =
    total_sumBy (willing_at side p) no_bid (bids_of os)
    ∙ sum_standing (willing_at side p) (λ b e. omega (arith, cut_le (on side b && keeps side b.limit p) b.left)) os
    ∙ sym (total_sumBy (willing_at side p) no_bid (standing_bids os))

pub demand_standing : (top : ℕ) (os : List Order) → demand top (bids_of os) ≡ demand top (standing_bids os)
demand_standing top os = λ i p. cond (leb p top) (willing_standing true os p i) 0

pub supply_standing : (top : ℕ) (os : List Order) → supply top (bids_of os) ≡ supply top (standing_bids os)
supply_standing top os = λ i p. cond (leb p top) (willing_standing false os p i) 0

pub volume_standing : (top : ℕ) (os : List Order) → clearing_volume top (bids_of os) ≡ clearing_volume top (standing_bids os)
volume_standing top os =
    ap (λ D. volume top D (supply top (bids_of os))) (demand_standing top os)
    ∙ ap (λ S. volume top (demand top (standing_bids os)) S) (supply_standing top os)

-- the highest place is below the end
pub highest_tick_le : (n : ℕ) (P : ℕ → Bool) → highest (suc n) P ≤ n
unfolding highest
highest_tick_le zero P = grind arith
highest_tick_le (suc n) P = let below = highest_tick_le n P in grind arith
