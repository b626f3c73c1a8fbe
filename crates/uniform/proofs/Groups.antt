-- The groups of the standing orders, and what a margin has left of its shares.
use Rattle.std.proofs.Common.{◌≡◌, ℕ, ◌+◌, Bool, true, false, cond, ◌&&◌, eqb, List, [], ◌∷◌, length, drop, fold, count_by, sym, refl, ap, ◌∙◌, arith}
use Rattle.std.proofs.lemmas.List.{drop-drop}
use Rattle.std.proofs.lemmas.List.Sums.{sum_by-cons}
use Rattle.curves.specs.Orders.{Bid, no_bid, on}
use Rattle.curves.specs.Filling.{grouped, group}
use Rattle.curves.proofs.Groups.{length_kept}
use Rattle.orders.specs.declared.order.Order.{Order}
use Rattle.orders.specs.Orders.{is_standing, bid_of, no_order}
use Rattle.steps.specs.Uniform.{standing_bids}
use Rattle.uniform.specs.declared.margin.Margin.{Margin}
use Rattle.uniform.specs.declared.margin.Margins.{Margins}
use Rattle.uniform.specs.Margins.{marginal, marginal_group, passed, margin_of, turned}

-- a group of the standing orders' bids
pub group_standing : (side : Bool) (m : ℕ) (os : List Order) → group side (standing_bids os) m ≡ marginal_group side m os
group_standing side m [] = refl
group_standing side m (o ∷ os) =
    let rest = group_standing side m os in grind arith

pub count_standing : (side : Bool) (m : ℕ) (os : List Order) → count_by (grouped side m) (standing_bids os) ≡ count_by (marginal side m) os
count_standing side m os =
    sym (length_kept (grouped side m) no_bid (λ (b : Bid). b.left) (standing_bids os))
    ∙ ap length (group_standing side m os)
    ∙ length_kept (marginal side m) no_order (λ (o : Order). o.left) os

-- ---- the shares that a margin has left

-- n shares further on
abbrev pub advanced : ℕ → Margin → Margin
advanced n m = record { limit = m.limit; shares = drop n m.shares }

one_turn : (st b : Bool) (l : ℕ) (m : Margin) → cond (st && b) (passed l m) m ≡ advanced (cond (st && (b && eqb l m.limit)) 1 0) m
one_turn st b l m = grind arith

turn : (side : Bool) (ms : Margins) (o : Order) → margin_of side (turned ms o) ≡ advanced (cond (marginal side (margin_of side ms).limit o) 1 0) (margin_of side ms)
turn true ms o = one_turn (is_standing o.life) (on true (bid_of o)) o.limit ms.buys
turn false ms o = one_turn (is_standing o.life) (on false (bid_of o)) o.limit ms.sells

-- after some orders a margin has gone past the shares of those in its group
pub advanced_by : (side : Bool) (ms : Margins) (os : List Order) →
    margin_of side (fold turned ms os) ≡ advanced (count_by (marginal side (margin_of side ms).limit) os) (margin_of side ms)
advanced_by side ms [] = refl
advanced_by side ms (o ∷ os) =
    let m = margin_of side ms in
    let P = marginal side m.limit in
    let k = cond (P o) 1 0 in
    let sum : k + count_by P os ≡ count_by P (o ∷ os) = omega (arith, sum_by-cons (λ (x : Order). cond (P x) 1 0) o os) in
    advanced_by side (turned ms o) os
    ∙ ap (λ (z : Margin). advanced (count_by (marginal side z.limit) os) z) (turn side ms o)
    ∙ ap (λ (z : List ℕ). record { limit = m.limit; shares = z }) (drop-drop (count_by P os) k m.shares ∙ ap (λ n. drop n m.shares) sum)
