-- The quantities of the standing orders, spread over all orders.
use Rattle.std.proofs.Common.{◌≡◌, ℕ, zero, suc, ◌<◌, Bool, cond, List, [], ◌∷◌, length, get_or, take, count_by, refl, arith}
use Rattle.std.proofs.lemmas.List.Sums.{sum_by-cons}
use Rattle.orders.specs.declared.order.Order.{Order}
use Rattle.orders.specs.Orders.{is_standing, at}
use Rattle.steps.specs.Uniform.{standing_of, lines_at}

abbrev pub stands : Order → Bool
stands o = is_standing o.life

-- each standing order has the next quantity, any other 0
abbrev pub spread : List Order → List ℕ → List ℕ
spread [] qs = []
spread (o ∷ os) [] = cond (stands o) (0 ∷ spread os []) (0 ∷ spread os [])
spread (o ∷ os) (q ∷ qs) = cond (stands o) (q ∷ spread os qs) (0 ∷ spread os (q ∷ qs))

pub length_spread : (os : List Order) (qs : List ℕ) → length (spread os qs) ≡ length os
length_spread [] qs = refl
length_spread (o ∷ os) [] = let rest = length_spread os [] in grind arith
length_spread (o ∷ os) (q ∷ qs) = let taken = length_spread os qs in let rest = length_spread os (q ∷ qs) in grind arith

-- orders that do not stand make no lines
pub lines_spread : (p i : ℕ) (os : List Order) (qs : List ℕ) → length qs ≡ length (standing_of os) → lines_at p i os (spread os qs) ≡ lines_at p i (standing_of os) qs
lines_spread p i [] qs e = refl
lines_spread p i (o ∷ os) [] e =
    let rest = lines_spread p i os [] in grind arith
lines_spread p i (o ∷ os) (q ∷ qs) e =
    let taken = lines_spread p (suc i) os qs in
    let none = lines_spread p i os qs in
    let rest = lines_spread p i os (q ∷ qs) in
    grind arith

-- the quantity at place k
pub getD_spread : (os : List Order) (qs : List ℕ) (k : ℕ) → k < length os →
    get_or (spread os qs) k 0 ≡ cond (stands (at os k)) (get_or qs (count_by stands (take k os)) 0) 0
getD_spread [] qs k h = absurd (omega arith)
getD_spread (o ∷ os) [] zero h = grind arith
getD_spread (o ∷ os) (q ∷ qs) zero h = grind arith
getD_spread (o ∷ os) [] (suc k) h = let rest = getD_spread os [] k (omega arith) in grind arith
getD_spread (o ∷ os) (q ∷ qs) (suc k) h =
    let count = sum_by-cons (λ (x : Order). cond (stands x) 1 0) o (take k os) in
    let taken = getD_spread os qs k (omega arith) in
    let rest = getD_spread os (q ∷ qs) k (omega arith) in
    grind arith
