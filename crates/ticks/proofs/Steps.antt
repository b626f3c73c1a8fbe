-- The start and the step of a loop over sums, greatest values and writes by place.
use Rattle.std.proofs.Common.{◌≡◌, ℕ, zero, suc, ◌+◌, ◌<◌, ◌≤◌, max, min, cond, ltb, ◌≢◌, List, [], ◌∷◌, length, get_or, set, refl, inl, inr, add-one, arith}
use Rattle.std.proofs.lemmas.Bool.{cases_eq, cases_lt, lt-ltb, le-ltb}
use Rattle.std.proofs.lemmas.List.{get_or-set_same, get_or-set_other}
use Rattle.std.specs.List.{fold, zip}
use Rattle.curves.specs.Sums.{total, greatest}
use Rattle.curves.specs.Curves.{curve, executable}
use Rattle.curves.proofs.Sums.{total_same}

pub total_none : (f : ℕ → ℕ) → total 0 f ≡ 0
unfolding total
total_none f = refl

pub total_more : (n : ℕ) (f : ℕ → ℕ) → total (n + 1) f ≡ total n f + f n
unfolding total
total_more n f = rw add-one refl

-- a sum that stops early
pub total_front : (n m : ℕ) (f : ℕ → ℕ) → m ≤ n → total n (λ k. cond (ltb k m) (f k) 0) ≡ total m f
unfolding total
total_front zero m f h = let z : m ≡ 0 = omega arith in rw z refl
total_front (suc n) m f h =
    elim (cases_lt n m) [
      | inl l ↦
          let all : m ≡ suc n = omega arith in
          rw all (total_same (suc n) (λ k. cond (ltb k (suc n)) (f k) 0) f (λ k i. rw (lt-ltb k (suc n) i) refl))
      | inr g ↦ rw (le-ltb n m g) (omega (arith, total_front n m f g))
    ]

-- the first place apart
greatest_head : (n : ℕ) (f : ℕ → ℕ) → greatest (suc n) f ≡ max (f 0) (greatest n (λ k. f (suc k)))
unfolding greatest
greatest_head zero f = refl
greatest_head (suc n) f = omega (arith, greatest_head n f)

-- the greatest executable volume, as a fold over demand and supply finds it
fold_greatest : (a : ℕ) (d s : List ℕ) (n : ℕ) → length d ≡ suc n → length s ≡ suc n →
    fold (λ m p. max m (min p.0 p.1)) a (zip d s) ≡ max a (greatest n (executable (curve d) (curve s)))
unfolding greatest
fold_greatest a (x ∷ []) (y ∷ []) zero ld ls = refl
fold_greatest a (x ∷ ds) (y ∷ ss) (suc n) ld ls =
    omega (arith, fold_greatest (max a (min x y)) ds ss n (omega arith) (omega arith), greatest_head n (executable (curve (x ∷ ds)) (curve (y ∷ ss))))
fold_greatest a [] s n ld ls = absurd (omega arith)
fold_greatest a (x ∷ ds) [] n ld ls = absurd (omega arith)
fold_greatest a (x ∷ w ∷ ds) (y ∷ ss) zero ld ls = absurd (omega arith)
fold_greatest a (x ∷ []) (y ∷ z ∷ ss) zero ld ls = absurd (omega arith)

pub fold_volume : (d s : List ℕ) (n : ℕ) → length d ≡ suc n → length s ≡ suc n →
    fold (λ m p. max m (min p.0 p.1)) 0 (zip d s) ≡ greatest n (executable (curve d) (curve s))
fold_volume d s n ld ls = omega (arith, fold_greatest 0 d s n ld ls)

-- ---- a loop that writes each place in turn

pub front_more : (xs : List ℕ) (f : ℕ → ℕ) (i v : ℕ) → i < length xs → v ≡ f i → ((k : ℕ) → k < i → get_or xs k 0 ≡ f k) →
    (k : ℕ) → k < i + 1 → get_or (set xs i v) k 0 ≡ f k
front_more xs f i v h e front k l =
    elim (cases_eq k i) [ inl here ↦ rw (here, get_or-set_same) e | inr other ↦ rw get_or-set_other (front k (omega arith)) ]

pub back_more : (xs : List ℕ) (f : ℕ → ℕ) (i v : ℕ) → ((k : ℕ) → i ≤ k → get_or xs k 0 ≡ f k) → (k : ℕ) → i + 1 ≤ k → get_or (set xs i v) k 0 ≡ f k
back_more xs f i v back k l = let other : k ≢ i = omega arith in rw get_or-set_other (back k (omega arith))
