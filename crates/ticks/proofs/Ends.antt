-- The lowest and the highest place that passes, as a search finds them.
use Rattle.std.proofs.Common.{◌≡◌, ℕ, zero, suc, ◌<◌, ◌≤◌, Bool, true, false, refl, inl, inr, arith}
use Rattle.std.proofs.lemmas.Bool.{cases_lt, cases_Bool, both_ways}
use Rattle.curves.specs.Sums.{lowest, highest}
use Rattle.curves.proofs.Sums.{lowest_le, lowest_passes, highest_ge, highest_passes}

pub lowest_most : (n : ℕ) (P : ℕ → Bool) → lowest n P ≤ n
unfolding lowest
lowest_most zero P = omega arith
lowest_most (suc n) P = let ih : lowest n P ≤ n = lowest_most n P in grind arith

-- the first that passes is the lowest
pub lowest_first : (n : ℕ) (P : ℕ → Bool) (i : ℕ) → i < n → P i ≡ true → ((k : ℕ) → k < i → P k ≡ false) → i ≡ lowest n P
lowest_first n P i h y before =
    let most : lowest n P ≤ i = lowest_le n P i h y in
    elim (cases_lt (lowest n P) i) [
      | inl l ↦ absurd (both_ways (P (lowest n P)) (before (lowest n P) l) (lowest_passes n P (omega arith)))
      | inr g ↦ omega arith
    ]

pub lowest_never : (n : ℕ) (P : ℕ → Bool) → ((k : ℕ) → k < n → P k ≡ false) → n ≡ lowest n P
lowest_never n P all =
    let most = lowest_most n P in
    elim (cases_lt (lowest n P) n) [
      | inl l ↦ absurd (both_ways (P (lowest n P)) (all (lowest n P) l) (lowest_passes n P l))
      | inr g ↦ omega arith
    ]

pub highest_most : (n : ℕ) (P : ℕ → Bool) → highest (suc n) P ≤ n
unfolding highest
highest_most zero P = grind arith
highest_most (suc n) P = let ih = highest_most n P in elim (cases_Bool (P (suc n))) [ inl y ↦ rw y (omega arith) | inr z ↦ rw z (omega arith) ]

-- the last that passes is the highest
pub highest_last : (n : ℕ) (P : ℕ → Bool) (i : ℕ) → i < n → P i ≡ true → ((k : ℕ) → i < k → k < n → P k ≡ false) → i ≡ highest n P
highest_last n P i h y after =
    let least : i ≤ highest n P = highest_ge n P i h y in
    let (passes, in-it) = highest_passes n P i h y in
    elim (cases_lt i (highest n P)) [
      | inl l ↦ absurd (both_ways (P (highest n P)) (after (highest n P) l in-it) passes)
      | inr g ↦ omega arith
    ]

pub highest_never : (n : ℕ) (P : ℕ → Bool) → ((k : ℕ) → k < n → P k ≡ false) → 0 ≡ highest n P
unfolding highest
highest_never zero P all = refl
highest_never (suc n) P all = rw (all n (omega arith)) (highest_never n P (λ k h. all k (omega arith)))
