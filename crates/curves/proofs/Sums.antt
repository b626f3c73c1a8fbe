-- Laws of sums, greatest values, first and last places.
use Rattle.std.proofs.Common.{◌≡◌, ℕ, zero, suc, ◌+◌, ◌*◌, ◌<◌, ◌≤◌, max, Bool, true, cond, eqb, ◌⊎◌, sym, refl, ◌∙◌, inl, inr, arith}
use Rattle.std.proofs.lemmas.Bool.{cases_eq, cases_lt, cases_Bool, lt-ltb, le-ltb, both_ways, eq-eqb, ne_eqb}
use Rattle.curves.specs.Sums.{total, greatest, lowest, highest}

pub total_le : (n : ℕ) (f g : ℕ → ℕ) → ((k : ℕ) → k < n → f k ≤ g k) → total n f ≤ total n g
unfolding total
total_le zero f g h = omega arith
total_le (suc n) f g h =
    let ih : total n f ≤ total n g = total_le n f g (λ k l. h k (omega arith)) in
    let here : f n ≤ g n = h n (omega arith) in
    omega arith

pub total_same : (n : ℕ) (f g : ℕ → ℕ) → ((k : ℕ) → k < n → f k ≡ g k) → total n f ≡ total n g
unfolding total
total_same zero f g h = refl
total_same (suc n) f g h =
    let ih : total n f ≡ total n g = total_same n f g (λ k l. h k (omega arith)) in
    let here : f n ≡ g n = h n (omega arith) in
    omega arith

pub total_lt : (n : ℕ) (f g : ℕ → ℕ) (j : ℕ) → ((k : ℕ) → k < n → f k ≤ g k) → j < n → f j < g j → total n f < total n g
unfolding total
total_lt zero f g j h l s = omega arith
total_lt (suc n) f g j h l s =
    let rest : (k : ℕ) → k < n → f k ≤ g k = λ k i. h k (omega arith) in
    let here : f n ≤ g n = h n (omega arith) in
    elim (cases_eq j n) [
      | inl e ↦
          let ih : total n f ≤ total n g = total_le n f g rest in
          let strict : f n < g n = rw e at s in
          omega arith
      | inr ne ↦
          let ih : total n f < total n g = total_lt n f g j rest (omega arith) s in
          omega arith
    ]

pub total_add : (n : ℕ) (f g : ℕ → ℕ) → total n (λ k. f k + g k) ≡ total n f + total n g
unfolding total
total_add zero f g = refl
total_add (suc n) f g = omega (arith, total_add n f g)

pub total_zero : (n : ℕ) → total n (λ _. 0) ≡ 0
unfolding total
total_zero zero = refl
total_zero (suc n) = omega (arith, total_zero n)

-- the first place apart
pub total_head : (n : ℕ) (f : ℕ → ℕ) → total (suc n) f ≡ f 0 + total n (λ k. f (suc k))
unfolding total
total_head zero f = omega arith
total_head (suc n) f = omega (arith, total_head n f)

pub total_swap : (n m : ℕ) (f : ℕ → ℕ → ℕ) → total n (λ k. total m (λ l. f k l)) ≡ total m (λ l. total n (λ k. f k l))
unfolding total
total_swap zero m f = sym (total_zero m)
total_swap (suc n) m f = omega (arith, total_swap n m f, total_add m (λ l. total n (λ k. f k l)) (λ l. f n l))

-- one place picked
pub total_pick : (m j : ℕ) (g : ℕ → ℕ) → j < m → total m (λ l. cond (eqb j l) (g l) 0) ≡ g j
unfolding total
total_pick zero j g h = absurd (omega arith)
total_pick (suc m) j g h =
    elim (cases_eq j m) [
      | inl e ↦
          let z : total m (λ l. cond (eqb j l) (g l) 0) ≡ 0 =
          total_same m _ (λ _. 0) (λ l i. rw (ne_eqb j l (λ (x : j ≡ l). omega arith)) refl) ∙ total_zero m in
          rw (eq-eqb j m e) (rw e (omega (arith, rw e at z)))
      | inr ne ↦ rw (ne_eqb j m ne) (omega (arith, total_pick m j g (omega arith)))
    ]

-- sums that agree, part by part at most: the parts agree
pub total_full : (n : ℕ) (f g : ℕ → ℕ) → ((k : ℕ) → k < n → f k ≤ g k) → total n f ≡ total n g → (k : ℕ) → k < n → f k ≡ g k
total_full n f g h e k l =
    elim (cases_lt (f k) (g k)) [ inl s ↦ absurd (omega (arith, total_lt n f g k h l s)) | inr z ↦ omega (arith, h k l) ]

pub total_at : (n : ℕ) (f : ℕ → ℕ) (k : ℕ) → k < n → f k ≤ total n f
unfolding total
total_at zero f k h = absurd (omega arith)
total_at (suc n) f k h = elim (cases_eq k n) [ inl e ↦ rw e (omega arith) | inr ne ↦ omega (arith, total_at n f k (omega arith)) ]

pub total_scale : (n p : ℕ) (f : ℕ → ℕ) → total n (λ k. p * f k) ≡ p * total n f
unfolding total
total_scale zero p f = omega arith
total_scale (suc n) p f = omega (arith, total_scale n p f)

pub greatest_le : (n : ℕ) (f : ℕ → ℕ) (k : ℕ) → k ≤ n → f k ≤ greatest n f
unfolding greatest
greatest_le zero f k l = let e : k ≡ 0 = omega arith in rw e (omega arith)
greatest_le (suc n) f k l =
    elim (cases_eq k (suc n)) [ inl e ↦ rw e (omega arith) | inr ne ↦ omega (arith, greatest_le n f k (omega arith)) ]

pub greatest_at : (n : ℕ) (f : ℕ → ℕ) → (k : ℕ) × (k ≤ n) × (f k ≡ greatest n f)
unfolding greatest
greatest_at zero f = (0, omega arith, refl)
greatest_at (suc n) f = go (cases_lt (greatest n f) (f (suc n))) (greatest_at n f)
  where
    go : (greatest n f < f (suc n)) ⊎ (f (suc n) ≤ greatest n f) → (k : ℕ) × (k ≤ n) × (f k ≡ greatest n f) →
        (k : ℕ) × (k ≤ suc n) × (f k ≡ max (greatest n f) (f (suc n)))
    go (inl l) _ = (suc n, omega arith, omega arith)
    go (inr l) ih = (ih.0, omega arith, omega arith)

pub lowest_le : (n : ℕ) (P : ℕ → Bool) (k : ℕ) → k < n → P k ≡ true → lowest n P ≤ k
unfolding lowest
lowest_le zero P k h y = omega arith
lowest_le (suc n) P k h y =
    elim (cases_lt (lowest n P) n) [
      | inl l ↦ rw (lt-ltb (lowest n P) n l) (elim (cases_eq k n) [ inl e ↦ omega arith | inr ne ↦ lowest_le n P k (omega arith) y ])
      | inr g ↦
          elim (cases_eq k n) [
            | inl e ↦ let yn : P n ≡ true = rw e at y in rw (le-ltb (lowest n P) n g, yn) (omega arith)
            | inr ne ↦ absurd (omega (arith, lowest_le n P k (omega arith) y))
          ]
    ]

pub lowest_passes : (n : ℕ) (P : ℕ → Bool) → lowest n P < n → P (lowest n P) ≡ true
unfolding lowest
lowest_passes zero P h = absurd (omega arith)
lowest_passes (suc n) P h =
    elim (cases_lt (lowest n P) n) [
      | inl l ↦ rw (lt-ltb (lowest n P) n l) (lowest_passes n P l)
      | inr g ↦
          elim (cases_Bool (P n)) [
            | inl y ↦ rw (le-ltb (lowest n P) n g, y) y
            | inr z ↦ absurd (omega (arith, rw (le-ltb (lowest n P) n g, z) at h))
          ]
    ]

pub highest_ge : (n : ℕ) (P : ℕ → Bool) (k : ℕ) → k < n → P k ≡ true → k ≤ highest n P
unfolding highest
highest_ge zero P k h y = omega arith
highest_ge (suc n) P k h y =
    elim (cases_Bool (P n)) [
      | inl t ↦ rw t (omega arith)
      | inr z ↦ elim (cases_eq k n) [
        | inl e ↦ let yn : P n ≡ true = rw e at y in absurd (both_ways (P n) z yn)
        | inr ne ↦ rw z (highest_ge n P k (omega arith) y)
      ]
    ]

pub highest_passes : (n : ℕ) (P : ℕ → Bool) (k : ℕ) → k < n → P k ≡ true → (P (highest n P) ≡ true) × (highest n P < n)
unfolding highest
highest_passes zero P k h y = absurd (omega arith)
highest_passes (suc n) P k h y =
    elim (cases_Bool (P n)) [
      | inl t ↦ rw t (t, omega arith)
      | inr z ↦ elim (cases_eq k n) [
        | inl e ↦ let yn : P n ≡ true = rw e at y in absurd (both_ways (P n) z yn)
        | inr ne ↦ let (a, b) = highest_passes n P k (omega arith) y in rw z (a, omega arith)
      ]
    ]
