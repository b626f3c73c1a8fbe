-- Sums, greatest values, first and last places, by place.
use Rattle.std.specs.Prelude.{ℕ, zero, suc, ◌+◌, max, Bool, cond, nat_lt}

-- f 0 + .. + f (n - 1)
unfoldable pub total : ℕ → (ℕ → ℕ) → ℕ
total zero f = 0
total (suc n) f = total n f + f n

-- the greatest of f 0, .., f n
unfoldable pub greatest : ℕ → (ℕ → ℕ) → ℕ
greatest zero f = f 0
greatest (suc n) f = max (greatest n f) (f (suc n))

-- the lowest of the places 0 .. n - 1 that passes; n where none does
unfoldable pub lowest : ℕ → (ℕ → Bool) → ℕ
lowest zero P = 0
lowest (suc n) P = let r = lowest n P in cond (nat_lt r n) r (cond (P n) n (suc n))

-- the highest of the places 0 .. n - 1 that passes; 0 where none does
unfoldable pub highest : ℕ → (ℕ → Bool) → ℕ
highest zero P = 0
highest (suc n) P = cond (P n) n (highest n P)
