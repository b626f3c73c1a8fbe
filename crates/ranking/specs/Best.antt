-- The best of the things at the places below n, of which some hold none.
use Rattle.std.specs.Prelude.{◌≡◌, ℕ, zero, suc, ◌<◌, Bool, true, cond, Some, None, Option, ◌≢◌}

-- is x ahead of the best so far, if there is one?
abbrev pub leads : {X : Type 0} → (X → X → Bool) → X → Option (ℕ × X) → Bool
leads ahead x None = true
leads ahead x (Some b) = ahead x b.1

-- the best so far, once what stands at the place n has come
abbrev pub joined : {X : Type 0} → (X → X → Bool) → ℕ → Option X → Option (ℕ × X) → Option (ℕ × X)
joined ahead n None best = best
joined ahead n (Some x) best = cond (leads ahead x best) (Some (n, x)) best

-- the best below n, with its place
abbrev pub best_of : {X : Type 0} → (X → X → Bool) → ℕ → (ℕ → Option X) → Option (ℕ × X)
best_of ahead zero thing = None
best_of ahead (suc n) thing = joined ahead n (thing n) (best_of ahead n thing)

-- its place alone
abbrev pub place_of : {X : Type 0} → Option (ℕ × X) → Option ℕ
place_of None = None
place_of (Some b) = Some b.0

-- no two places below n hold things of one mark
abbrev pub Distinct : {X : Type 0} → (X → ℕ) → ℕ → (ℕ → Option X) → Type 0
Distinct {X} mark n thing = (j k : ℕ) (x y : X) → j < n → k < n → thing j ≡ Some x → thing k ≡ Some y → mark x ≡ mark y → j ≡ k

-- x stands at the place b, and is ahead of all others below n
abbrev pub BestAt : {X : Type 0} → (X → X → Bool) → ℕ → (ℕ → Option X) → ℕ → X → Type 0
BestAt {X} ahead n thing b x = (b < n) × (thing b ≡ Some x) × ((k : ℕ) (y : X) → k < n → (k ≢ b) → thing k ≡ Some y → ahead x y ≡ true)

-- the place of the best; none where no place holds anything
abbrev pub Found : {X : Type 0} → (X → X → Bool) → ℕ → (ℕ → Option X) → Option ℕ → Type 0
Found {X} ahead n thing None = (k : ℕ) → k < n → thing k ≡ None
Found {X} ahead n thing (Some b) = (x : X) × BestAt ahead n thing b x
