-- What a ranking owes.
use Rattle.std.specs.Prelude.{◌≡◌, ℕ, Bool, true, cond, not, ◌≢◌, nat_lt}

-- of two things with different marks exactly one is ahead, and the ranking is transitive
pub record RankLaw {X : Type 0} (mark : X → ℕ) (ahead : X → X → Bool) : Type 0 where
  pub one : (x y : X) → (mark x ≢ mark y) → ahead x y ≡ not (ahead y x)
  pub chain : (x y z : X) → ahead x y ≡ true → ahead y z ≡ true → ahead x z ≡ true

-- a buy's higher limit, or a sell's lower, is the better
abbrev pub better : Bool → ℕ → ℕ → Bool
better buys a b = cond buys (nat_lt b a) (nat_lt a b)

-- of two unequal limits on one side the better is ahead
abbrev pub LimitLaw : {X : Type 0} → Bool → (X → ℕ) → (X → X → Bool) → Type 0
LimitLaw {X} buys limit ahead = (x y : X) → better buys (limit x) (limit y) ≡ true → ahead x y ≡ true
