-- The laws of the contract's own rules.
use Rattle.std.specs.Prelude.{◌≡◌, ℕ, suc, ◌≤◌, Bool, true, ◌==◌}
use Rattle.std.proofs.Common.{arith}
use Rattle.std.proofs.lemmas.Bool.{eq-eqb, eqb-true}
use Rattle.curves.specs.Sums.{lowest}
use Rattle.curves.specs.Curves.{executable, volume}
use Rattle.curves.proofs.Sums.{lowest_le, lowest_passes}
use Rattle.curves.proofs.Crossings.{volume_is_greatest}

-- the lowest tick with executable volume V is a tick, and has it
module _ (top : ℕ) (D S : ℕ → ℕ) where
  abbrev pub trades : ℕ → Bool
  trades p = executable D S p == volume top D S

  pub clears_within : lowest (suc top) trades ≤ top
  clears_within =
      let reached = (volume_is_greatest top D S).1 in
      omega (arith, lowest_le (suc top) trades reached.0 (omega (arith, reached.1)) (eq-eqb _ _ reached.2), reached.1)

  pub clears_there : executable D S (lowest (suc top) trades) ≡ volume top D S
  clears_there = eqb-true _ _ (lowest_passes (suc top) trades (omega (arith, clears_within)))

  -- some tick has it
  pub some_clears : (p : ℕ) × (p ≤ top) × (trades p ≡ true)
  some_clears = let reached = (volume_is_greatest top D S).1 in (reached.0, reached.1, eq-eqb _ _ reached.2)
