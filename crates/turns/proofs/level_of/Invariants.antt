use Rattle.std.proofs.Common.{◌≡◌, ℕ, suc, ◌-◌, ◌^◌, ◌<◌, ◌≤◌, length}
use Rattle.turns.specs.Turns.{of_place, claims_above}
use Rattle.turns.proofs.level_of.Given as goal

abbrev pub invariant-loop-low : goal.invariant-loop-low
invariant-loop-low g l =
    let above = claims_above (length l.group) (of_place (g.T.Turns.key l.turns) l.group) (of_place (g.T.Turns.claim l.turns) l.group) in
    (l.low ≤ l.high) × (l.high < 2 ^ 128) × (above l.high ≤ l.amount) × ((s : ℕ) → l.low ≡ suc s → l.amount ≤ above s)

abbrev pub decreases-loop-low : goal.decreases-loop-low
decreases-loop-low g l = l.high - l.low
