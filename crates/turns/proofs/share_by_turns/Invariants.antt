use Rattle.std.proofs.Common.{◌≡◌, ℕ, ◌-◌, ◌<◌, ◌≤◌, length, get_or}
use Rattle.turns.specs.Turns.{of_place, by_turns, claims_above}
use Rattle.turns.proofs.Shares.{equals_before}
use Rattle.turns.proofs.share_by_turns.Given as goal

abbrev pub invariant-loop-quantity : goal.invariant-loop-quantity
invariant-loop-quantity g l =
    let before = l.initial.group in
    let n = length before in
    let key = of_place (g.T.Turns.key l.turns) before in
    let claim = of_place (g.T.Turns.claim l.turns) before in
    let shares = by_turns (g.T.Turns.sure l.turns) (g.T.Turns.key l.turns) (g.T.Turns.claim l.turns) l.amount before in
    (l.spare ≡ l.amount - claims_above n key claim l.level - equals_before n key claim l.level l.quantity-index)
    × ((k : ℕ) → k < l.quantity-index → get_or l.group k 0 ≡ get_or shares k 0)
    × ((k : ℕ) → l.quantity-index ≤ k → get_or l.group k 0 ≡ get_or before k 0)
