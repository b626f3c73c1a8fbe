use Rattle.std.proofs.Common.{◌≡◌, ℕ, ◌^◌, ◌<◌, cond, take}
use Rattle.orders.specs.Members.{has_line}
use Rattle.std.specs.Int.{bit_at}
use Rattle.orders.proofs.tables.Tables.member_count.Given as goal

abbrev pub invariant-loop-line : goal.invariant-loop-line
invariant-loop-line l = (l.members < 2 ^ 64) × ((j : ℕ) → bit_at l.members j ≡ cond (has_line (take l.line-index l.line-items) j) 1 0)
