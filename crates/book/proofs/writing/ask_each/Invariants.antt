use Rattle.std.proofs.Common.{◌≡◌, ◌+◌, drop}
use Rattle.book.specs.Questions.{first_fault}
use Rattle.book.proofs.writing.ask_each.Given as goal

abbrev pub invariant-loop-i : goal.invariant-loop-i
invariant-loop-i g l = first_fault g.asks (l.i + 1) (drop l.i l.entries) ≡ first_fault g.asks 1 l.entries
