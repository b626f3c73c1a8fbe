use Rattle.std.proofs.Common.{◌≡◌, ◌+◌, ◌*◌, ◌++◌, take, drop}
use Rattle.std.specs.List.{flat_map}
use Rattle.book.specs.Writing.{entry_bytes}
use Rattle.book.proofs.writing.put_all.Given as goal

abbrev pub invariant-loop-i : goal.invariant-loop-i
invariant-loop-i l = l.out ≡ (take 6 l.initial.out ++ flat_map entry_bytes (take l.i l.entries)) ++ drop (6 + 6 * l.i) l.initial.out
