use Rattle.std.proofs.Common.{◌≡◌, ◌++◌, drop, vec_items}
use Rattle.std.specs.List.{flat_map}
use Rattle.text.specs.Rows.{spaced}
use Rattle.text.proofs.put_row.Given as goal

abbrev pub invariant-loop-number : goal.invariant-loop-number
invariant-loop-number l =
    vec_items l.out ++ flat_map spaced (drop l.number-index l.numbers) ≡ vec_items l.initial.out ++ flat_map spaced l.numbers
