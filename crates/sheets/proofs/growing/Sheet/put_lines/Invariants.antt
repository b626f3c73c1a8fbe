use Rattle.std.proofs.Common.{◌≡◌, List, ◌++◌, take, drop, vec_items}
use Rattle.orders.specs.declared.order.Line.{Line}
use Rattle.sheets.specs.Rows.{line_rows}
use Rattle.sheets.specs.Growing.{Marks}
use Rattle.sheets.proofs.growing.Sheet.put_lines.Given as goal

abbrev pub invariant-loop-line : goal.invariant-loop-line
invariant-loop-line l =
    (vec_items l.self.text ++ line_rows (drop l.line-index l.lines) ≡ vec_items l.initial.self.text ++ line_rows l.lines)
    × ((seen : List Line) → Marks seen l.initial.self.traded → Marks (seen ++ take l.line-index l.lines) l.self.traded)
