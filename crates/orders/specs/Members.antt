-- The members that lines name.
use Rattle.std.specs.Prelude.{ℕ, Bool, false, cond, ◌||◌, List, [], ◌∷◌, ◌==◌}
use Rattle.curves.specs.Sums.{total}
use Rattle.orders.specs.declared.order.Line.{Line}
use Rattle.orders.specs.Settlement.{member_places}

-- has the member a line?
abbrev pub has_line : List Line → ℕ → Bool
has_line [] m = false
has_line (l ∷ ls) m = l.member == m || has_line ls m

-- how many different members the lines name
abbrev pub distinct_members : List Line → ℕ
distinct_members ls = total member_places (λ m. cond (has_line ls m) 1 0)
