-- A sheet as it grows.
use Rattle.std.specs.Prelude.{◌≡◌, ℕ, ◌<◌, Bool, false, List, ◌++◌, vec_items, slice_index_or}
use Rattle.orders.specs.declared.order.Line.{Line}
use Rattle.orders.specs.Settlement.{Session, member_places}
use Rattle.orders.specs.Members.{has_line}
use Rattle.steps.specs.Calls.{Answer}
use Rattle.history.specs.Histories.{lines_made}
use Rattle.sheets.specs.declared.growing.Sheet.{Sheet}
use Rattle.sheets.specs.Sheet.{answer_text}

-- is the member marked?
abbrev pub marked : List Bool → ℕ → Bool
marked marks m = slice_index_or marks m false

-- the members that have lines are marked
abbrev pub Marks : List Line → List Bool → Type 0
Marks seen marks = (m : ℕ) → m < member_places → marked marks m ≡ has_line seen m

-- the sheet has one more piece of text, and the members of more lines are marked
pub record Grown (piece : List ℕ) (more : List Line) (before after : Sheet) : Type 0 where
  pub text : vec_items after.text ≡ vec_items before.text ++ piece
  pub marks : (seen : List Line) → Marks seen before.traded → Marks (seen ++ more) after.traded

-- what the call of the k-th record adds, by its answer and the session that it leaves
abbrev pub Told : ℕ → Answer × Session → Sheet → Sheet → Type 0
Told k r = Grown (answer_text k r.0 (lines_made r.0 r.1.lines)) (lines_made r.0 r.1.lines)
