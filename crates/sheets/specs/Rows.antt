-- The rows of a sheet.
use Rattle.std.specs.Prelude.{ℕ, List, [], ◌∷◌, codes}
use Rattle.std.specs.List.{flat_map}
use Rattle.text.specs.Rows.{row}
use Rattle.book.specs.declared.fault.Fault.{Fault}
use Rattle.book.specs.Numbers.{number_of}
use Rattle.orders.specs.declared.order.Side.{Side}
use Rattle.orders.specs.declared.order.Side.TheVariants.{Buy, Sell}
use Rattle.orders.specs.declared.order.Line.{Line}
use Rattle.orders.specs.declared.order.Account.{Account}
use Rattle.steps.specs.declared.call.Outcome.{Outcome}
use Rattle.steps.specs.declared.refusal.Refusal.{Refusal}
use Rattle.steps.specs.Refusals.{number_of as refusal-number}

-- FAULT number record
unfoldable pub fault_row : Fault → List ℕ
fault_row f = row (codes "FAULT") (number_of f.question ∷ f.«record» ∷ [])

-- NO record number
unfoldable pub no_row : ℕ → Refusal → List ℕ
no_row k q = row (codes "NO") (k ∷ refusal-number q ∷ [])

-- ROUND volume price members
unfoldable pub round_row : Outcome → List ℕ
round_row o = row (codes "ROUND") (o.volume ∷ o.price ∷ o.members ∷ [])

abbrev pub letter : Side → List ℕ
letter Buy = codes "B"
letter Sell = codes "S"

-- side, order, member, quantity, price
unfoldable pub line_row : Line → List ℕ
line_row l = row (letter l.side) (l.order ∷ l.member ∷ l.quantity ∷ l.price ∷ [])

-- the rows of lines
abbrev pub line_rows : List Line → List ℕ
line_rows ls = flat_map line_row ls

-- ACCOUNT member pays gets
unfoldable pub account_row : ℕ → Account → List ℕ
account_row m a = row (codes "ACCOUNT") (m ∷ a.pays ∷ a.gets ∷ [])
