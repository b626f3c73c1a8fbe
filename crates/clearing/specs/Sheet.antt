-- The sheet of a book: so far, of one that cannot be read.
use Rattle.std.specs.Prelude.{ℕ, List, ◌++◌, Some, None, Ok, Err, codes, decimal, Option, Result}
use Rattle.book.specs.declared.values.Header.{Header}
use Rattle.book.specs.declared.values.Entry.{Entry}
use Rattle.book.specs.declared.fault.Fault.{Fault}
use Rattle.book.specs.Numbers.{number_of}
use Rattle.book.specs.Reading.{read_book}

-- the line of a fault
unfoldable pub fault_line : Fault → List ℕ
fault_line f = codes "FAULT " ++ (decimal (number_of f.question) ++ (codes " " ++ (decimal f.«record» ++ codes "\n")))

abbrev pub fault_text : Result (Header × List Entry) Fault → Option (List ℕ)
fault_text (Ok read) = None
fault_text (Err f) = Some (fault_line f)

-- the whole sheet of a book with a fault; none for a book that reads
abbrev pub fault_sheet : List ℕ → Option (List ℕ)
fault_sheet s = fault_text (read_book s)
