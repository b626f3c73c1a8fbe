-- A book in plain words: its header and a line for each record, or its fault.
use Rattle.std.specs.Prelude.{ℕ, ◌+◌, List, [], ◌∷◌, ◌++◌, length, Ok, Err, codes, decimal, Result}
use Rattle.book.specs.declared.values.Header.{Header}
use Rattle.book.specs.declared.values.Entry.{Entry}
use Rattle.book.specs.declared.values.Entry.TheVariants.{Place, Withdraw, Round}
use Rattle.book.specs.declared.fault.Fault.{Fault}
use Rattle.book.specs.Numbers.{number_of}
use Rattle.book.specs.Reading.{read_book}
use Rattle.book.specs.Wording.{wording}
use Rattle.listing.specs.Words.{way_name, sharing_name, side_name, kind_name}

-- a code with its name
unfoldable pub named_line : List ℕ → ℕ → List ℕ → List ℕ
named_line label n name = label ++ (codes " " ++ (decimal n ++ (codes ", " ++ (name ++ codes "\n"))))

-- a number
unfoldable pub number_line : List ℕ → ℕ → List ℕ
number_line label n = label ++ (codes " " ++ (decimal n ++ codes "\n"))

-- the header's values, and the number of records
abbrev pub header_lines : Header → ℕ → List ℕ
header_lines h n =
    named_line (codes "way") h.way (way_name h.way)
    ++ (named_line (codes "sharing") h.sharing (sharing_name h.sharing)
    ++ (number_line (codes "reference price") h.reference
    ++ (number_line (codes "period") h.period
    ++ number_line (codes "records") n)))

-- the line of the record with the number k
unfoldable pub record_line : ℕ → Entry → List ℕ
record_line k (Place p) =
    decimal k ++ (codes " place: " ++ (side_name p.side ++ (codes ", " ++ (kind_name p.kind
    ++ (codes ", member " ++ (decimal p.member ++ (codes ", limit " ++ (decimal p.limit ++ (codes ", quantity " ++ (decimal p.quantity ++ codes "\n"))))))))))
record_line k (Withdraw w) = decimal k ++ (codes " withdraw: member " ++ (decimal w.member ++ (codes ", number " ++ (decimal w.number ++ codes "\n"))))
record_line k Round = decimal k ++ codes " round\n"

-- the lines of records, the first of which has the number k
abbrev pub record_lines : ℕ → List Entry → List ℕ
record_lines k [] = []
record_lines k (e ∷ es) = record_line k e ++ record_lines (k + 1) es

-- a fault: its number, its record and the question
unfoldable pub fault_line : Fault → List ℕ
fault_line f = codes "fault " ++ (decimal (number_of f.question) ++ (codes " in record " ++ (decimal f.«record» ++ (codes ": " ++ (wording f.question ++ codes "\n")))))

abbrev pub listed : Result (Header × List Entry) Fault → List ℕ
listed (Ok read) = header_lines read.0 (length read.1) ++ record_lines 1 read.1
listed (Err f) = fault_line f

-- the listing of a book
abbrev pub listing_of : List ℕ → List ℕ
listing_of s = listed (read_book s)
