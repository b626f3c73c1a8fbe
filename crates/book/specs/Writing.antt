-- What writing a book gives.
use Rattle.std.specs.Prelude.{ℕ, ◌+◌, ◌*◌, ◌^◌, Bool, true, false, ◌&&◌, List, [], ◌∷◌, ◌++◌, length, drop, Some, None, Ok, Err, Option, Result, nat_le, nat_lt}
use Rattle.std.specs.List.{flat_map}
use Rattle.packing.specs.Fields.{pack, bytes}
use Rattle.book.specs.declared.values.Header.{Header}
use Rattle.book.specs.declared.values.Entry.{Entry}
use Rattle.book.specs.declared.values.Entry.TheVariants.{Place, Withdraw, Round}
use Rattle.book.specs.declared.fault.Fault.{Fault}
use Rattle.book.specs.declared.fault.Question.TheVariants.{Fit, Room}
use Rattle.book.specs.Questions.{Asked, record_questions, first_no, fault_or, first_fault}
use Rattle.book.specs.Reading.{read_book}

-- ---- the layouts: the widths of the fields in their order, and their values, the filled-in ones among them

abbrev pub header_widths : List ℕ
header_widths = 4 ∷ 3 ∷ 2 ∷ 11 ∷ 12 ∷ 12 ∷ 4 ∷ []

abbrev pub header_values : Header → ℕ → List ℕ
header_values h n = 1 ∷ h.way ∷ h.sharing ∷ h.reference ∷ h.period ∷ n ∷ 0 ∷ []

abbrev pub entry_widths : Entry → List ℕ
entry_widths (Place p) = 2 ∷ 1 ∷ 2 ∷ 6 ∷ 11 ∷ 20 ∷ 6 ∷ []
entry_widths (Withdraw w) = 2 ∷ 6 ∷ 9 ∷ 31 ∷ []
entry_widths Round = 2 ∷ 46 ∷ []

abbrev pub entry_values : Entry → List ℕ
entry_values (Place p) = 0 ∷ p.side ∷ p.kind ∷ p.member ∷ p.limit ∷ p.quantity ∷ 0 ∷ []
entry_values (Withdraw w) = 1 ∷ w.member ∷ w.number ∷ 0 ∷ []
entry_values Round = 2 ∷ 0 ∷ []

-- ---- the bytes

-- the header's word, where there are n records
abbrev pub header_word : Header → ℕ → ℕ
header_word h n = pack header_widths (header_values h n)

abbrev pub entry_word : Entry → ℕ
entry_word e = pack (entry_widths e) (entry_values e)

abbrev pub entry_bytes : Entry → List ℕ
entry_bytes e = bytes (entry_word e)

-- a book's bytes: six for the header, and six for each record
abbrev pub encode : Header → List Entry → List ℕ
encode h es = bytes (header_word h (length es)) ++ flat_map entry_bytes es

abbrev pub book_length : List Entry → ℕ
book_length es = 6 + 6 * length es

-- ---- the questions

-- do the values fit fields of these widths?
abbrev pub fits : List ℕ → List ℕ → Bool
fits [] [] = true
fits [] (v ∷ vs) = false
fits (w ∷ ws) [] = false
fits (w ∷ ws) (v ∷ vs) = nat_lt v (2 ^ w) && fits ws vs

abbrev pub header_fits : Header → ℕ → Bool
header_fits h n = fits header_widths (header_values h n)

abbrev pub entry_fits : Entry → Bool
entry_fits e = fits (entry_widths e) (entry_values e)

abbrev pub fit_questions : Entry → List Asked
fit_questions e = (Fit, entry_fits e) ∷ []

-- the questions of reading, at a record that is to be written
abbrev pub read_questions : ℕ → Entry → List Asked
read_questions w e = record_questions w (entry_word e)

abbrev pub or_else : Option Fault → Option Fault → Option Fault
or_else None later = later
or_else (Some f) later = Some f

abbrev pub fault_of : Result (Header × List Entry) Fault → Option Fault
fault_of (Ok read) = None
fault_of (Err f) = Some f

-- the first fault of writing into a buffer of len bytes: fit and room come first, then the questions of reading
abbrev pub write_fault : Header → List Entry → ℕ → Option Fault
write_fault h es len =
    fault_or (first_no ((Fit, header_fits h (length es)) ∷ [])) 0
    (or_else (first_fault fit_questions 1 es)
    (fault_or (first_no ((Room, nat_le (book_length es) len) ∷ [])) 0
    (fault_of (read_book (encode h es)))))

-- ---- the call

abbrev pub written : Header → List Entry → List ℕ → Option Fault → Result ℕ Fault × List ℕ
written h es out None = (Ok (book_length es), encode h es ++ drop (book_length es) out)
written h es out (Some f) = (Err f, out)

-- the answer, and the buffer that writing leaves
abbrev pub write : Header → List Entry → List ℕ → Result ℕ Fault × List ℕ
write h es out = written h es out (write_fault h es (length out))
