-- The questions that a book has to pass, in their order, and the first that is answered no.
use Rattle.std.specs.Prelude.{ℕ, ◌+◌, ◌*◌, Bool, cond, not, ◌&&◌, ◌||◌, List, [], ◌∷◌, ◌++◌, length, Some, None, Option, ◌==◌, nat_le, nat_lt}
use Rattle.packing.specs.Fields.{word}
use Rattle.book.specs.declared.fault.Question.{Question}
use Rattle.book.specs.declared.fault.Question.TheVariants.{SixBytes, Form, Way, Sharing, Reference, HeaderSpare, Length, Kind, OrderKind, RecordSpare}
use Rattle.book.specs.declared.fault.Fault.{Fault}
use Rattle.book.specs.Format.{form, way, sharing, reference, count, header_spare, kind, order_kind, record_spare}

-- a question and whether it is answered yes
abbrev pub Asked : Type 0
Asked = Question × Bool

-- of the values of a header
abbrev pub value_questions : ℕ → ℕ → ℕ → List Asked
value_questions w s r =
    (Way, nat_le w 5)
    ∷ (Sharing, nat_le s 2 && (nat_le w 1 || s == 0))
    ∷ (Reference, (w == 1) || r == 0)
    ∷ []

-- of the header, where its word is n and the book has len bytes
abbrev pub word_questions : ℕ → ℕ → List Asked
word_questions n len =
    (Form, (form n == 1))
    ∷ (value_questions (way n) (sharing n) (reference n) ++ ((HeaderSpare, (header_spare n == 0)) ∷ (Length, (len == 6 + 6 * count n)) ∷ []))

abbrev pub header_questions : List ℕ → List Asked
header_questions s = (SixBytes, nat_le 6 (length s)) ∷ word_questions (word s) (length s)

-- of a record, where the header's way is w and the record's word is n
abbrev pub record_questions : ℕ → ℕ → List Asked
record_questions w n =
    (Kind, nat_lt (kind n) 2 || (kind n == 2 && nat_lt w 5))
    ∷ (OrderKind, not (kind n == 0) || nat_le (order_kind n) 2)
    ∷ (RecordSpare, (record_spare n == 0))
    ∷ []

-- the first question that is answered no
abbrev pub first_no : List Asked → Option Question
first_no [] = None
first_no (a ∷ later) = cond a.1 (first_no later) (Some a.0)

abbrev pub fault : Question → ℕ → Fault
fault q k = record { question = q; «record» = k }

-- a no of record k, or else what comes after
abbrev pub fault_or : Option Question → ℕ → Option Fault → Option Fault
fault_or None k later = later
fault_or (Some q) k later = Some (fault q k)

-- the first fault of records, the first of which has the number k, where each is asked these questions
abbrev pub first_fault : {X : Type 0} → (X → List Asked) → ℕ → List X → Option Fault
first_fault asks k [] = None
first_fault asks k (x ∷ xs) = fault_or (first_no (asks x)) k (first_fault asks (k + 1) xs)
