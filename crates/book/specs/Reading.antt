-- What reading a book gives.
use Rattle.std.specs.Prelude.{◌≡◌, ◌≢◌, ℕ, zero, suc, ◌/◌, ◌<◌, ◌≤◌, Bool, true, false, List, [], ◌∷◌, map, length, drop, Some, None, Ok, Err, Option, Result}
use Rattle.std.specs.List.{AllByRecursion}
use Rattle.packing.specs.Fields.{word}
use Rattle.book.specs.declared.values.Header.{Header}
use Rattle.book.specs.declared.values.Entry.{Entry}
use Rattle.book.specs.declared.values.Entry.TheVariants.{Place, Withdraw, Round}
use Rattle.book.specs.declared.values.Record.{Record}
use Rattle.book.specs.declared.values.Record.TheVariants.{Place as PlaceAt, Withdraw as WithdrawAt, Round as RoundAt}
use Rattle.book.specs.declared.fault.Question.{Question}
use Rattle.book.specs.declared.fault.Fault.{Fault}
use Rattle.book.specs.Format.{way, header_of, placement_of, withdrawal_of, entry_of}
use Rattle.book.specs.Questions.{header_questions, record_questions, first_no, first_fault, fault}

-- the words of the first n records of some bytes
abbrev pub words_of : ℕ → List ℕ → List ℕ
words_of zero s = []
words_of (suc n) s = word s ∷ words_of n (drop 6 s)

-- the words of the records in some bytes, six bytes each
abbrev pub words : List ℕ → List ℕ
words s = words_of (length s / 6) s

-- their values
abbrev pub entries : List ℕ → List Entry
entries s = map entry_of (words s)

abbrev pub with_records : Header → List Entry → Option Fault → Result (Header × List Entry) Fault
with_records h es None = Ok (h, es)
with_records h es (Some f) = Err f

abbrev pub with_header : List ℕ → Option Question → Result (Header × List Entry) Fault
with_header s None = with_records (header_of (word s)) (entries (drop 6 s)) (first_fault (record_questions (way (word s))) 1 (words (drop 6 s)))
with_header s (Some q) = Err (fault q 0)

-- the header and the records of a book, or its first fault
abbrev pub read_book : List ℕ → Result (Header × List Entry) Fault
read_book s = with_header s (first_no (header_questions s))

-- ---- a record that is handed out

-- its value
abbrev pub value_of : Record → Entry
value_of (PlaceAt six) = Place (placement_of (word six.now))
value_of (WithdrawAt six) = Withdraw (withdrawal_of (word six.now))
value_of (RoundAt six) = Round

-- the six bytes that it borrows
abbrev pub bytes_of : Record → List ℕ
bytes_of (PlaceAt six) = six.now
bytes_of (WithdrawAt six) = six.now
bytes_of (RoundAt six) = six.now

-- ---- what holds of a book that reads

-- the values of its header may stand together
pub record Lawful (h : Header) : Type 0 where
  pub way : h.way ≤ 5
  pub sharing : h.sharing ≤ 2
  pub one_sharing : 1 < h.way → h.sharing ≡ 0
  pub reference : h.way ≢ 1 → h.reference ≡ 0

-- is the record a round?
abbrev pub is_round : Entry → Bool
is_round (Place p) = false
is_round (Withdraw w) = false
is_round Round = true

-- none of the records is a round
abbrev pub NoRounds : List Entry → Type 0
NoRounds es = AllByRecursion (λ (e : Entry). is_round e ≡ false) es
