-- What a fault says, and the round trip, in the words of the book.
use Rattle.std.specs.Prelude.{◌≡◌, ℕ, ◌+◌, ◌<◌, true, false, ◌⊎◌, List, ◌∷◌, ◌++◌, length, take, drop, None, Ok, slice_index}
use Rattle.std.specs.List.{AllByRecursion}
use Rattle.packing.specs.Fields.{word}
use Rattle.book.specs.declared.values.Header.{Header}
use Rattle.book.specs.declared.values.Entry.{Entry}
use Rattle.book.specs.declared.fault.Question.{Question}
use Rattle.book.specs.declared.fault.Fault.{Fault}
use Rattle.book.specs.Format.{way}
use Rattle.book.specs.Questions.{Asked, header_questions, record_questions}
use Rattle.book.specs.Reading.{words, read_book}
use Rattle.book.specs.Writing.{encode, write_fault}

-- every question is answered yes
abbrev pub Passes : List Asked → Type 0
Passes asked = AllByRecursion (λ (a : Asked). a.1 ≡ true) asked

-- the question q is answered no, and every earlier one yes
pub record Fails (asked : List Asked) (q : Question) : Type 0 where
  pub earlier : List Asked
  pub later : List Asked
  pub order : asked ≡ earlier ++ ((q, false) ∷ later)
  pub passed : Passes earlier

-- of records, the first of which has the number k, the one that the fault names fails its question, and every earlier one passes
pub record RecordFails {X : Type 0} (asks : X → List Asked) (k : ℕ) (xs : List X) (f : Fault) : Type 0 where
  pub earlier : List X
  pub here : X
  pub later : List X
  pub order : xs ≡ earlier ++ (here ∷ later)
  pub number : f.«record» ≡ length earlier + k
  pub passed : AllByRecursion (λ (x : X). Passes (asks x)) earlier
  pub fails : Fails (asks here) f.question

-- the book of these bytes has this fault: the header fails, or it passes and a record is the first to fail
abbrev pub Faulty : List ℕ → Fault → Type 0
Faulty s f =
    ((f.«record» ≡ 0) × Fails (header_questions s) f.question)
    ⊎ (Passes (header_questions s) × RecordFails (record_questions (way (word s))) 1 (words (drop 6 s)) f)

-- the book of these bytes passes every question
abbrev pub Faultless : List ℕ → Type 0
Faultless s = Passes (header_questions s) × AllByRecursion (λ n. Passes (record_questions (way (word s)) n)) (words (drop 6 s))

-- bytes
abbrev pub Bytes : List ℕ → Type 0
Bytes s = (i : ℕ) → slice_index s i < 256

-- ---- the round trip

-- what is written without a fault reads back to its header and records
abbrev pub WrittenReadsBack : Type 0
WrittenReadsBack = (h : Header) (es : List Entry) (len : ℕ) → write_fault h es len ≡ None → read_book (encode h es) ≡ Ok (h, es)

-- bytes that read are the only writing of what they read as
abbrev pub ReadIsOnlyWriting : Type 0
ReadIsOnlyWriting = (s : List ℕ) (h : Header) (es : List Entry) → Bytes s → read_book s ≡ Ok (h, es) → s ≡ encode h es

-- ---- how much of an input has to be read

-- one byte more than the longest book decides, whatever lies behind it
abbrev pub FrontIsEnough : Type 0
FrontIsEnough = (s : List ℕ) (n : ℕ) → 24576 < n → read_book (take n s) ≡ read_book s
