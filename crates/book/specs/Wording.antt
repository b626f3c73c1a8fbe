-- Each question in words.
use Rattle.std.specs.Prelude.{ℕ, List, codes}
use Rattle.book.specs.declared.fault.Question.{Question}
use Rattle.book.specs.declared.fault.Question.TheVariants.{SixBytes, Form, Way, Sharing, Reference, HeaderSpare, Length, Kind, OrderKind, RecordSpare, Fit, Room}

abbrev pub wording : Question → List ℕ
wording SixBytes = codes "has the book six bytes or more?"
wording Form = codes "is the form 1?"
wording Way = codes "is the way 0 to 5?"
wording Sharing = codes "is the sharing 0 to 2, and 0 for the ways 2 to 5?"
wording Reference = codes "is the reference price 0, unless the way is 1?"
wording HeaderSpare = codes "are the header's spare bits 0?"
wording Length = codes "is the length 6 bytes plus 6 for each record?"
wording Kind = codes "is the kind 0 to 2, and 2 only for ways below 5?"
wording OrderKind = codes "is the order kind 0 to 2?"
wording RecordSpare = codes "are the record's spare bits 0?"
wording Fit = codes "do the values fit their fields?"
wording Room = codes "is the buffer long enough?"
