-- The number of each question.
use Rattle.std.specs.Prelude.{ℕ}
use Rattle.book.specs.declared.fault.Question.{Question}
use Rattle.book.specs.declared.fault.Question.TheVariants.{SixBytes, Form, Way, Sharing, Reference, HeaderSpare, Length, Kind, OrderKind, RecordSpare, Fit, Room}

abbrev pub number_of : Question → ℕ
number_of SixBytes = 14
number_of Form = 15
number_of Way = 16
number_of Sharing = 17
number_of Reference = 18
number_of HeaderSpare = 19
number_of Length = 20
number_of Kind = 21
number_of OrderKind = 22
number_of RecordSpare = 23
number_of Fit = 24
number_of Room = 25
