use Rattle.std.proofs.Common.{◌≡◌, ◌+◌, ◌*◌, length}
use Rattle.book.specs.Questions.{first_fault, record_questions}
use Rattle.book.specs.Reading.{words}
use Rattle.book.proofs.reading.ask_records.Given as goal

abbrev pub invariant-loop-rest : goal.invariant-loop-rest
invariant-loop-rest l = (first_fault (record_questions l.way) l.«record» (words l.rest) ≡ first_fault (record_questions l.way) 1 (words l.s)) × (6 * l.«record» + length l.rest ≡ 6 + length l.s)

abbrev pub decreases-loop-rest : goal.decreases-loop-rest
decreases-loop-rest l = length l.rest
