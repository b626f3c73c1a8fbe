use Rattle.book.specs.Writing.{fit_questions, read_questions}
use Rattle.book.specs.contracts.writing.fn.ask_write.ask_each+2 as closure
use Rattle.book.proofs.writing.ask_write.Given as goal

abbrev pub ghost-ask_each : goal.ghost-ask_each
ghost-ask_each a = fit_questions

abbrev pub ghost-ask_each-2 : goal.ghost-ask_each-2
ghost-ask_each-2 a = read_questions (closure.captures a.ask).way
