use Rattle.std.proofs.Common.{◌∙◌, rules}
use Rattle.book.proofs.Faults.{fault_here, fault_later}
use Rattle.book.proofs.reading.ask_records.Goals as goal

pub returns-in-Err : goal.returns-in-Err
returns-in-Err c =
    fault_here c.args.way c.loop-rest.record c.word_of.result c.loop-rest.rest.now (search rules) c.word_of.ensures.value c.in-Err.question c.in-Err.ensures ∙ c.loop-rest.invariant.0

pub loop-rest-preserved : goal.loop-rest-preserved
loop-rest-preserved c = (
  fault_later c.args.way c.loop-rest.record c.word_of.result c.loop-rest.rest.now (search rules) c.word_of.ensures.value c.in_default-ask_record.ensures ∙ c.loop-rest.invariant.0,
  search rules,
)
