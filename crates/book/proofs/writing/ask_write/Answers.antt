use Rattle.std.proofs.Common.{◌∷◌, [], Some, None, ap, ◌∙◌}
use Rattle.book.specs.declared.fault.Question.TheVariants.{Fit}
use Rattle.book.specs.Questions.{first_no, fault}
use Rattle.book.proofs.Faults.{err_of}
use Rattle.book.proofs.RoundTrip.{write_asks}
use Rattle.book.proofs.writing.ask_write.Goals as goal

pub returns-in_err-ask_values : goal.returns-in_err-ask_values
returns-in_err-ask_values c =
    let q = c.in_err-ask_values.field-0.0 in
    let r = c.from_residual-in_err-ask_values in
    let fits = c.in_ok-ask.ensures ∙ ap (λ yes. first_no ((Fit, yes) ∷ [])) c.header_fits.ensures in
    err_of r.result (fault q 0) r.ensures.1 ∙ write_asks c.args.header c.args.entries.now c.args.len (Some q) fits c.in_ok-ask_each.ensures c.in_ok-ask-2.ensures c.in_err-ask_values.ensures

pub returns : goal.returns
returns c =
    let fits = c.in_ok-ask.ensures ∙ ap (λ yes. first_no ((Fit, yes) ∷ [])) c.header_fits.ensures in
    c.ask_each-2.ensures ∙ write_asks c.args.header c.args.entries.now c.args.len None fits c.in_ok-ask_each.ensures c.in_ok-ask-2.ensures c.in_ok-ask_values.ensures
