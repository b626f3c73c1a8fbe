use Rattle.std.proofs.Common.{◌++◌, Some, sym, ap, ◌∙◌}
use Rattle.book.proofs.Fronts.{read_of_input}
use Rattle.clearing.specs.Sheet.{fault_line, fault_text}
use Rattle.clearing.proofs.fault_sheet.Goals as goal

pub returns-in_default : goal.returns-in_default
returns-in_default c input e = ap fault_text (read_of_input c.args.bytes.now input e ∙ c.in_default.ensures.reads)

pub returns : goal.returns
returns c input e =
    ap fault_text (read_of_input c.args.bytes.now input e ∙ c.in-Err.ensures.reads) ∙ ap Some (sym (c.in_ok-append_fault.ensures ∙ ap (λ l. l ++ fault_line c.in-Err.fault) c.new-out.ensures.bytes))
