use Rattle.std.proofs.Common.{◌≡◌, ℕ, List, take, Ok, Err, Result, sym, ap, ◌∙◌, subst}
use Rattle.std.proofs.lemmas.Result.{IfOk-weaker}
use Rattle.book.specs.declared.values.Header.{Header}
use Rattle.book.specs.declared.values.Entry.{Entry}
use Rattle.book.specs.declared.fault.Fault.{Fault}
use Rattle.book.specs.Reading.{entries, read_book}
use Rattle.book.proofs.Fronts.{read_of_input}
use Rattle.sheets.specs.Calls.{calls_of}
use Rattle.sheets.specs.Sheet.{sheet_read, RightRead}
use Rattle.sheets.proofs.books.sheet.Goals as goal

pub returns-in-Ok : goal.returns-in-Ok
returns-in-Ok c =
    let reads = c.in-Ok.ensures.reads in
    let at : (input : List ℕ) → c.args.bytes.now ≡ take 24577 input → read_book input ≡ Ok (c.in-Ok.book.header, entries c.in-Ok.book.rest.now) =
    λ input e. read_of_input c.args.bytes.now input e ∙ reads in
    record {
      text = λ input e. IfOk-weaker c.opened.result _ _ (λ t q. q ∙ sym (ap sheet_read (at input e))) c.opened.ensures;
      right = λ input e. subst (λ (r : Result (Header × List Entry) Fault). RightRead r) (sym (at input e))
          (c.every_way_holds.ensures c.in-Ok.book.header c.in-Ok.book.header.period (calls_of (entries c.in-Ok.book.rest.now)));
    }

pub returns-in-Err : goal.returns-in-Err
returns-in-Err c =
    let at : (input : List ℕ) → c.args.bytes.now ≡ take 24577 input → read_book input ≡ Err c.in-Err.fault =
    λ input e. read_of_input c.args.bytes.now input e ∙ c.in-Err.ensures.reads in
    record {
      text = λ input e. IfOk-weaker c.fault_text.result _ _ (λ t q. q ∙ sym (ap sheet_read (at input e))) c.fault_text.ensures;
      right = λ input e. subst (λ (r : Result (Header × List Entry) Fault). RightRead r) (sym (at input e)) tt;
    }
