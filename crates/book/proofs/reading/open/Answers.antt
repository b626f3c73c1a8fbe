use Rattle.std.proofs.Common.{rules, sym, subst}
use Rattle.book.specs.Questions.{fault}
use Rattle.book.specs.Laws.{Faulty}
use Rattle.book.proofs.Faults.{short_told, word_told, record_told, book_reads, err_told}
use Rattle.book.proofs.RoundTrip.{read_is_only_writing, few, lawful, no_rounds}
use Rattle.book.proofs.reading.open.Goals as goal

pub returns-in_default-clause-tells : goal.returns-in_default-clause-tells
returns-in_default-clause-tells c = subst (Faulty c.args.s.now) (sym c.from.ensures) (short_told c.args.s.now (search rules)).tells

pub returns-in_err-ask_header-clause-tells : goal.returns-in_err-ask_header-clause-tells
returns-in_err-ask_header-clause-tells c =
    let q = c.in_err-ask_header.field-0.0 in
    err_told c.from_residual.result (fault q 0) _ _ c.from_residual.ensures.1 (word_told c.word_of-word.result c.args.s.now (search rules) c.word_of-word.ensures.value q c.in_err-ask_header.ensures).tells

pub returns-in_err-ask_records : goal.returns-in_err-ask_records
returns-in_err-ask_records c =
    let f = c.in_err-ask_records.field-0.0 in
    let t = record_told c.word_of-word.result c.args.s.now (search rules) c.word_of-word.ensures.value c.header_of-header.result c.header_of-header.ensures c.in_ok-ask_header.ensures f c.in_err-ask_records.ensures in
    let r = c.from_residual-in_err-ask_records in
    record { reads = err_told r.result f _ _ r.ensures.1 t.reads; tells = err_told r.result f _ _ r.ensures.1 t.tells; only = search rules; few = search rules }

pub invariant_of-result : goal.invariant_of-result
invariant_of-result c =
    let t = book_reads c.word_of-word.result c.args.s.now (search rules) c.word_of-word.ensures.value c.header_of-header.result c.header_of-header.ensures c.in_ok-ask_header.ensures c.in_ok-ask_records.ensures in
    record {
      few = few c.args.s.now _ _ (λ i. (c.type_inv.s i).fits) t.reads;
      lawful = lawful c.args.s.now _ _ t.reads;
      continuous = no_rounds c.args.s.now _ _ t.reads;
    }

pub returns : goal.returns
returns c =
    let t = book_reads c.word_of-word.result c.args.s.now (search rules) c.word_of-word.ensures.value c.header_of-header.result c.header_of-header.ensures c.in_ok-ask_header.ensures c.in_ok-ask_records.ensures in
    record {
      reads = t.reads;
      tells = t.tells;
      only = read_is_only_writing c.args.s.now _ _ (λ i. (c.type_inv.s i).fits) t.reads;
      few = few c.args.s.now _ _ (λ i. (c.type_inv.s i).fits) t.reads;
    }
