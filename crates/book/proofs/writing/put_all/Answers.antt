use Rattle.std.proofs.Common.{◌++◌, take, drop, refl, ap, ◌∙◌, arith, rules}
use Rattle.std.specs.List.{flat_map}
use Rattle.std.proofs.lemmas.List.{length-take-le}
use Rattle.packing.specs.Fields.{bytes}
use Rattle.book.specs.Writing.{entry_bytes, book_length}
use Rattle.book.proofs.Buffers.{put_more, put_done}
use Rattle.book.proofs.writing.put_all.Goals as goal

pub loop-i-preserved : goal.loop-i-preserved
loop-i-preserved c =
    c.put-in-loop-i.ensures ∙ put_more (take 6 c.put.new.out) c.put.new.out c.loop-i.out c.args.entries.now c.loop-i.i _ c.bytes_of-in-loop-i.result c.loop-i-test.true (c.bytes_of-in-loop-i.ensures ∙ ap bytes c.entry_word.ensures) (length-take-le 6 c.put.new.out (search rules)) (search rules) c.loop-i.invariant

pub returns-clause-bytes : goal.returns-clause-bytes
returns-clause-bytes c =
    put_done (bytes c.header_word.result) c.put.new.out c.args.out.now c.loop-i.out c.args.entries.now c.loop-i.i _ refl (c.put.ensures ∙ ap (λ l. l ++ drop 6 c.args.out.now) c.bytes_of.ensures) (search rules) (omega arith) c.loop-i.invariant ∙ ap (λ n. (bytes n ++ flat_map entry_bytes c.args.entries.now) ++ drop (book_length c.args.entries.now) c.args.out.now) c.header_word.ensures
