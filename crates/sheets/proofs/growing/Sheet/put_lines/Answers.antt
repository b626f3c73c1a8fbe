use Rattle.std.proofs.Common.{◌<◌, get_or}
use Rattle.std.proofs.lemmas.Bool.{and_parts, ltb-true}
use Rattle.orders.specs.Settlement.{member_places}
use Rattle.orders.specs.Kept.{no_line}
use Rattle.sheets.proofs.Growths.{marks_next, marks_all, rows_more, rows_end}
use Rattle.sheets.proofs.growing.Sheet.put_lines.Goals as goal

pub loop-line-preserved : goal.loop-line-preserved
loop-line-preserved c =
    let ls = c.args.lines.now in
    let i = c.loop-line.line-index in
    let lt = c.loop-line-test.true in
    let b : (get_or ls i no_line).member < member_places = ltb-true _ _ (and_parts _ _ (c.requires i lt)).0 in (
      rows_more ls i _ _ _ lt c.in_ok-put_line.ensures c.loop-line.invariant.0,
      λ seen h. marks_next seen ls i _ c.loop-line.self.traded c.from.ensures lt c.loop-line.self.marked b (c.loop-line.invariant.1 seen h),
    )

pub returns : goal.returns
returns c =
    let ls = c.args.lines.now in
    let i = c.loop-line.line-index in
    let ended = c.loop-line-test.false in
    record {
      text = rows_end ls i _ _ ended c.loop-line.invariant.0;
      marks = λ seen h. marks_all seen ls i c.loop-line.self.traded ended (c.loop-line.invariant.1 seen h);
    }
