use Rattle.std.proofs.Common.{◌≡◌, ◌*◌, ◌%◌, ◌^◌, ◌<◌, cond, length, get_or, take, ap, ◌∙◌, arith, rules}
use Rattle.std.proofs.lemmas.Nat.{or_lt, mod_below, pow_pos}
use Rattle.std.proofs.lemmas.List.{take_all}
use Rattle.orders.specs.Settlement.{member_places}
use Rattle.orders.specs.Kept.{no_line}
use Rattle.orders.specs.Members.{has_line, distinct_members}
use Rattle.orders.proofs.Marks.{marked_more, ones_members}
use Rattle.orders.proofs.tables.Tables.member_count.Goals as goal

pub loop-line-preserved : goal.loop-line-preserved
loop-line-preserved c =
    let ls = c.lines-line-items.result.now in
    let i = c.loop-line.line-index in
    let lt : i < length ls = omega arith in
    let m = (get_or ls i no_line).member in
    let fits : m < member_places = search (rules, c.lines-line-items.ensures.sound i lt) in (
      or_lt 64 c.loop-line.members ((1 * 2 ^ m) % 2 ^ 64) c.loop-line.invariant.0 (mod_below (1 * 2 ^ m) (2 ^ 64) (pow_pos 64)),
      marked_more ls i c.loop-line.members lt fits c.loop-line.invariant.1,
    )

pub returns : goal.returns
returns c =
    let ls = c.lines-line-items.result.now in
    let e : take c.loop-line.line-index ls ≡ ls = take_all c.loop-line.line-index ls (omega arith) in
    ones_members ls c.loop-line.members c.loop-line.invariant.0 (λ j. c.loop-line.invariant.1 j ∙ ap (λ z. cond (has_line z j) 1 0) e)
    ∙ ap distinct_members c.lines-line-items.ensures.is
