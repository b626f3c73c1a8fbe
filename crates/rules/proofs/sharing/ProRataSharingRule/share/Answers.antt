use Rattle.std.proofs.Common.{◌∙◌, arith}
use Rattle.rules.specs.Quotas.{parts_fit, nothing_shared, pro_rata_by}
use Rattle.rules.proofs.sharing.ProRataSharingRule.share.Goals as goal

pub returns-then-whole-eq0 : goal.returns-then-whole-eq0
returns-then-whole-eq0 c = nothing_shared c.args.amount c.args.group.now (omega arith)

pub overflow_sub-left_over : goal.overflow_sub-left_over
overflow_sub-left_over c = omega (arith, c.sure_total.ensures, parts_fit c.args.group.now c.total-whole.result c.min-amount.result c.total-whole.ensures (omega arith))

pub returns : goal.returns
returns c = c.share_by_turns.ensures ∙ pro_rata_by c.args.amount c.args.group.now c.total-whole.result c.min-amount.result c.sure_total.result c.total-whole.ensures c.min-amount.ensures c.sure_total.ensures
