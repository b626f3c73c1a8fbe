use Rattle.std.proofs.Common.{arith}
use Rattle.sheets.specs.Sheet.{accounts_text}
use Rattle.sheets.proofs.Growths.{accounts_more, accounts_end}
use Rattle.sheets.proofs.growing.Sheet.put_accounts.Goals as goal

pub loop-member-preserved : goal.loop-member-preserved
loop-member-preserved g c =
    accounts_more c.loop-member.self.traded _ _ _ c.loop-member.member _ _ _ (omega arith) c.loop-member.invariant.1
    c.put_member.ensures.marks c.in_ok-put_member.ensures.text c.loop-member.invariant.0

pub returns : goal.returns
unfolding accounts_text
returns g c = accounts_end c.loop-member.self.traded _ c.loop-member.member _ _ (omega arith) c.loop-member.invariant.0
