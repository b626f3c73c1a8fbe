use Rattle.std.proofs.Common.{◌≡◌, ◌-◌, ◌++◌, vec_items}
use Rattle.orders.specs.Held.{session_of}
use Rattle.sheets.specs.Sheet.{accounts_from}
use Rattle.sheets.specs.Growing.{marked}
use Rattle.sheets.proofs.growing.Sheet.put_accounts.Given as goal

abbrev pub invariant-loop-member : goal.invariant-loop-member
invariant-loop-member g l =
    (vec_items l.self.text ++ accounts_from (marked l.self.traded) (session_of l.session.tables).accounts (64 - l.member) l.member
    ≡ vec_items l.initial.self.text ++ accounts_from (marked l.initial.self.traded) (session_of l.session.tables).accounts 63 1)
    × (l.self.traded ≡ l.initial.self.traded)
