-- The session that the tables hold.
use Rattle.std.specs.Prelude.{take}
use Rattle.orders.specs.declared.tables.Tables.{Tables}
use Rattle.orders.specs.Settlement.{Session}

-- the orders numbered so far, the lines made so far, all accounts
abbrev pub session_of : Tables → Session
session_of t = record {
  orders = take t.count t.orders;
  accounts = t.accounts;
  lines = take t.made t.lines;
  period = t.period.quarters;
}
