use Rattle.history.specs.Histories.{HistoriesHold}
use Rattle.sheets.proofs.Ways.{every_way}
use Rattle.sheets.proofs.books.every_way_holds.Goals as goal

pub returns : goal.returns
returns c =
    every_way HistoriesHold c.uniform_sessions_hold.ensures c.uniform_sessions_hold-2.ensures c.uniform_sessions_hold-3.ensures
    c.uniform_sessions_hold-4.ensures c.uniform_sessions_hold-5.ensures c.uniform_sessions_hold-6.ensures
    c.paired_sessions_hold.ensures c.paired_sessions_hold-2.ensures c.paired_sessions_hold-3.ensures c.continuous_sessions_hold.ensures
