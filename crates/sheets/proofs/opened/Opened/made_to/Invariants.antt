use Rattle.std.proofs.Common.{◌≡◌, ◌+◌, vec_items}
use Rattle.std.specs.Iterator.Adapters.{enumerate_source, enumerate_count}
use Rattle.book.specs.Reading.{entries}
use Rattle.orders.specs.Held.{session_of}
use Rattle.sheets.specs.Calls.{calls_of, Suits}
use Rattle.sheets.proofs.SoFar.{SoFar}
use Rattle.sheets.proofs.opened.Opened.made_to.Given as goal

abbrev pub invariant-loop-i : goal.invariant-loop-i
invariant-loop-i g l =
    let left = entries (enumerate_source l.i-iterator).rest.now in
    SoFar (g.S.TakesOrders.way l.initial.session.rules) (session_of l.initial.session.tables) (session_of l.session.tables)
    (calls_of (entries l.initial.self.book.rest.now)) (calls_of left) (vec_items l.sheet.text) l.sheet.traded (enumerate_count l.i-iterator + 1)
    × (l.session.rules ≡ l.initial.session.rules)
    × Suits (g.S.TakesOrders.way l.session.rules) left
