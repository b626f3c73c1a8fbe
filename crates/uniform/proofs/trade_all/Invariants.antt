use Rattle.std.proofs.Common.{◌≡◌}
use Rattle.orders.specs.Held.{session_of}
use Rattle.uniform.specs.Margins.{margins_at, grants, traded_to}
use Rattle.uniform.proofs.trade_all.Given as goal

abbrev pub invariant-loop-place : goal.invariant-loop-place
invariant-loop-place l =
    (session_of l.tables
    ≡ traded_to l.price.value (session_of l.initial.tables) (grants l.initial.margins (session_of l.initial.tables).orders) l.place)
    × (l.margins ≡ margins_at l.initial.margins (session_of l.initial.tables).orders l.place)
