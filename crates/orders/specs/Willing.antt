-- What one order adds to demand or supply, and to what stands at a limit.
use Rattle.std.specs.Prelude.{ℕ, Bool, cond, ◌&&◌, ◌==◌}
use Rattle.curves.specs.Orders.{Bid, on, keeps}

-- on its side, at a tick that keeps its limit
abbrev pub willing_at : Bool → ℕ → Bid → ℕ
willing_at side p b = cond (on side b && keeps side b.limit p) b.left 0

-- on its side, at its own limit
abbrev pub limited_at : Bool → ℕ → Bid → ℕ
limited_at side l b = cond (on side b && b.limit == l) b.left 0

-- on its side, at any limit
abbrev pub standing_on : Bool → Bid → ℕ
standing_on side b = cond (on side b) b.left 0
