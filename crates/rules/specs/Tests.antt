-- The tests of ticks that the principles make, from figures.
use Rattle.std.specs.Prelude.{ℕ, Bool, cond}
use Rattle.ticks.specs.declared.figures.Figures.{Figures}
use Rattle.ticks.specs.Seen.{demand_of, supply_of, greatest_volume}
use Rattle.rules.specs.Prices.{candidate, kept_ticks, over, under}

-- a limit where V can trade
abbrev pub candidates : Figures → ℕ → Bool
candidates f = candidate (greatest_volume f) (demand_of f) (supply_of f)

-- one of them with unbalance u
abbrev pub kept_of : Figures → ℕ → ℕ → Bool
kept_of f u = kept_ticks (greatest_volume f) u (demand_of f) (supply_of f)

-- one of these with demand above supply, or with supply above demand
abbrev pub leaning : Bool → Figures → ℕ → ℕ → Bool
leaning more f u = cond more (over (kept_of f u) (demand_of f) (supply_of f)) (under (kept_of f u) (demand_of f) (supply_of f))
