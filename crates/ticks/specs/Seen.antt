-- Demand and supply of figures, by tick; 0 past the highest. Their greatest executable volume, V.
use Rattle.std.specs.Prelude.{ℕ}
use Rattle.curves.specs.Curves.{curve, volume}
use Rattle.ticks.specs.Ticks.{highest_tick}
use Rattle.ticks.specs.declared.figures.Figures.{Figures}

-- demand at a tick
abbrev pub demand_of : Figures → ℕ → ℕ
demand_of f = curve f.demand

-- supply at a tick
abbrev pub supply_of : Figures → ℕ → ℕ
supply_of f = curve f.supply

-- V
abbrev pub greatest_volume : Figures → ℕ
greatest_volume f = volume highest_tick (demand_of f) (supply_of f)
