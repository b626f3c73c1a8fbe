use Rattle.std.proofs.Common.{◌≡◌, max}
use Rattle.ticks.specs.Seen.{demand_of, supply_of}
use Rattle.ticks.specs.Ticks.{highest_tick}
use Rattle.rules.specs.Prices.{smallest, unbalance}
use Rattle.rules.specs.Tests.{candidates}
use Rattle.rules.proofs.principles.least_unbalance.Given as goal

abbrev pub invariant-loop-value : goal.invariant-loop-value
invariant-loop-value l =
    let f = l.candidate.figures.now in
    l.least ≡ smallest l.value (candidates f) (unbalance (demand_of f) (supply_of f)) (max (demand_of f 0) (supply_of f highest_tick))
