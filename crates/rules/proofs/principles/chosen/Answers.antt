use Rattle.std.proofs.Common.{◌≡◌, suc, ◌∙◌, arith, rules}
use Rattle.curves.specs.Sums.{lowest, highest}
use Rattle.ticks.specs.Ticks.{highest_tick}
use Rattle.ticks.specs.Seen.{demand_of, supply_of}
use Rattle.rules.specs.Prices.{over, under, clamp}
use Rattle.rules.specs.Tests.{kept_of}
use Rattle.rules.specs.Choosing.{none_kept, none_under, none_over, over_and_under}
use Rattle.rules.proofs.principles.chosen.Goals as goal
use Rattle.rules.proofs.principles.chosen.Goals.{in_default-via-in-Some+in_default, in_default-via-in_default}

pub returns-in_default : goal.returns-in_default
returns-in_default c =
    none_kept (suc highest_tick) _ _ _ _ _
    (λ p h. elim c.in_default.branch [
      | in_default-via-in-Some+in_default w ↦ w.in_default.ensures p (omega arith)
      | in_default-via-in_default w ↦ (rw w.in_default.is-0 at c.lowest_tick.ensures) p (omega arith)
    ])

pub returns-in_default-lowest_tick : goal.returns-in_default-lowest_tick
returns-in_default-lowest_tick c =
    c.highest_kept.ensures ∙ none_under (suc highest_tick) _ _ _ _ _ (omega (arith, c.if-kept-eq0.false)) (λ p h. c.in_default-lowest_tick.ensures p (omega arith))

pub returns-in_default-highest_tick : goal.returns-in_default-highest_tick
returns-in_default-highest_tick c =
    let low : c.in-Some-lowest_tick.low.value ≡ lowest (suc highest_tick) (kept_of c.args.kept.candidate.figures.now c.args.kept.least) = search rules in
    low ∙ none_over (suc highest_tick) _ _ _ _ _ (omega (arith, c.if-kept-eq0.false)) c.in-Some.under.value (omega (arith, c.in-Some.under.within)) c.in-Some.ensures.0 (λ p h. c.in_default-highest_tick.ensures p (omega arith))

pub returns : goal.returns
returns c =
    let f = c.args.kept.candidate.figures.now in
    let kept = kept_of f c.args.kept.least in
    let clamped : c.min-2.result.value ≡ clamp c.args.reference.value (highest (suc highest_tick) (over kept (demand_of f) (supply_of f))) (lowest (suc highest_tick) (under kept (demand_of f) (supply_of f))) = search rules in
    clamped
    ∙ over_and_under (suc highest_tick) _ _ _ _ _ (omega (arith, c.if-kept-eq0.false)) c.in-Some.under.value c.in-Some-highest_tick.over.value
    (omega (arith, c.in-Some.under.within)) c.in-Some.ensures.0 (omega (arith, c.in-Some-highest_tick.over.within)) c.in-Some-highest_tick.ensures.0
