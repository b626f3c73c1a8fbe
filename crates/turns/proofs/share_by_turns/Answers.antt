use Rattle.std.proofs.Common.{◌≡◌, ◌+◌, ◌<◌, cond, eqb, length, get_or, sym, refl, ap, ◌∙◌, arith}
use Rattle.std.proofs.lemmas.List.{ext_get_or}
use Rattle.turns.specs.Turns.{of_place, by_turns, got}
use Rattle.ticks.proofs.Steps.{total_none, front_more, back_more}
use Rattle.turns.proofs.Shares.{above_kept, turns_length, share_is, spare_taken, spare_kept}
use Rattle.turns.proofs.share_by_turns.Goals as goal
use Rattle.turns.proofs.share_by_turns.Goals.{then-key-level, else-key-level}

pub loop-quantity-init : goal.loop-quantity-init
loop-quantity-init g c =
    let key = of_place (g.T.Turns.key c.args.turns.now) c.args.group.now in
    let claim = of_place (g.T.Turns.claim c.args.turns.now) c.args.group.now in
    let above = above_kept (g.T.Turns.key c.args.turns.now) (g.T.Turns.claim c.args.turns.now) c.args.group.now c.level_of-level.result in
    (omega (arith, above, total_none (λ j. cond (eqb c.level_of-level.result (key j)) (claim j) 0)), λ k h. omega arith, λ k h. refl)

pub loop-quantity-preserved : goal.loop-quantity-preserved
loop-quantity-preserved g c =
    let sure = g.T.Turns.sure c.args.turns.now in
    let key = g.T.Turns.key c.args.turns.now in
    let claim = g.T.Turns.claim c.args.turns.now in
    let group = c.args.group.now in
    let i = c.loop-quantity.quantity-index in
    let h : i < length group = omega arith in
    let level = c.level_of-level.result in
    let spare = c.loop-quantity.spare in
    let out = c.level_of-level.ensures in
    let here : get_or c.loop-quantity.group i 0 ≡ get_or group i 0 = c.loop-quantity.invariant.2 i (omega arith) in
    let part : c.part_of-part.result ≡ got key claim level spare (get_or group i 0) = c.part_of-part.ensures ∙ ap (got key claim level spare) here in
    let its-key : c.key.result ≡ of_place key group i = c.key.ensures ∙ ap key here in
    let its-sure : c.sure.result ≡ of_place sure group i = c.sure.ensures ∙ ap sure here in
    let share : c.sure.result + c.part_of-part.result ≡ get_or (by_turns sure key claim c.args.amount group) i 0 =
    omega (arith, share_is sure key claim c.args.amount group level out i h spare c.loop-quantity.invariant.0) in (
      elim c.if-key-level.branch [
        | then-key-level w ↦
            omega (arith, w.spare-is, spare_taken sure key claim c.args.amount group level out i h spare c.loop-quantity.invariant.0 (omega (arith, w.if-key-level.true)))
        | else-key-level w ↦
            omega (arith, w.spare-is, spare_kept sure key claim c.args.amount group level out i h (λ e. omega (arith, w.if-key-level.false)))
      ],
      front_more c.loop-quantity.group (λ k. get_or (by_turns sure key claim c.args.amount group) k 0) i _ (omega arith) share c.loop-quantity.invariant.1,
      back_more c.loop-quantity.group (λ k. get_or group k 0) i _ c.loop-quantity.invariant.2,
    )

pub returns : goal.returns
returns g c =
    let sure = g.T.Turns.sure c.args.turns.now in
    let key = g.T.Turns.key c.args.turns.now in
    let claim = g.T.Turns.claim c.args.turns.now in
    let group = c.args.group.now in
    ext_get_or 0 _ _ (c.loop-quantity.auto.group ∙ sym (turns_length sure key claim c.args.amount group)) (λ k h. c.loop-quantity.invariant.1 k (omega arith))
