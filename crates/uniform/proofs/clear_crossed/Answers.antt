use Rattle.std.proofs.Common.{◌≡◌, ℕ, true, ltb, List, length, refl, ap, ◌∙◌, subst, arith}
use Rattle.curves.specs.Orders.{demand, supply}
use Rattle.ticks.specs.Ticks.{highest_tick}
use Rattle.orders.specs.declared.order.Order.{Order}
use Rattle.orders.specs.Settlement.{Session, with_ranked_lines}
use Rattle.orders.specs.Held.{session_of}
use Rattle.orders.specs.Kept.{Sound}
use Rattle.steps.specs.Uniform.{standing_bids, uniform_volume, uniform_price}
use Rattle.uniform.specs.Margins.{MadeBy}
use Rattle.uniform.proofs.Award.{round_ready}
use Rattle.uniform.proofs.Cleared.{volume_seen, asked, made_seen, round_settles}
use Rattle.uniform.proofs.clear_crossed.Given.{Over}
use Rattle.uniform.proofs.clear_crossed.Goals.{After-new-margins}
use Rattle.uniform.proofs.clear_crossed.Goals as goal

-- the orders that the margins are made of are sound, and the margins are those of V
made : (g : Over) (c : After-new-margins g) → let os = (session_of c.clear_lines.new.self).orders in
    Sound os (length os)
    × MadeBy g.S.SharingRule.meaning (demand highest_tick (standing_bids os)) (supply highest_tick (standing_bids os)) os c.new-margins.result
made g c =
    let figures = c.figures-figures.result in
    let same = c.placed.ensures.is in (
      subst (λ (z : List Order). Sound z (length z)) same c.placed.ensures.sound,
      made_seen _ figures.demand figures.supply c.figures-figures.ensures.demand c.figures-figures.ensures.supply
          g.S.SharingRule.meaning c.placed.result.now c.new-margins.result same c.new-margins.ensures,
    )

pub trade_all-requires : goal.trade_all-requires
trade_all-requires g c =
    let s = session_of c.clear_lines.new.self in
    let known = made g (goal.at.trade_all-requires g c).After-new-margins in
    round_ready g.S.SharingRule.meaning g.met.S.SharingRule.shares s.orders known.0 c.new-margins.result known.1 s refl
    (ap (λ (z : Session). z.lines) c.clear_lines.ensures) (omega (arith, ap length c.placed.ensures.is, c.placed.ensures.count))

pub returns : goal.returns
returns g c =
    let before = session_of c.args.tables.now in
    let s = session_of c.clear_lines.new.self in
    let os = s.orders in
    let figures = c.figures-figures.result in
    let wanted = c.figures-figures.ensures.demand in
    let offered = c.figures-figures.ensures.supply in
    let price = g.P.PriceRule.meaning in
    let r = c.args.reference.value in
    let known = made g (goal.at.returns g c).After-new-margins in
    let some : ltb 0 (uniform_volume os) ≡ true = ap (λ (z : Session). ltb 0 (uniform_volume z.orders)) c.clear_lines.ensures ∙ c.requires in
    let is : c.price-tick.result.value ≡ uniform_price price r os =
    asked os figures.demand figures.supply wanted offered price r c.price-tick.result.value some c.price-tick.ensures in
    record {
      answer =
          ap (λ (z : ℕ). (z, c.value.result)) (c.volume.ensures ∙ volume_seen os figures.demand figures.supply wanted offered)
          ∙ ap (λ (z : ℕ). (uniform_volume os, z)) (c.value.ensures.is ∙ is)
          ∙ ap (λ (z : Session). (uniform_volume z.orders, uniform_price price r z.orders)) c.clear_lines.ensures;
      after =
          c.rank_lines.ensures
          ∙ ap with_ranked_lines c.trade_all.ensures
          ∙ round_settles price g.S.SharingRule.meaning g.met.S.SharingRule.shares r c.price-tick.result.value before s c.new-margins.result
          c.clear_lines.ensures known.0 known.1 some is;
    }
