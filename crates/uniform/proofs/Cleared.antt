-- A round from its figures: V, the price and the lines are those of the standing orders.
use Rattle.std.proofs.Common.{◌≡◌, ℕ, true, ltb, List, [], length, sym, ap, ◌∙◌, subst}
use Rattle.std.proofs.lemmas.Bool.{cond-true}
use Rattle.curves.specs.Curves.{curve, figures, volume}
use Rattle.curves.specs.Orders.{demand, supply}
use Rattle.curves.specs.Pricing.{PriceMeaning, price_by}
use Rattle.curves.specs.Sharing.{SharingMeaning, SharingLaw}
use Rattle.curves.specs.Filling.{award_by}
use Rattle.curves.proofs.Orders.{orders_make_curves}
use Rattle.curves.proofs.Prices.{curve_figures}
use Rattle.ticks.specs.Ticks.{highest_tick}
use Rattle.orders.specs.declared.order.Order.{Order}
use Rattle.orders.specs.declared.order.Line.{Line}
use Rattle.orders.specs.Orders.{bids_of}
use Rattle.orders.specs.Settlement.{Session, cleared, settled, with_ranked_lines}
use Rattle.orders.specs.Kept.{Sound}
use Rattle.orders.proofs.Sessions.{settled_one_by_one}
use Rattle.steps.specs.Uniform.{standing_of, standing_bids, uniform_volume, uniform_price, uniform_lines, lines_at}
use Rattle.uniform.specs.declared.margin.Margins.{Margins}
use Rattle.uniform.specs.Margins.{grants, all_lines, posted_lines, MadeBy}
use Rattle.uniform.proofs.Standing.{demand_standing, supply_standing}
use Rattle.uniform.proofs.Award.{round_lines}

-- the figures of all orders are those of the standing ones
module _ (os : List Order) (d s : List ℕ)
    (wanted : d ≡ figures highest_tick (demand highest_tick (bids_of os))) (offered : s ≡ figures highest_tick (supply highest_tick (bids_of os))) where
  demand_seen : curve d ≡ demand highest_tick (standing_bids os)
  demand_seen =
      ap curve wanted ∙ curve_figures highest_tick (demand highest_tick (bids_of os)) (orders_make_curves highest_tick (bids_of os)).demand_ends
      ∙ demand_standing highest_tick os

  supply_seen : curve s ≡ supply highest_tick (standing_bids os)
  supply_seen =
      ap curve offered ∙ curve_figures highest_tick (supply highest_tick (bids_of os)) (orders_make_curves highest_tick (bids_of os)).supply_ends
      ∙ supply_standing highest_tick os

  pub volume_seen : volume highest_tick (curve d) (curve s) ≡ uniform_volume os
  volume_seen =
      ap (λ (z : ℕ → ℕ). volume highest_tick z (curve s)) demand_seen
      ∙ ap (λ (z : ℕ → ℕ). volume highest_tick (demand highest_tick (standing_bids os)) z) supply_seen

  price_seen : (price : PriceMeaning) (r : ℕ) → price d s r ≡ price_by price highest_tick (standing_bids os) r
  price_seen price r =
      ap (λ z. price z s r) (wanted ∙ ap (figures highest_tick) (demand_standing highest_tick os))
      ∙ ap (λ z. price (figures highest_tick (demand highest_tick (standing_bids os))) z r) (offered ∙ ap (figures highest_tick) (supply_standing highest_tick os))

  -- where something can trade, the rule is asked
  pub asked : (price : PriceMeaning) (r p : ℕ) → ltb 0 (uniform_volume os) ≡ true → p ≡ price d s r → p ≡ uniform_price price r os
  asked price r p some e = rw some (e ∙ price_seen price r)

  pub made_seen : (share : SharingMeaning) (orders : List Order) (ms : Margins) → orders ≡ os → MadeBy share (curve d) (curve s) orders ms →
      MadeBy share (demand highest_tick (standing_bids os)) (supply highest_tick (standing_bids os)) os ms
  made_seen share orders ms same made =
      subst (λ (z : List Order). MadeBy share (demand highest_tick (standing_bids os)) (supply highest_tick (standing_bids os)) z ms) same
      (subst (λ (z : ℕ → ℕ). MadeBy share (demand highest_tick (standing_bids os)) z orders ms) supply_seen
      (subst (λ (z : ℕ → ℕ). MadeBy share z (curve s) orders ms) demand_seen made))

-- lines that are posted in a session without lines, and then ranked, are settled
pub round_settles : (price : PriceMeaning) (share : SharingMeaning) (law : SharingLaw share) (r p : ℕ) (before s : Session) (ms : Margins) →
    s ≡ cleared before → Sound s.orders (length s.orders) →
    MadeBy share (demand highest_tick (standing_bids s.orders)) (supply highest_tick (standing_bids s.orders)) s.orders ms →
    ltb 0 (uniform_volume s.orders) ≡ true → p ≡ uniform_price price r s.orders →
    with_ranked_lines (posted_lines s (all_lines p s (grants ms s.orders))) ≡ settled (uniform_lines price share r before.orders) before
round_settles price share law r p before s ms e sound made some is =
    let os = s.orders in
    let award = award_by share highest_tick (standing_bids os) in
    let lines : all_lines p s (grants ms os) ≡ uniform_lines price share r os =
    round_lines share law os sound ms made p
    ∙ ap (λ z. lines_at z 0 (standing_of os) award) is
    ∙ sym (cond-true (ltb 0 (uniform_volume os)) (lines_at (uniform_price price r os) 0 (standing_of os) award) [] some) in
    ap (λ (z : List Line). with_ranked_lines (posted_lines s z)) lines
    ∙ ap (λ (z : Session). with_ranked_lines (posted_lines z (uniform_lines price share r z.orders))) e
    ∙ settled_one_by_one (uniform_lines price share r before.orders) before
