-- The worked examples, computed from the definitions.
use Rattle.std.proofs.Common.{◌≡◌, ℕ, List, refl, ap, ◌∙◌}
use Rattle.std.proofs.lemmas.Bool.{lt-leb}
use Rattle.curves.specs.Sums.{total, greatest, lowest, highest}
use Rattle.curves.specs.Curves.{curve, figures}
use Rattle.curves.specs.Crossing.{crossing_middle}
use Rattle.curves.specs.Orders.{Bid, demand, supply}
use Rattle.curves.proofs.Prices.{curve_figures}
use Rattle.ticks.specs.Ticks.{highest_tick}
use Rattle.rules.specs.Prices.{crossing, principles, smallest, principles_price}
use Rattle.rules.specs.Examples.{Examples, price_of, at_a_limit, demand_left_over, between_limits, one_pair}

-- a price from the figures of all ticks is one from demand and supply
from_figures : (price : (ℕ → ℕ) → (ℕ → ℕ) → ℕ) (bs : List Bid) →
    price (curve (figures highest_tick (demand highest_tick bs))) (curve (figures highest_tick (supply highest_tick bs)))
    ≡ price (demand highest_tick bs) (supply highest_tick bs)
from_figures price bs =
    ap (λ (D : ℕ → ℕ). price D (curve (figures highest_tick (supply highest_tick bs)))) (curve_figures highest_tick (demand highest_tick bs) (λ p h. rw (lt-leb p highest_tick h) refl))
    ∙ ap (λ (S : ℕ → ℕ). price (demand highest_tick bs) S) (curve_figures highest_tick (supply highest_tick bs) (λ p h. rw (lt-leb p highest_tick h) refl))

by_crossing : (bs : List Bid) → price_of crossing bs 0 ≡ crossing_middle highest_tick (demand highest_tick bs) (supply highest_tick bs)
by_crossing bs = from_figures (crossing_middle highest_tick) bs

by_principles : (bs : List Bid) (reference : ℕ) → price_of principles bs reference ≡ principles_price highest_tick (demand highest_tick bs) (supply highest_tick bs) reference
by_principles bs reference = from_figures (λ D S. principles_price highest_tick D S reference) bs

pub examples : Examples
unfolding total greatest lowest highest smallest
examples =
    record {
      first = (refl, by_crossing at_a_limit);
      second = (refl, by_crossing demand_left_over);
      third = (refl, by_crossing between_limits);
      pair = (refl, by_crossing one_pair);
      near = by_principles one_pair 45;
      far = by_principles one_pair 10;
      shared = refl;
    }
