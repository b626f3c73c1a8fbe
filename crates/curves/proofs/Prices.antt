-- The price that a lawful rule gives to a list of orders clears V.
use Rattle.std.proofs.Common.{◌≡◌, ℕ, suc, ◌<◌, ◌≤◌, length, sym, ◌∙◌, subst, inl, inr, arith}
use Rattle.std.proofs.lemmas.Bool.{cases_lt}
use Rattle.std.proofs.lemmas.List.{get_or_past}
use Rattle.std.proofs.lemmas.List.FromFn.{length-map-range_with_len, get_or-map-range_with_len}
use Rattle.curves.specs.Curves.{Curves, executable, volume, figures, curve}
use Rattle.curves.specs.Orders.{demand, supply}
use Rattle.curves.specs.Pricing.{price_by, PriceOfRule}
use Rattle.curves.proofs.Orders.{orders_make_curves}

pub length_figures : (top : ℕ) (f : ℕ → ℕ) → length (figures top f) ≡ suc top
unfolding figures
length_figures top f = length-map-range_with_len f 0 (suc top)

-- figures that end with the ticks are the whole curve
pub curve_figures : (top : ℕ) (f : ℕ → ℕ) → ((p : ℕ) → top < p → f p ≡ 0) → curve (figures top f) ≡ f
unfolding figures
curve_figures top f ends = λ i p. at p i
  where
    at : (p : ℕ) → curve (figures top f) p ≡ f p
    at p =
        elim (cases_lt top p) [
          | inl past ↦ get_or_past (figures top f) p 0 (omega (arith, length_figures top f)) ∙ sym (ends p past)
          | inr tick ↦ get_or-map-range_with_len f 0 (suc top) p p 0 (omega arith) (omega arith)
        ]

-- what a price rule has to show of the tick p
abbrev Clears : ℕ → ℕ → (ℕ → ℕ) → (ℕ → ℕ) → Type 0
Clears top p D S = (p ≤ top) × (executable D S p ≡ volume top D S)

pub price_of_rule : PriceOfRule
price_of_rule top price law bs reference some =
    let c = orders_make_curves top bs in
    let d = curve_figures top (demand top bs) c.demand_ends in
    let s = curve_figures top (supply top bs) c.supply_ends in
    subst (λ (D : ℕ → ℕ). Clears top (price_by price top bs reference) D (supply top bs)) d
    (subst (λ (S : ℕ → ℕ). Clears top (price_by price top bs reference) (curve (figures top (demand top bs))) S) s
    (law (figures top (demand top bs)) (figures top (supply top bs)) reference (length_figures top (demand top bs)) (length_figures top (supply top bs))
    (subst (λ (D : ℕ → ℕ). Curves top D (curve (figures top (supply top bs)))) (sym d) (subst (λ (S : ℕ → ℕ). Curves top (demand top bs) S) (sym s) c))
    (subst (λ (D : ℕ → ℕ). 0 < volume top D (curve (figures top (supply top bs)))) (sym d) (subst (λ (S : ℕ → ℕ). 0 < volume top (demand top bs) S) (sym s) some))))
