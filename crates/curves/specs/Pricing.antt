-- What a price rule means, and its law.
use Rattle.std.specs.Prelude.{◌≡◌, ℕ, suc, ◌<◌, ◌≤◌, List, length}
use Rattle.curves.specs.Curves.{Curves, executable, volume, figures, curve}
use Rattle.curves.specs.Orders.{Bid, demand, supply, clearing_volume}

-- from demand and supply at each tick and the reference price to a tick
abbrev pub PriceMeaning : Type 0
PriceMeaning = List ℕ → List ℕ → ℕ → ℕ

-- where V is above 0 the answer is a tick, and the executable volume there is V
abbrev pub PriceLaw : ℕ → PriceMeaning → Type 0
PriceLaw top price =
    (d s : List ℕ) (reference : ℕ) → length d ≡ suc top → length s ≡ suc top → Curves top (curve d) (curve s) →
    0 < volume top (curve d) (curve s) →
    (price d s reference ≤ top) × (executable (curve d) (curve s) (price d s reference) ≡ volume top (curve d) (curve s))

-- the price that a rule gives to a list of orders
abbrev pub price_by : PriceMeaning → ℕ → List Bid → ℕ → ℕ
price_by price top bs reference = price (figures top (demand top bs)) (figures top (supply top bs)) reference

-- ---- theorems

-- whatever lawful rule gives the price of orders whose V is above 0, it is a tick with executable volume V
abbrev pub PriceOfRule : Type 0
PriceOfRule =
    (top : ℕ) (price : PriceMeaning) → PriceLaw top price → (bs : List Bid) (reference : ℕ) → 0 < clearing_volume top bs →
    (price_by price top bs reference ≤ top)
    × (executable (demand top bs) (supply top bs) (price_by price top bs reference) ≡ clearing_volume top bs)
