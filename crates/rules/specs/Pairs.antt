-- What a pair price means, its law, and those that ship.
use Rattle.std.specs.Prelude.{ℕ, ◌≤◌, Bool, cond}
use Rattle.curves.specs.Crossing.{half_sum}

-- from the buy's limit, the sell's limit and whether the buy is the earlier to the price
abbrev pub PairMeaning : Type 0
PairMeaning = ℕ → ℕ → Bool → ℕ

-- where the limits meet, the price lies from the sell's limit to the buy's
abbrev pub PairLaw : PairMeaning → Type 0
PairLaw price = (buy sell : ℕ) (earlier : Bool) → sell ≤ buy → (sell ≤ price buy sell earlier) × (price buy sell earlier ≤ buy)

-- the buy's limit
abbrev pub buyers_price : PairMeaning
buyers_price buy sell earlier = buy

-- the sell's limit
abbrev pub sellers_price : PairMeaning
sellers_price buy sell earlier = sell

-- half the sum of the limits; a half rounds up
abbrev pub half_the_sum : PairMeaning
half_the_sum buy sell earlier = half_sum buy sell

-- the limit of the earlier order
abbrev pub earlier_orders_price : PairMeaning
earlier_orders_price buy sell earlier = cond earlier buy sell
