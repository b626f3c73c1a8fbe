-- What the contract's own rules mean.
use Rattle.std.specs.Prelude.{ℕ, suc, ◌+◌, ◌-◌, ◌/◌, ◌^◌, ◌&&◌, ◌||◌, ◌==◌, nat_eq, nat_lt}
use Rattle.curves.specs.Sums.{lowest}
use Rattle.curves.specs.Curves.{curve, executable, volume}
use Rattle.curves.specs.Pricing.{PriceMeaning}
use Rattle.curves.specs.Sharing.{SharingMeaning}
use Rattle.ranking.specs.Orders.{OrderRank, earlier}
use Rattle.ticks.specs.Ticks.{highest_tick}
use Rattle.rules.specs.Pairs.{PairMeaning}
use Rattle.turns.specs.Turns.{by_turns}

-- the lowest tick at which V can trade
abbrev pub lowest_clearing : PriceMeaning
lowest_clearing d s reference = lowest (suc highest_tick) (λ p. nat_eq (executable (curve d) (curve s) p) (volume highest_tick (curve d) (curve s)))

-- a key that is larger for the smaller quantity
abbrev pub smallness : ℕ → ℕ
smallness q = 2 ^ 32 - q

-- the smallest first, then the earlier
abbrev pub smallest_first : SharingMeaning
smallest_first = by_turns (λ q. 0) smallness (λ q. q)

-- a third of the way from the sell's limit to the buy's, rounded down
abbrev pub third_of_the_way : PairMeaning
third_of_the_way buy sell _ = sell + (buy - sell) / 3

-- equal limits by what is left, the larger first, then the earlier
abbrev pub larger_left : OrderRank
larger_left x y = nat_lt y.left x.left || (x.left == y.left && earlier x y)
