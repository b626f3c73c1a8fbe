-- The rules of the contract's paired and continuous sessions, together.
use Rattle.std.specs.Prelude.{true, false}
use Rattle.ranking.specs.Orders.{by_limit}
use Rattle.steps.specs.Pairing.{Pairs}
use Rattle.own_rules.specs.Meanings.{third_of_the_way, larger_left}

-- the better limit, then what is left, at a third of the way
abbrev pub thirds : Pairs
thirds = record { buys = by_limit true larger_left; sells = by_limit false larger_left; price = third_of_the_way }
