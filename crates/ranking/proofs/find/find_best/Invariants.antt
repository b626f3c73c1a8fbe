use Rattle.std.proofs.Common.{◌≡◌}
use Rattle.ranking.specs.Best.{best_of}
use Rattle.ranking.proofs.find.find_best.Given as goal

abbrev pub invariant-loop-place : goal.invariant-loop-place
invariant-loop-place g l = l.best ≡ best_of g.T.Ranked.ahead l.place (g.S.Places.thing l.table)
