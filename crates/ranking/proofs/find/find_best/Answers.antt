use Rattle.std.proofs.Common.{rules}
use Rattle.ranking.proofs.Bests.{best_found}
use Rattle.ranking.proofs.find.find_best.Goals as goal

pub returns-clause-best : goal.returns-clause-best
returns-clause-best g c = best_found g.T.Ranked.mark g.T.Ranked.ahead g.met.T.Ranked.ranks _ _ c.map.result (search rules)
