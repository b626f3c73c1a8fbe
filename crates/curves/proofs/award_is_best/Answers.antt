use Rattle.curves.proofs.award_is_best.Goals as goal
use Rattle.curves.proofs.Awards.{award_is_best}

pub returns : goal.returns
returns c = award_is_best
