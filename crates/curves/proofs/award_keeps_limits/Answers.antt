use Rattle.curves.proofs.award_keeps_limits.Goals as goal
use Rattle.curves.proofs.Awards.{award_keeps_limits}

pub returns : goal.returns
returns c = award_keeps_limits
