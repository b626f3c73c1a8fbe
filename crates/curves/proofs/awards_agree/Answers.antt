use Rattle.curves.proofs.awards_agree.Goals as goal
use Rattle.curves.proofs.Awards.{awards_agree}

pub returns : goal.returns
returns c = awards_agree
