use Rattle.curves.proofs.award_of_sharing.Goals as goal
use Rattle.curves.proofs.Filling.{award_of_sharing}

pub returns : goal.returns
returns c = award_of_sharing
