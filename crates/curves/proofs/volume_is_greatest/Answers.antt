use Rattle.curves.proofs.volume_is_greatest.Goals as goal
use Rattle.curves.proofs.Crossings.{volume_is_greatest}

pub returns : goal.returns
returns c = volume_is_greatest
