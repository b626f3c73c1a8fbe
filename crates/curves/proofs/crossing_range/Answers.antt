use Rattle.curves.proofs.crossing_range.Goals as goal
use Rattle.curves.proofs.Crossings.{crossing_exists, crossing_clears}

pub returns-clause-exists : goal.returns-clause-exists
returns-clause-exists c = crossing_exists

pub returns-clause-clears : goal.returns-clause-clears
returns-clause-clears c = crossing_clears
