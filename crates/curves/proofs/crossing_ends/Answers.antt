use Rattle.curves.proofs.crossing_ends.Goals as goal
use Rattle.curves.proofs.Crossings.{crossing_ends, crossing_in_the_middle}

pub returns-clause-ends : goal.returns-clause-ends
returns-clause-ends c = crossing_ends

pub returns-clause-middle : goal.returns-clause-middle
returns-clause-middle c = crossing_in_the_middle
