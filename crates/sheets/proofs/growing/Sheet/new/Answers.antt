use Rattle.sheets.proofs.Growths.{marks_none}
use Rattle.sheets.proofs.growing.Sheet.new.Goals as goal

pub returns-clause-marks : goal.returns-clause-marks
returns-clause-marks c = marks_none
