use Rattle.drive_script.proofs.Laws.{one_first_bad_line, bad_line_no_script}
use Rattle.drive_script.proofs.facts.one_first_bad_line.Goals as goal

pub returns-clause-same : goal.returns-clause-same
returns-clause-same c = one_first_bad_line

pub returns-clause-no_script : goal.returns-clause-no_script
returns-clause-no_script c = bad_line_no_script
