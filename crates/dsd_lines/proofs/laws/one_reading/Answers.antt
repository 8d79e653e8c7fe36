use Rattle.dsd_lines.proofs.Exact.{one_said, line_no_newline}
use Rattle.dsd_lines.proofs.laws.one_reading.Goals as goal

pub returns-clause-same : goal.returns-clause-same
returns-clause-same c = one_said

pub returns-clause-no_newline : goal.returns-clause-no_newline
returns-clause-no_newline c = line_no_newline
