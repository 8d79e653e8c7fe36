use Rattle.dsd_writer.proofs.Best.{best_lines, lines_within}
use Rattle.dsd_writer.proofs.laws.lines_are_within_and_fewest.Goals as goal

pub returns-clause-within : goal.returns-clause-within
returns-clause-within c = lines_within

pub returns-clause-best : goal.returns-clause-best
returns-clause-best c = best_lines
