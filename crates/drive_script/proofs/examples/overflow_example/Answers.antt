use Rattle.drive_script.proofs.Scripts.{overflow_bad, counts_bad}
use Rattle.drive_script.proofs.examples.overflow_example.Goals as goal

pub returns-clause-series : goal.returns-clause-series
returns-clause-series c = overflow_bad

pub returns-clause-counts : goal.returns-clause-counts
returns-clause-counts c = counts_bad
