use Rattle.drive_script.proofs.Scripts.{late_bad, no_limit_bad, past_limit_bad, twice_bad}
use Rattle.drive_script.proofs.examples.series_limit_example.Goals as goal

pub returns-clause-nothing : goal.returns-clause-nothing
returns-clause-nothing c = no_limit_bad

pub returns-clause-past : goal.returns-clause-past
returns-clause-past c = past_limit_bad

pub returns-clause-twice : goal.returns-clause-twice
returns-clause-twice c = twice_bad

pub returns-clause-late : goal.returns-clause-late
returns-clause-late c = late_bad
