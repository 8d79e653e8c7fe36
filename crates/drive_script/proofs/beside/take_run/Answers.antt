use Rattle.std.proofs.Common.{◌++◌}
use Rattle.std.specs.Prelude.{IfOk, IsTrue}
use Rattle.drive_script.specs.Texts.{line_of, StandsBehind}
use Rattle.drive_script.proofs.Runs.{one_said, only_taken}
use Rattle.drive_script.proofs.beside.take_run.Goals as goal

pub returns-in-Calls : goal.returns-in-Calls
returns-in-Calls c = λ done lines h said. c.take_calls.ensures done lines h (rw c.in-Calls.is at said)

pub returns-in-One : goal.returns-in-One
returns-in-One c = λ done lines h said.
    one_said (λ ls. IfOk c.take.result (λ taken. IsTrue taken → StandsBehind (done ++ ls) c.take.new.self)) lines (line_of c.in-One.says) (rw c.in-One.is at said)
    (λ line is_line. only_taken _ _ c.take.result (c.take.ensures done line h is_line))
