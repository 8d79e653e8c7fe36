use Rattle.drive_script.proofs.Growth.{no_next}
use Rattle.drive_script.proofs.progress.ScriptSoFar.take_line.Goals as goal

pub returns-in-None : goal.returns-in-None
returns-in-None c = λ lines h. no_next lines c.args.line.now (rw c.in-None.is at c.in_ok-read_line.ensures)

pub returns-in-Some : goal.returns-in-Some
returns-in-Some c = λ lines h. c.take.ensures lines c.args.line.now h (rw c.in-Some.is at c.in_ok-read_line.ensures)
