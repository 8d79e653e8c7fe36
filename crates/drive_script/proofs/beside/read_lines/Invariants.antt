use Rattle.std.proofs.Common.{◌≡◌, ℕ, List, ◌++◌, length}
use Rattle.std.specs.List.{AllZip}
use Rattle.drive_script.specs.Runs.{said_so_far}
use Rattle.drive_script.specs.Script.{IsLine, lines_of}
use Rattle.drive_script.proofs.beside.read_lines.Given as goal

-- what was read is what the lines so far say, and the rest has the others
abbrev pub invariant-loop-rest : goal.invariant-loop-rest
invariant-loop-rest l = (done : List (List ℕ)) × (lines_of l.bytes ≡ done ++ lines_of l.rest) × AllZip IsLine done (said_so_far l.said.items l.calls.items)

abbrev pub decreases-loop-rest : goal.decreases-loop-rest
decreases-loop-rest l = length l.rest
