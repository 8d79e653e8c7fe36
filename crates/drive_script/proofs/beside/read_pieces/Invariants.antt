use Rattle.std.proofs.Common.{◌≡◌, ℕ, List, ◌++◌, length}
use Rattle.drive_script.specs.Script.{lines_of}
use Rattle.drive_script.specs.Texts.{StandsBehind}
use Rattle.drive_script.proofs.beside.read_pieces.Given as goal

-- the progress stands behind the lines so far, and the rest has the others
abbrev pub invariant-loop-rest : goal.invariant-loop-rest
invariant-loop-rest g l = (done : List (List ℕ)) × (lines_of l.bytes ≡ done ++ lines_of l.rest) × StandsBehind done l.progress

abbrev pub decreases-loop-rest : goal.decreases-loop-rest
decreases-loop-rest g l = length l.rest
