use Rattle.std.proofs.Common.{◌≡◌, ◌<◌, ◌++◌, length}
use Rattle.std.specs.Prelude.{flat_map}
use Rattle.drive_script.specs.Script.{lines_of}
use Rattle.drive_script.proofs.beside.first_pieces.Given as goal

-- the pieces so far have the first lines, and the rest has the others
abbrev pub invariant-loop : goal.invariant-loop
invariant-loop l = (lines_of l.bytes ≡ flat_map (λ lines. lines) l.pieces.items ++ lines_of l.rest) × (length l.rest < length l.bytes)
