use Rattle.std.proofs.Common.{◌≡◌, length}
use Rattle.drive_script.specs.Reading.{behind}
use Rattle.drive_script.proofs.cursor.behind.Given as goal

-- the rest of the literal stands at the rest of the bytes as the literal does at the bytes
abbrev pub invariant-loop-wanted : goal.invariant-loop-wanted
invariant-loop-wanted l = behind l.wanted l.rest ≡ behind l.fn.literal l.fn.bytes

abbrev pub decreases-loop-wanted : goal.decreases-loop-wanted
decreases-loop-wanted l = length l.wanted
