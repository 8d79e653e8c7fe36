use Rattle.std.proofs.Common.{length}
use Rattle.dsd_lines.specs.Reading.{millis_of}
use Rattle.dsd_lines.specs.Texts.{numbers_of, pieces_left}
use Rattle.dsd_lines.proofs.Loops.{ReadSoFar}
use Rattle.dsd_lines.proofs.line_parts.read_millis.Given as goal

abbrev pub invariant-loop-text : goal.invariant-loop-text
invariant-loop-text l = ReadSoFar millis_of (pieces_left l.fn.texts) (numbers_of l.values.items) (pieces_left l.texts)

abbrev pub decreases-loop-text : goal.decreases-loop-text
decreases-loop-text l = length (pieces_left l.texts)
