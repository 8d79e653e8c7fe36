use Rattle.std.proofs.Common.{length}
use Rattle.dsd_lines.specs.Reading.{number_of}
use Rattle.dsd_lines.specs.Texts.{pieces_left}
use Rattle.dsd_lines.proofs.Loops.{ReadSoFar}
use Rattle.dsd_lines.proofs.line_parts.read_counts.Given as goal

abbrev pub invariant-loop-text : goal.invariant-loop-text
invariant-loop-text l = ReadSoFar number_of (pieces_left l.fn.texts) l.counts.items (pieces_left l.texts)

abbrev pub decreases-loop-text : goal.decreases-loop-text
decreases-loop-text l = length (pieces_left l.texts)
