use Rattle.std.proofs.Common.{length}
use Rattle.dsd_lines.specs.Reading.{step_of}
use Rattle.dsd_lines.specs.Texts.{steps_of, pieces_left}
use Rattle.dsd_lines.proofs.Loops.{ReadSoFar}
use Rattle.dsd_lines.proofs.line_parts.read_steps.Given as goal

abbrev pub invariant-loop-text : goal.invariant-loop-text
invariant-loop-text l = ReadSoFar step_of (pieces_left l.fn.texts) (steps_of l.steps.items) (pieces_left l.texts)

abbrev pub decreases-loop-text : goal.decreases-loop-text
decreases-loop-text l = length (pieces_left l.texts)
