use Rattle.std.proofs.Common.{length}
use Rattle.metrics_core.specs.Characters.{comma}
use Rattle.dsd_lines.specs.Reading.{pieces, tag_of}
use Rattle.dsd_lines.specs.Texts.{pieces_left}
use Rattle.dsd_lines.proofs.Loops.{ReadSoFar}
use Rattle.dsd_lines.proofs.tags.read_tags.Given as goal

abbrev pub invariant-loop-piece : goal.invariant-loop-piece
invariant-loop-piece l = ReadSoFar tag_of (pieces comma l.fn.text) l.tags.items (pieces_left l.pieces)

abbrev pub decreases-loop-piece : goal.decreases-loop-piece
decreases-loop-piece l = length (pieces_left l.pieces)
