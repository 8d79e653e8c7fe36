use Rattle.std.proofs.Common.{length}
use Rattle.page_relay.specs.Fitting.{so_far}
use Rattle.page_relay.proofs.Readers.{ReadSoFar}
use Rattle.page_relay.proofs.reader.read_pages.Given as goal

abbrev pub invariant-loop-text : goal.invariant-loop-text
invariant-loop-text l = ReadSoFar l.bytes l.rest l.line (so_far l.progress)

abbrev pub decreases-loop-text : goal.decreases-loop-text
decreases-loop-text l = length l.rest
