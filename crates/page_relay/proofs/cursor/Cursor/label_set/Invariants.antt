use Rattle.std.proofs.Common.{length, map}
use Rattle.page_relay.specs.Values.{label_of}
use Rattle.page_relay.proofs.Labels.{SetSoFar}
use Rattle.page_relay.proofs.cursor.Cursor.label_set.Given as goal

abbrev pub invariant-loop-labels : goal.invariant-loop-labels
invariant-loop-labels l = SetSoFar l.fn.self.rest.now (map label_of l.labels.items) l.self.rest.now

abbrev pub decreases-loop-labels : goal.decreases-loop-labels
decreases-loop-labels l = length l.self.rest.now
