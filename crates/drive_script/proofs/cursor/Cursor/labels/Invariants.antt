use Rattle.std.proofs.Common.{length}
use Rattle.drive_script.specs.Reading.{label_at}
use Rattle.drive_script.proofs.Spaced.{ItemsLeft}
use Rattle.drive_script.proofs.cursor.Cursor.labels.Given as goal

abbrev pub invariant-loop-alloc : goal.invariant-loop-alloc
invariant-loop-alloc l = ItemsLeft label_at l.fn.self.rest.now l.labels.items l.self.rest.now

abbrev pub decreases-loop-alloc : goal.decreases-loop-alloc
decreases-loop-alloc l = length l.self.rest.now
