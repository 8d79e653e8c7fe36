use Rattle.std.proofs.Common.{length}
use Rattle.drive_script.specs.Reading.{fixed_at}
use Rattle.drive_script.specs.Texts.{values_of}
use Rattle.drive_script.proofs.Spaced.{ItemsLeft}
use Rattle.drive_script.proofs.cursor.Cursor.values.Given as goal

abbrev pub invariant-loop-self : goal.invariant-loop-self
invariant-loop-self l = ItemsLeft fixed_at l.fn.self.rest.now (values_of l.values.items) l.self.rest.now

abbrev pub decreases-loop-self : goal.decreases-loop-self
decreases-loop-self l = length l.self.rest.now
