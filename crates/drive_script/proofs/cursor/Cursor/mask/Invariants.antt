use Rattle.std.proofs.Common.{◌≡◌, length}
use Rattle.drive_script.specs.Reading.{mask_at, more_kinds_at}
use Rattle.drive_script.proofs.cursor.Cursor.mask.Given as goal

-- the whole is what the kinds so far and the rest are read as
abbrev pub invariant-loop-kind : goal.invariant-loop-kind
invariant-loop-kind l = mask_at l.fn.self.rest.now ≡ more_kinds_at l.mask l.self.rest.now

abbrev pub decreases-loop-kind : goal.decreases-loop-kind
decreases-loop-kind l = length l.self.rest.now
