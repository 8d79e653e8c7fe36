use Rattle.std.proofs.Common.{◌≡◌, ◌++◌, length}
use Rattle.page_relay.specs.Reading.{escaped}
use Rattle.page_relay.proofs.cursor.Cursor.text.Given as goal

abbrev pub invariant-loop-self : goal.invariant-loop-self
invariant-loop-self l = l.fn.self.rest.now ≡ escaped l.in_label l.text.items ++ l.self.rest.now

abbrev pub decreases-loop-self : goal.decreases-loop-self
decreases-loop-self l = length l.self.rest.now
