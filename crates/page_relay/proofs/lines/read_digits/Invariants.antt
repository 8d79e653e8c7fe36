use Rattle.std.proofs.Common.{◌≡◌, ◌++◌, ◌-◌, replicate}
use Rattle.page_relay.specs.Reading.{all_places}
use Rattle.page_relay.proofs.lines.read_digits.Given as goal

abbrev pub invariant-loop-places : goal.invariant-loop-places
invariant-loop-places l = l.digits.items ++ replicate (9 - l.places) 48 ≡ all_places l.fn.text

abbrev pub decreases-loop-places : goal.decreases-loop-places
decreases-loop-places l = 9 - l.places
