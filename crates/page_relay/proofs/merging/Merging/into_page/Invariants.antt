use Rattle.std.proofs.Common.{◌≡◌, map}
use Rattle.page_relay.specs.Gathering.{family_so_far}
use Rattle.page_relay.specs.Values.{family_of}
use Rattle.page_relay.proofs.merging.Merging.into_page.Given as goal

abbrev pub invariant-loop-family : goal.invariant-loop-family
invariant-loop-family l = map family_of l.families.items ≡ map family_so_far l.yielded
