use Rattle.std.proofs.lemmas.List.Elements.{All-rest}
use Rattle.std.proofs.Common.{◌<◌, length}
use Rattle.evmap_core.proofs.emptied.EmptiedIterator.next.Goals as goal

pub invariant_of-self : goal.invariant_of-self
invariant_of-self g c = record { within = All-rest (λ p. p < length c.args.self.now.map.now.entries) c.in_ok-place.place.now _ c.args.self.now.places.now c.in_ok-place.ensures.cases.0 c.args.self.now.within }
