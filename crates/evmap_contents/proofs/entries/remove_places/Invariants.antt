use Rattle.std.proofs.Common.{◌≡◌, fold}
use Rattle.value_bags.specs.Entries.{with_keys}
use Rattle.evmap_contents.specs.Fold.{without_place}
use Rattle.evmap_contents.proofs.entries.remove_places.Given as goal

abbrev pub invariant-loop-place : goal.invariant-loop-place
invariant-loop-place g l = fold without_place (with_keys g.K.KeyClone.plain l.map.entries) l.place-iterator ≡ fold without_place (with_keys g.K.KeyClone.plain l.initial.map.entries) l.places
