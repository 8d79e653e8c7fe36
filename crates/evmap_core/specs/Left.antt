-- What is left of the keys that a removal at random has marked.
use Rattle.std.specs.Prelude.{List}
use Rattle.std.specs.declared.cmp.PartialEq as PartialEq
use Rattle.std.specs.declared.hash.Hash as Hash
use Rattle.std.specs.declared.hash.BuildHasher as Build
use Rattle.std.specs.declared.hash.Hasher as Hasher
use Rattle.value_bags.specs.declared.bag.BagForm.{BagForm}
use Rattle.evmap_core.specs.declared.emptied.Emptied.{Emptied}
use Rattle.evmap_core.specs.Marked.{entries_at}

module _ {K V S H : Type 0} {hash : Hash.Ghosts K} {eq : PartialEq.Ghosts K} {same : PartialEq.Ghosts V} {hashes : Hash.Ghosts V} {build : Build.Ghosts S H} {hasher : Hasher.Ghosts H} where
  -- the keys with their bags, in order
  abbrev pub entries_left : Emptied K V S H hash eq same hashes build hasher → List (K × BagForm V)
  entries_left e = entries_at e.map.now.entries e.places.now
