-- What a clause sees of a map of descriptions, which may not be made yet.
use Rattle.std.specs.Prelude.{◌≡◌, ⊤, ℕ, List, Option, Some, None, String, string_bytes}
use Rattle.std.specs.List.{AllByRecursion}
use Rattle.std.specs.declared.alloc.Global.{Global}
use Rattle.std.specs.declared.sync.Arc.{Arc}
use Rattle.std.specs.declared.hash.Hash as Hash
use Rattle.std.specs.declared.hash.BuildHasher as Build
use Rattle.std.specs.declared.hash.Hasher as Hasher
use Rattle.std.specs.declared.cmp.PartialEq as PartialEq
use Rattle.left_right.specs.declared.Absorb as Absorb
use Rattle.value_bags.specs.declared.keep.Keep as Keep
use Rattle.evmap_contents.specs.declared.key.KeyClone as Key
use Rattle.evmap_contents.specs.declared.write.Write.{Write}
use Rattle.evmap_core.specs.declared.store.Store.{Store}
use Rattle.evmap_core.specs.declared.writer.WriteHandle.{WriteHandle}
use Rattle.evmap_core.specs.Handles.{published, pending, told}
use Rattle.metric_descriptions.specs.Descriptions.{DescribedText, nothing_described}
use Rattle.metric_descriptions.specs.Written.{Text, said_by, Describes, IsOfNewName}

module _ {P S H X : Type 0} {key : Key.Ghosts (String Global) (List ℕ)} {hash : Hash.Ghosts (String Global)} {eq : PartialEq.Ghosts (String Global)} {same : PartialEq.Ghosts Text} {hashes : Hash.Ghosts Text} {keep : Keep.Ghosts P Text} {build : Build.Ghosts S H} {hasher : Hasher.Ghosts H} {absorb : Absorb.Ghosts (Store (String Global) Text Unit P S (List ℕ) H) (Write (String Global) (Arc Text Global) (Arc Unit Global) P) X} where
  -- what the published writes say, and what those say that wait
  abbrev pub text_of : WriteHandle (String Global) Text Unit P S (List ℕ) H X key hash eq same hashes keep build hasher absorb → DescribedText
  text_of w = record { published = said_by (published string_bytes w); pending = said_by (pending string_bytes w) }

  -- each write describes a metric, those that wait are of names of which nothing is published, and a reader is told of all that
  -- is published
  pub record IsBook (w : WriteHandle (String Global) Text Unit P S (List ℕ) H X key hash eq same hashes keep build hasher absorb) : Type 0 where
    pub shown : AllByRecursion Describes (published string_bytes w)
    pub waiting : AllByRecursion Describes (pending string_bytes w)
    pub new_names : AllByRecursion (IsOfNewName (said_by (published string_bytes w))) (pending string_bytes w)
    pub told_all : told w ≡ published string_bytes w

  -- where no map is made nothing is described
  abbrev pub text_in : Option (WriteHandle (String Global) Text Unit P S (List ℕ) H X key hash eq same hashes keep build hasher absorb) → DescribedText
  text_in None = nothing_described
  text_in (Some w) = text_of w

  abbrev pub HasBook : Option (WriteHandle (String Global) Text Unit P S (List ℕ) H X key hash eq same hashes keep build hasher absorb) → Type 0
  HasBook None = ⊤
  HasBook (Some w) = IsBook w
