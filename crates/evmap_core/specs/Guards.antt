-- What a clause sees of a guard and of an entry.
use Rattle.std.specs.Prelude.{◌≡◌, ◌<◌, ℕ, Bool, true, Option, is_some}
use Rattle.std.specs.Borrow.{GName}
use Rattle.indexmap.specs.IndexMap.{IndexMap}
use Rattle.value_bags.specs.declared.bag.BagForm.{BagForm}
use Rattle.left_right.specs.Sides.{view}
use Rattle.left_right.specs.declared.reader.Reading.{Reading}
use Rattle.evmap_contents.specs.declared.write.Write.{Write}
use Rattle.evmap_contents.specs.declared.write.Contents.{Contents}
use Rattle.evmap_contents.specs.Views.{contents}
use Rattle.evmap_core.specs.declared.known_fronts.KnownFronts.{KnownFronts}
use Rattle.evmap_core.specs.declared.store.Store.{Store}
use Rattle.evmap_core.specs.declared.guard.Guard.{Guard}
use Rattle.evmap_core.specs.Asked.{bag_under, bag_at, count_at}
use Rattle.evmap_core.specs.Front.{IsFrontFor}

-- the handle that a guard was made of, by the name of the reference to it
abbrev pub home_of : {D R X G A : Type 0} → Guard D R X G A → GName
home_of guard = guard.home.ghost_name

-- what is looked at beside the front: nothing, or a place
abbrev pub place_of : {D R X G A : Type 0} → Guard D R X G A → A
place_of guard = guard.at

-- what ends when a guard ends
abbrev pub reading_of : {D R X G A : Type 0} → Guard D R X G A → G
reading_of guard = guard.reading

-- an entry has this reading, and looks at this place
abbrev pub HasFound : {D R X G : Type 0} → G → Option ℕ → Guard D R X G (Option ℕ) → Type 0
HasFound reading place entry = (entry.reading ≡ reading) × (entry.at ≡ place) × (is_some place ≡ true)

-- the map of the front of a guard, as it is stored
abbrev pub map_shown_by : {K L V M P S H D R X Q Z A : Type 0} → Guard D R X (Reading (Store K V M P S L H) (KnownFronts L V M P) Q Z) A → IndexMap K (BagForm V) S
map_shown_by guard = guard.reading.part.value.inner.map

module _ {K L V M P S H D R X Q Z A : Type 0} (plain : K → L) where
  -- what the front of a guard leaves
  abbrev pub shown_by : Guard D R X (Reading (Store K V M P S L H) (KnownFronts L V M P) Q Z) A → Contents L V M
  shown_by guard = contents plain guard.reading.part.value.inner

  -- the front of a guard begins with all that its handle knew before
  abbrev pub ShowsMeta : (Contents L V M → Write L V M P → Contents L V M) → Option (KnownFronts L V M P) → Guard D R X (Reading (Store K V M P S L H) (KnownFronts L V M P) Q Z) A → Type 0
  ShowsMeta step before guard = IsFrontFor plain step before guard.reading.part.value (view guard.reading.place)

  -- and it was published
  abbrev pub ShowsFront : (Contents L V M → Write L V M P → Contents L V M) → Option (KnownFronts L V M P) → Guard D R X (Reading (Store K V M P S L H) (KnownFronts L V M P) Q Z) A → Type 0
  ShowsFront step before guard = ShowsMeta step before guard × (guard.reading.part.value.inner.ready ≡ true)

module _ {K L V M P S H D R X Q Z : Type 0} (plain : K → L) (same : L → L → Bool) (key : L) (entry : Guard D R X (Reading (Store K V M P S L H) (KnownFronts L V M P) Q Z) (Option ℕ)) where
  -- an entry looks at the bag of the key, if it is there
  abbrev pub LooksAt : Type 0
  LooksAt = bag_at (shown_by plain entry) entry.at ≡ bag_under same key (shown_by plain entry)

  -- and it is there
  abbrev pub FindsBag : Type 0
  FindsBag = LooksAt × (is_some (bag_under same key (shown_by plain entry)) ≡ true)

  -- and it has a value
  abbrev pub FindsOne : Type 0
  FindsOne = LooksAt × (0 < count_at (bag_under same key (shown_by plain entry)))
