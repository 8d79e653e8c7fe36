-- What a call answers of the bag of a key.
use Rattle.std.specs.Prelude.{◌≡◌, ℕ, Bool, Contains, Option, Some, None, slice_get}
use Rattle.std.specs.Map.{lookup, values_of}
use Rattle.evmap_contents.specs.declared.write.Contents.{Contents}
use Rattle.value_bags.specs.declared.bag.BagForm.{BagForm}
use Rattle.value_bags.specs.Bags as bags
use Rattle.value_bags.specs.Bags.{bag_len, times}

-- the bag of a key, where `same` says whether two keys are equal
abbrev pub bag_under : {L V M : Type 0} → (L → L → Bool) → L → Contents L V M → Option (BagForm V)
bag_under same key c = lookup (same key) c.entries

-- one of the values of the bag, or none where there is no bag or it is empty
abbrev pub IsOneOf : {V : Type 0} → Option (BagForm V) → Option V → Type 0
IsOneOf None answer = answer ≡ None
IsOneOf (Some bag) None = bag_len bag ≡ 0
IsOneOf (Some bag) (Some v) = Contains (bags.values_of bag) v

-- how often a value is in the bag of a key
abbrev pub times_at : {V : Type 0} → (V → V → Bool) → Option (BagForm V) → V → ℕ
times_at eq None v = 0
times_at eq (Some bag) v = times eq bag v

-- the bag that stands at a place of the map, if there is one
abbrev pub bag_at : {L V M : Type 0} → Contents L V M → Option ℕ → Option (BagForm V)
bag_at c None = None
bag_at c (Some place) = slice_get (values_of c.entries) place

-- how many values the bag of a key has
abbrev pub count_at : {V : Type 0} → Option (BagForm V) → ℕ
count_at None = 0
count_at (Some bag) = bag_len bag
