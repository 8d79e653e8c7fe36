-- Bags in two forms, and what each call makes of them. The rule of the forms is this project's.
use Rattle.std.specs.Prelude.{ℕ, ◌+◌, ◌-◌, ◌<◌, Bool, true, false, nat_lt, nat_eq, List, [], ◌∷◌, ◌++◌, filter, length, fold, sum_by, count_by, replicate, All, Option, None, Some, if◌then◌else◌, ◌&&◌}
use Rattle.std.specs.Option.{option_map_or}
use Rattle.std.specs.Map.{lookup, keys_of}
use Rattle.std.specs.List.{IsDistinct}
use Rattle.indexmap.specs.IndexMap.{swap_remove_entry}
use Rattle.value_bags.specs.declared.bag.BagForm.{BagForm}
use Rattle.value_bags.specs.declared.bag.BagForm.TheVariants.{Short, Long}
use Rattle.value_bags.specs.Entries.{change, alter}

-- a bag of this many values is long
abbrev pub long_length : ℕ
long_length = 32

module _ {V : Type 0} where
  -- how many values the counts add up to
  abbrev pub total : List (V × ℕ) → ℕ
  total counts = sum_by (λ c. c.1) counts

  -- how many values there are
  abbrev pub bag_len : BagForm V → ℕ
  bag_len (Short vs) = length vs
  bag_len (Long counts) = total counts

  abbrev pub is_short : BagForm V → Bool
  is_short (Short vs) = true
  is_short (Long counts) = false

  -- each counted value, as often as it was counted
  abbrev pub repeated : List (V × ℕ) → List V
  repeated [] = []
  repeated (c ∷ counts) = replicate c.1 c.0 ++ repeated counts

  -- all values of a bag
  abbrev pub values_of : BagForm V → List V
  values_of (Short vs) = vs
  values_of (Long counts) = repeated counts

  -- a bag without values keeps its form
  abbrev pub cleared : BagForm V → BagForm V
  cleared (Short vs) = Short []
  cleared (Long counts) = Long []

  -- the values that pass the test
  abbrev pub retained : (V → Bool) → BagForm V → BagForm V
  retained keeps (Short vs) = Short (filter keeps vs)
  retained keeps (Long counts) = Long (filter (λ c. keeps c.0) counts)

  -- a long bag with fewer than 32 values and no doubles becomes short
  abbrev pub fitted : BagForm V → BagForm V
  fitted (Short vs) = Short vs
  fitted (Long counts) = if nat_lt (total counts) long_length && nat_eq (length counts) (total counts) then Short (keys_of counts) else Long counts

  -- the bag that `reserve` makes for a key that is not there
  abbrev pub roomy : ℕ → BagForm V
  roomy additional = if nat_lt long_length additional then Long [] else Short []

  -- the list without the first that passes the test
  abbrev pub without_first : (V → Bool) → List V → List V
  without_first test [] = []
  without_first test (v ∷ vs) = if test v then vs else v ∷ without_first test vs

module _ {V : Type 0} (eq : V → V → Bool) where
  -- one more of a value: a new one goes last
  abbrev pub count_up : List (V × ℕ) → V → List (V × ℕ)
  count_up counts v = change (eq v) v (λ n. n + 1) 1 counts

  -- one less of a value that is there: with its last one it goes, and the last entry takes its place
  abbrev pub count_down : List (V × ℕ) → V → List (V × ℕ)
  count_down counts v = option_map_or (λ n. if nat_lt 1 n then alter (eq v) (λ m. m - 1) counts else swap_remove_entry (eq v) counts) (lookup (eq v) counts) counts

  -- the counts of these values
  abbrev pub counted : List V → List (V × ℕ)
  counted vs = fold count_up [] vs

  -- the counts of a short bag that so many more values make long
  abbrev pub lengthened : ℕ → BagForm V → Option (List (V × ℕ))
  lengthened additional (Short vs) = if nat_lt (length vs + additional) long_length then None else Some (counted vs)
  lengthened additional (Long counts) = None

  -- a bag becomes long when a push brings its length to 32
  abbrev pub pushed : BagForm V → V → BagForm V
  pushed (Short vs) v = if nat_lt (length vs + 1) long_length then Short (vs ++ v ∷ []) else Long (count_up (counted vs) v)
  pushed (Long counts) v = Long (count_up counts v)

  -- one occurrence is taken out where there is one: of a short bag the first
  abbrev pub removed : BagForm V → V → BagForm V
  removed (Short vs) v = Short (without_first (eq v) vs)
  removed (Long counts) v = Long (count_down counts v)

  -- a bag becomes long when a `reserve` brings its length and the reserved number to 32
  abbrev pub reserved : ℕ → BagForm V → BagForm V
  reserved additional (Short vs) = if nat_lt (length vs + additional) long_length then Short vs else Long (counted vs)
  reserved additional (Long counts) = Long counts

  -- each value is counted once, and at least to one
  abbrev pub IsProper : List (V × ℕ) → Type 0
  IsProper counts = All (λ c. 0 < c.1) counts × IsDistinct eq (keys_of counts)

  abbrev pub IsProperBag : BagForm V → Type 0
  IsProperBag (Short vs) = Unit {0}
  IsProperBag (Long counts) = IsProper counts

  -- how often a value was counted
  abbrev pub counted_times : List (V × ℕ) → V → ℕ
  counted_times counts v = sum_by (λ c. if eq v c.0 then c.1 else 0) counts

  -- how often a value is in a bag
  abbrev pub times : BagForm V → V → ℕ
  times (Short vs) v = count_by (eq v) vs
  times (Long counts) v = counted_times counts v
