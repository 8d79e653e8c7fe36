-- What a bucket gets, and what becomes of buckets when the schema falls.
use Rattle.std.specs.Prelude.{◌≡◌, ℕ, ◌+◌, ◌/◌, ◌<◌, ◌==◌, Bool, ◌&&◌, nat_lt, List, ◌++◌, map, length, replicate, ℤ, pos, negsuc, ◌-ℤ◌, neg_ℤ, FitsSigned, count_by, Option, Some, is_none, unwrap_or, if◌then◌else◌}
use Rattle.std.specs.Int.{w64}
use Rattle.std.specs.List.{AllByRecursion}
use Rattle.std.specs.Map.{lookup}
use Rattle.std.specs.Ordering.{int_eq}
use Rattle.metrics_core.specs.Numbers.{in_64_bits}
use Rattle.native_histograms.specs.Native.{NativeText, buckets_of, positive_buckets, negative_buckets, zero_count, native_depth}

-- half of an index, rounded up
abbrev pub half_up : ℤ → ℤ
half_up (pos i) = pos ((i + 1) / 2)
half_up (negsuc i) = neg_ℤ (pos ((i + 1) / 2))

-- an index from -29 to 34
abbrev pub IsIndex : ℤ → Type 0
IsIndex i = (k : ℕ) × (k < 64) × (i ≡ pos k -ℤ pos 29)

-- the count at an index after it was raised: a bucket is opened where there was none
abbrev pub raised_at : ℤ → ℕ → ℤ → Option ℕ → Option ℕ
raised_at index count i held = if int_eq i index then Some (in_64_bits (unwrap_or held 0 + count)) else held

-- buckets after so many more of an index
abbrev pub Raises : List (ℤ × ℕ) → ℤ × ℕ → List (ℤ × ℕ) → Type 0
Raises old raised new =
    (found : List ℤ) → AllByRecursion IsIndex found → IsIndex raised.0 → old ≡ buckets_of found → new ≡ buckets_of (found ++ replicate raised.1 raised.0)

-- buckets after each index was halved upwards
abbrev pub Halves : List (ℤ × ℕ) → List (ℤ × ℕ) → Type 0
Halves old new = (found : List ℤ) → AllByRecursion IsIndex found → old ≡ buckets_of found → new ≡ buckets_of (map half_up found)

-- the depth, the buckets of a sign, and those of the other
pub record Sides : Type 0 where
  pub depth : ℕ
  pub side : List (ℤ × ℕ)
  pub other : List (ℤ × ℕ)

abbrev pub sides : ℕ → List (ℤ × ℕ) → List (ℤ × ℕ) → Sides
sides depth side other = record { depth = depth; side = side; other = other }

-- whether an index opens a bucket over the greatest number while the schema may fall
abbrev pub is_full : ℕ → ℕ → List ℤ → List ℤ → ℤ → Bool
is_full max_buckets depth found others index =
    nat_lt depth 4 && ((count_by (int_eq index) found == 0) && nat_lt max_buckets (length (buckets_of found) + length (buckets_of others) + 1))

-- whether an index opens a bucket over the greatest number in the buckets of a sign, beside those of the other
abbrev pub opens_over : ℕ → List (ℤ × ℕ) → List (ℤ × ℕ) → ℤ → Bool
opens_over max_buckets side other index =
    is_none (lookup (int_eq index) side) && nat_lt max_buckets (length side + length other + 1)

-- the sides after so many more of an index
abbrev pub sides_behind : Bool → ℕ → List ℤ → List ℤ → ℤ × ℕ → Sides
sides_behind full depth found others placed =
    if full then record { depth = depth + 1; side = buckets_of (map half_up found ++ replicate placed.1 (half_up placed.0)); other = buckets_of (map half_up others) }
    else record { depth = depth; side = buckets_of (found ++ replicate placed.1 placed.0); other = buckets_of others }

abbrev pub Places : ℕ → Sides → ℤ × ℕ → Sides → Type 0
Places max_buckets old placed new =
    (found others : List ℤ) → AllByRecursion IsIndex found → AllByRecursion IsIndex others → IsIndex placed.0
    → old.side ≡ buckets_of found → old.other ≡ buckets_of others
    → new ≡ sides_behind (is_full max_buckets old.depth found others placed.0) old.depth found others placed

-- the buckets of a histogram: minus the schema, and the zeros
pub record BucketsText : Type 0 where
  pub depth : ℕ
  pub positive : List (ℤ × ℕ)
  pub negative : List (ℤ × ℕ)
  pub zeros : ℕ

abbrev pub parts_of : NativeText → List ℤ → BucketsText
parts_of config values = record {
  depth = native_depth config values;
  positive = positive_buckets config (native_depth config values) values;
  negative = negative_buckets config (native_depth config values) values;
  zeros = zero_count config values;
}

-- the buckets after a value was put there so many times
abbrev pub Adds : NativeText → BucketsText → ℤ × ℕ → BucketsText → Type 0
Adds config old added new =
    (values : List ℤ) → AllByRecursion (FitsSigned w64) values → old ≡ parts_of config values → new ≡ parts_of config (values ++ replicate added.1 added.0)
