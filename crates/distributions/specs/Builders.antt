-- What a builder of distributions is given.
use Rattle.std.specs.Prelude.{ℕ, List, map, length, ℤ, Option, option_map, unwrap_or, Bool, nat_lt}
use Rattle.std.specs.List.{list_all}
use Rattle.std.specs.declared.vec.Vec.{Vec}
use Rattle.std.specs.declared.alloc.Global.{Global}
use Rattle.std.specs.declared.num.NonZeroU32.{NonZeroU32}
use Rattle.std.specs.Int.NonZero.{non_zero_u32_get}
use Rattle.metrics_core.specs.declared.numbers.Fixed.{Fixed}
use Rattle.prom_format.specs.declared.matchers.Matcher.{Matcher}
use Rattle.native_histograms.specs.Native.{NativeText}
use Rattle.distributions.specs.Rules.{rules_of, saying}
use Rattle.distributions.specs.Kinds.{DistributionKind, DistributionRules, SummaryText, general_kind}

-- bounds in billionths
abbrev pub bounds_of : Vec Fixed Global → List ℤ
bounds_of bounds = map (λ bound. bound.0) bounds.items

-- whether there is a bound
abbrev pub has_bound : Vec Fixed Global → Bool
has_bound bounds = nat_lt 0 (length bounds.items)

-- whether each rule has a bound
abbrev pub all_have_bounds : {K : Type 0} → List (K × Vec Fixed Global) → Bool
all_have_bounds rules = list_all (λ rule. has_bound rule.1) rules

-- how many buckets a window has, 3 where nothing is said, and their width in nanoseconds, 20 seconds where nothing is said
abbrev pub count_or_default : Option NonZeroU32 → ℕ
count_or_default count = unwrap_or (option_map non_zero_u32_get count) 3

abbrev pub duration_or_default : Option ℕ → ℕ
duration_or_default duration = unwrap_or duration 20000000000

-- what kinds follow from, as it is given
abbrev pub given_rules : List ℕ → Option ℕ → Option (Vec Fixed Global) → Option NonZeroU32 → List (Matcher × Vec Fixed Global) → List (Matcher × NativeText) → DistributionRules
given_rules quantiles duration buckets count bucket_overrides native_overrides = record {
  native_for = rules_of native_overrides;
  buckets_for = saying bounds_of (rules_of bucket_overrides);
  buckets = option_map bounds_of buckets;
  summary = record { quantiles = quantiles; bucket_count = count_or_default count; bucket_duration = duration_or_default duration };
}

-- a histogram where there are bounds, and otherwise a summary
abbrev pub kind_of_bounds : SummaryText → Option (List Fixed) → DistributionKind
kind_of_bounds summary bounds = general_kind summary (option_map (map (λ bound. bound.0)) bounds)
