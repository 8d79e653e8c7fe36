-- What kind of distribution the histograms of a name are (this project's rule).
use Rattle.std.specs.Prelude.{ℕ, List, codes, ℤ, Option, Some, None}
use Rattle.prom_format.specs.Matchers.{MatcherText, rule_for}
use Rattle.native_histograms.specs.Native.{NativeText}

-- what a summary is built with: quantiles in billionths; how many buckets its window has, and their width in nanoseconds
pub record SummaryText : Type 0 where
  pub quantiles : List ℕ
  pub bucket_count : ℕ
  pub bucket_duration : ℕ

pub data DistributionKind : Type 0 where
  NativeHistogram : NativeText → DistributionKind
  Histogram : List ℤ → DistributionKind
  Summary : SummaryText → DistributionKind

-- what kinds follow from: rules for the names that matchers fit, the general buckets, and what summaries are built with
pub record DistributionRules : Type 0 where
  pub native_for : List (MatcherText × NativeText)
  pub buckets_for : List (MatcherText × List ℤ)
  pub buckets : Option (List ℤ)
  pub summary : SummaryText

abbrev pub general_kind : SummaryText → Option (List ℤ) → DistributionKind
general_kind summary (Some bounds) = Histogram bounds
general_kind summary None = Summary summary

abbrev pub bucket_kind : Option (MatcherText × List ℤ) → DistributionKind → DistributionKind
bucket_kind (Some rule) other = Histogram rule.1
bucket_kind None other = other

abbrev pub native_kind : Option (MatcherText × NativeText) → DistributionKind → DistributionKind
native_kind (Some rule) other = NativeHistogram rule.1
native_kind None other = other

-- the first native matcher that fits the name, else the first bucket matcher, else the general buckets, else a summary
abbrev pub kind_for : DistributionRules → List ℕ → DistributionKind
kind_for rules name =
    native_kind (rule_for rules.native_for name)
    (bucket_kind (rule_for rules.buckets_for name)
    (general_kind rules.summary rules.buckets))

-- the word for a kind
abbrev pub kind_word : DistributionKind → List ℕ
kind_word (NativeHistogram config) = codes "native_histogram"
kind_word (Histogram bounds) = codes "histogram"
kind_word (Summary summary) = codes "summary"
