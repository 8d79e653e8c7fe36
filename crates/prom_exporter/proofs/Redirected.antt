-- Which registrations are redirected, and what they leave.
use Rattle.std.proofs.Common.{◌≡◌, ℕ, ◌-◌, ◌<◌, ◌≤◌, Bool, true, false, cond, not, ◌&&◌, List, Option, None, Some, refl, sym, ap, ◌∙◌}
use Rattle.std.specs.Prelude.{◌==◌, ◌⊎◌, is_some, nat_lt}
use Rattle.std.proofs.lemmas.Bool.{lt-ltb, le-ltb}
use Rattle.std.proofs.lemmas.Option.{none-some, same_Some}
use Rattle.metrics_core.specs.declared.kinds.MetricKind.{MetricKind}
use Rattle.metrics_core.specs.declared.kinds.MetricKind.TheVariants as kinds
use Rattle.metrics_core.specs.Keys.{KeyText}
use Rattle.name_counts.specs.Counts.{NameCount, raised}
use Rattle.prom_exporter.specs.Exporter.{Exporter, AddsSeries, state_of}
use Rattle.prom_exporter.specs.State.{Series, PrometheusState, no_series, live_series, number_of, with_series, metric_name_of, overflow_key, count_named, counted, is_below, is_redirected, redirected_to, key_given, with_raised, number_given, register}

module _ (kind : MetricKind) (key : KeyText) (s : PrometheusState) where
  -- what is given and left by a registration that isn't redirected
  pub own-given : redirected_to kind key s ≡ None → (key_given kind key s ≡ key) × (register kind key s ≡ with_series kind key s)
  own-given none = by (is_redirected kind key s) none
    where
      by : (b : Bool) → cond b (Some (metric_name_of key)) None ≡ None
          → (cond b (overflow_key (metric_name_of key)) key ≡ key) × (with_series kind (cond b (overflow_key (metric_name_of key)) key) (cond b (with_raised kind (metric_name_of key) s) s) ≡ with_series kind key s)
      by true e = absurd (none-some _ (sym e))
      by false e = (refl, refl)

  -- and by one that is
  pub overflow-given : (name : List ℕ) → redirected_to kind key s ≡ Some name
      → (key_given kind key s ≡ overflow_key name) × (register kind key s ≡ with_series kind (overflow_key name) (with_raised kind name s))
  overflow-given name some = by (is_redirected kind key s) some
    where
      by : (b : Bool) → cond b (Some (metric_name_of key)) None ≡ Some name
          → (cond b (overflow_key (metric_name_of key)) key ≡ overflow_key name) × (with_series kind (cond b (overflow_key (metric_name_of key)) key) (cond b (with_raised kind (metric_name_of key) s) s) ≡ with_series kind (overflow_key name) (with_raised kind name s))
      by true e =
          let same = same_Some (metric_name_of key) name e in
          (ap overflow_key same, ap (λ n. with_series kind (overflow_key n) (with_raised kind n s)) same)
      by false e = absurd (none-some _ e)

  by_tests : (is_live below : Bool) → is_some (live_series kind key s) ≡ is_live → is_below (counted kind (metric_name_of key) s) s.limit ≡ below
      → redirected_to kind key s ≡ cond (not is_live && not below) (Some (metric_name_of key)) None
  by_tests is_live below live within = (λ j. cond (not (live j) && not (within j)) (Some (metric_name_of key)) None)

  -- where the key is live it isn't redirected
  pub live-own : is_some (live_series kind key s) ≡ true → redirected_to kind key s ≡ None
  live-own live = by_tests true _ live refl

  -- nor where there is no limit
  pub unlimited-own : s.limit ≡ None → redirected_to kind key s ≡ None
  unlimited-own none = by (is_some (live_series kind key s)) refl
    where
      by : (b : Bool) → is_some (live_series kind key s) ≡ b → redirected_to kind key s ≡ None
      by true live = live-own live
      by false live = by_tests false true live (ap (is_below (counted kind (metric_name_of key) s)) none)

  -- the limit tells it otherwise
  module _ (limit : ℕ) (is : s.limit ≡ Some limit) (absent : is_some (live_series kind key s) ≡ false) (n : ℕ) (many : n ≡ counted kind (metric_name_of key) s) where
    below : (b : Bool) → nat_lt n limit ≡ b → is_below (counted kind (metric_name_of key) s) s.limit ≡ b
    below b test = (λ j. is_below (sym many j) (is j)) ∙ test

    pub below-own : n < limit → redirected_to kind key s ≡ None
    below-own less = by_tests false true absent (below true (lt-ltb n limit less))

    pub full-overflow : limit ≤ n → redirected_to kind key s ≡ Some (metric_name_of key)
    full-overflow more = by_tests false false absent (below false (le-ltb n limit more))

  -- where it is redirected the key isn't live
  pub redirected-absent : (name : List ℕ) → redirected_to kind key s ≡ Some name → live_series kind key s ≡ None
  redirected-absent name some = by (live_series kind key s) refl
    where
      by : (o : Option Series) → live_series kind key s ≡ o → live_series kind key s ≡ None
      by None is = is
      by (Some series) is = absurd (none-some name (sym (live-own (ap is_some is)) ∙ some))

-- how many count, from how many there are and whether the overflow series is live
pub counted-by : (kind : MetricKind) (name : List ℕ) (s : PrometheusState) (n : ℕ) (b : Bool) → n ≡ count_named kind name s → b ≡ is_some (live_series kind (overflow_key name) s) → cond b (n - 1) n ≡ counted kind name s
counted-by kind name s n b many live = (λ j. cond (live j) (many j - 1) (many j))

-- no series is live where the test says so
pub absent_from_test : (kind : MetricKind) (key : KeyText) (s : PrometheusState) → is_some (live_series kind key s) ≡ false → live_series kind key s ≡ None
absent_from_test kind key s test = by (live_series kind key s) test
  where
    by : (o : Option Series) → is_some o ≡ false → o ≡ None
    by None test = refl
    by (Some series) test = absurd cc

-- without a limit all is as if there were no redirections
pub unlimited-registers : (kind : MetricKind) (key : KeyText) (s : PrometheusState) → s.limit ≡ None → register kind key s ≡ with_series kind key s
unlimited-registers kind key s none = (own-given kind key s (unlimited-own kind key s none)).1

pub unlimited-numbers : (kind : MetricKind) (key : KeyText) (s : PrometheusState) → s.limit ≡ None → number_given kind key s ≡ number_of kind key s
unlimited-numbers kind key s none = ap (λ k. number_of kind k s) (own-given kind key s (unlimited-own kind key s none)).0

-- a registry with a series of the key, and one without
pub live-registers : (kind : MetricKind) (key : KeyText) (s : PrometheusState) → is_some (live_series kind key s) ≡ true → (key_given kind key s ≡ key) × (register kind key s ≡ with_series kind key s)
live-registers kind key s live = own-given kind key s (live-own kind key s live)

-- ---- a series that is put while the counts of redirections are set aside

abbrev with_redirected : List NameCount → PrometheusState → PrometheusState
with_redirected redirected s = record s { redirected = redirected }

with_series-redirected : (kind : MetricKind) (key : KeyText) (redirected : List NameCount) (s : PrometheusState) → with_redirected redirected (with_series kind key s) ≡ with_series kind key (with_redirected redirected s)
with_series-redirected kind key redirected s = of_kind kind
  where
    by : (b c : Bool) (new : PrometheusState) → with_redirected redirected (cond b s (cond c s new)) ≡ cond b (with_redirected redirected s) (cond c (with_redirected redirected s) (with_redirected redirected new))
    by true c new = refl
    by false true new = refl
    by false false new = refl

    of_kind : (k : MetricKind) → with_redirected redirected (with_series k key s) ≡ with_series k key (with_redirected redirected s)
    of_kind kinds.Counter = by (is_some (live_series kinds.Counter key s)) (s.made == no_series) _
    of_kind kinds.Gauge = by (is_some (live_series kinds.Gauge key s)) (s.made == no_series) _
    of_kind kinds.Histogram = by (is_some (live_series kinds.Histogram key s)) (s.made == no_series) _

module _ (kind : MetricKind) (key : KeyText) (old put : Exporter) (none counts : List NameCount) where
  abbrev aside : Exporter
  aside = record old { redirected = none }

  abbrev now : Exporter
  now = record put { redirected = counts }

  pub redirected-registered : (name : List ℕ) → state_of put ≡ with_series kind key (state_of aside) → counts ≡ raised kind name old.redirected
      → state_of now ≡ with_series kind key (with_raised kind name (state_of old))
  redirected-registered name registered is =
      ap (with_redirected counts) registered ∙ with_series-redirected kind key counts (state_of aside)
      ∙ ap (λ redirected. with_series kind key (with_redirected redirected (state_of old))) is

  pub redirected-cells : (put.series ≡ old.series) ⊎ AddsSeries kind key aside put → (now.series ≡ old.series) ⊎ AddsSeries kind key old now
  redirected-cells = by kind
    where
      by : (k : MetricKind) → (put.series ≡ old.series) ⊎ AddsSeries k key aside put → (now.series ≡ old.series) ⊎ AddsSeries k key old now
      by kinds.Counter adds = adds
      by kinds.Gauge adds = adds
      by kinds.Histogram adds = adds

  pub redirected-number : number_of kind key (state_of aside) ≡ number_of kind key (state_of old)
  redirected-number = by kind
    where
      by : (k : MetricKind) → number_of k key (state_of aside) ≡ number_of k key (state_of old)
      by kinds.Counter = refl
      by kinds.Gauge = refl
      by kinds.Histogram = refl
