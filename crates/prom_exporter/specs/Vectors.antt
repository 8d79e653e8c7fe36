-- Worked examples, computed.
use Rattle.std.specs.Prelude.{◌≡◌, ℕ, ◌*◌, pos, codes, refl, List, [], ◌∷◌, map, true, false, Some, None}
use Rattle.std.specs.Fmt.{digits}
use Rattle.std.specs.Str.{chars}
use Rattle.metrics_core.specs.declared.kinds.MetricKind.TheVariants as kinds
use Rattle.metrics_core.specs.declared.units.Unit.TheVariants.{Bytes}
use Rattle.metrics_core.specs.Numbers.{whole}
use Rattle.metrics_core.specs.Keys.{LabelText, KeyText}
use Rattle.metrics_core.specs.Calls.{Increment, Record}
use Rattle.prom_format.specs.Pages.{page_text}
use Rattle.prom_exporter.specs.State.{PrometheusState, state_with, empty_state, overflow_key, number_given, register, describe, call_on, page_step}
use Rattle.prom_exporter.specs.Families.{ExporterSettings, families_at}
use Rattle.prom_exporter.specs.Exporter.{default_settings, body_shown}

abbrev seconds : ℕ → ℕ
seconds n = n * 1000000000

abbrev plain : ExporterSettings
plain = record { quantiles = pos 500000000 ∷ []; buckets = None; buckets_for = []; native_for = []; bucket_count = 3; bucket_duration = 20000000000; idle = None; series_limit = None; units = false; total_suffix = false; globals = [] }

abbrev label : List ℕ → List ℕ → LabelText
label k v = record { key = k; value = v }

abbrev pub key : List ℕ → List LabelText → KeyText
key n ls = record { name = n; labels = ls }

abbrev sampled : ℕ → ℕ → PrometheusState → PrometheusState
sampled t n s = call_on kinds.Histogram 0 (Record (whole n) t 1) s

abbrev page_of : ExporterSettings → ℕ → PrometheusState → List ℕ
page_of settings t s = page_text (families_at settings t (page_step settings.idle t s))

abbrev lat : PrometheusState
lat = sampled (seconds 3620) 2 (sampled (seconds 3600) 1 (register kinds.Histogram (key (codes "lat") []) empty_state))

-- the bucket that begins on the cutoff is out of the window
pub window_cutoff : page_of plain (seconds 3660) lat ≡ codes "# TYPE lat summary\nlat{quantile=\"0.5\"} 2\nlat_sum 3\nlat_count 2\n\n# EOF\n"
unfolding digits chars
window_cutoff = refl

pub window_before : page_of plain (seconds 3620) lat ≡ codes "# TYPE lat summary\nlat{quantile=\"0.5\"} 1\nlat_sum 3\nlat_count 2\n\n# EOF\n"
unfolding digits chars
window_before = refl

pub helped_counter : page_of (record plain { units = true; total_suffix = true }) 0 (call_on kinds.Counter 0 (Increment 42) (register kinds.Counter (key (codes "foo_total") []) (describe (codes "foo_total") (Some Bytes) (codes "Some help") empty_state)))
    ≡ codes "# HELP foo_bytes_total Some help\n# TYPE foo_bytes_total counter\nfoo_bytes_total 42\n\n# EOF\n"
unfolding digits chars
helped_counter = refl

pub bucketed : page_of (record plain { buckets = Some (whole 1 ∷ whole 5 ∷ []) }) 0 (sampled 0 9 (sampled 0 3 (sampled 0 1 (call_on kinds.Histogram 0 (Record (pos 500000000) 0 1) (register kinds.Histogram (key (codes "h") []) empty_state)))))
    ≡ codes "# TYPE h histogram\nh_bucket{le=\"1\"} 2\nh_bucket{le=\"5\"} 3\nh_bucket{le=\"+Inf\"} 4\nh_sum 13.5\nh_count 4\n\n# EOF\n"
unfolding digits chars
bucketed = refl

pub count_named_account : page_of (record plain { quantiles = whole 1 ∷ [] }) 0 (sampled 0 2 (register kinds.Histogram (key (codes "account") []) empty_state))
    ≡ codes "# TYPE account summary\naccount{quantile=\"1\"} 2\naccount_sum 2\naccount 1\n\n# EOF\n"
unfolding digits chars
count_named_account = refl

pub empty_summary : page_of plain 0 (register kinds.Histogram (key (codes "h") []) empty_state)
    ≡ codes "# TYPE h summary\nh{quantile=\"0.5\"} 0\nh_sum 0\nh_count 0\n\n# EOF\n"
unfolding digits chars
empty_summary = refl

pub global_labels : page_of (record plain { globals = label (codes "a") (codes "1") ∷ label (codes "b") (codes "2") ∷ [] }) 0 (register kinds.Counter (key (codes "x") (label (codes "a") (codes "9") ∷ label (codes "c") (codes "3") ∷ [])) empty_state)
    ≡ codes "# TYPE x counter\nx{a=\"9\",b=\"2\",c=\"3\"} 0\n\n# EOF\n"
unfolding digits chars
global_labels = refl

-- `a` is a backslash and a quote: the quote drops the backslash
pub backslash_quote_row : page_of plain 0 (register kinds.Counter (key (codes "x") (label (codes "a") (92 ∷ 34 ∷ []) ∷ [])) empty_state)
    ≡ codes "# TYPE x counter\nx{a=\"\\\"\"} 0\n\n# EOF\n"
unfolding digits chars
backslash_quote_row = refl

-- `a` is a backslash, a newline and b: the backslash is printed before the b
pub backslash_newline_row : page_of plain 0 (register kinds.Counter (key (codes "x") (label (codes "a") (92 ∷ 10 ∷ 98 ∷ []) ∷ [])) empty_state)
    ≡ codes "# TYPE x counter\nx{a=\"\\n\\\\b\"} 0\n\n# EOF\n"
unfolding digits chars
backslash_newline_row = refl

abbrev idle_change : ExporterSettings
idle_change = record plain { idle = Some (record { mask = record { counters = true; gauges = true; histograms = true }; timeout = 5 }) }

abbrev c0 : PrometheusState
c0 = page_step idle_change.idle 0 (call_on kinds.Counter 0 (Increment 1) (register kinds.Counter (key (codes "c") []) empty_state))

abbrev c6 : PrometheusState
c6 = page_step idle_change.idle 6 (page_step idle_change.idle 3 c0)

pub idle_kept : page_of idle_change 3 c0 ≡ codes "# TYPE c counter\nc 1\n\n# EOF\n"
unfolding digits chars
idle_kept = refl

pub idle_removed : page_of idle_change 6 (page_step idle_change.idle 3 c0) ≡ codes "# EOF\n"
unfolding digits chars
idle_removed = refl

-- a call through the handle of a removed series shows nowhere
pub idle_stays_removed : page_of idle_change 7 (call_on kinds.Counter 0 (Increment 1) c6) ≡ codes "# EOF\n"
unfolding digits chars
idle_stays_removed = refl

-- ---- a limit of one series

abbrev keyed : List ℕ → KeyText
keyed value = key (codes "c") (label (codes "a") value ∷ [])

abbrev counter : KeyText → PrometheusState → PrometheusState
counter = register kinds.Counter

-- one, two and three keys of one metric name
abbrev one_key : PrometheusState
one_key = counter (keyed (codes "1")) (state_with (Some 1))

abbrev two_keys : PrometheusState
two_keys = counter (keyed (codes "2")) one_key

abbrev three_keys : PrometheusState
three_keys = counter (keyed (codes "3")) two_keys

-- the first is made
pub first_is_made : one_key.redirected ≡ []
unfolding chars
first_is_made = refl

-- the second goes to the overflow series, which is made then
pub second_overflows : map (λ series. series.key) two_keys.counters ≡ keyed (codes "1") ∷ overflow_key (codes "c") ∷ []
unfolding chars
second_overflows = refl

pub second_is_counted : two_keys.redirected ≡ record { kind = kinds.Counter; name = codes "c"; count = 1 } ∷ []
unfolding chars
second_is_counted = refl

-- the third gets the same number, and makes no series
pub third_overflows : number_given kinds.Counter (keyed (codes "3")) two_keys ≡ number_given kinds.Counter (keyed (codes "2")) one_key
unfolding chars
third_overflows = refl

pub third_is_counted : three_keys ≡ record two_keys { redirected = record { kind = kinds.Counter; name = codes "c"; count = 2 } ∷ [] }
unfolding chars
third_is_counted = refl

-- a key that is live is given as ever
pub first_stays : counter (keyed (codes "1")) three_keys ≡ three_keys
unfolding chars
first_stays = refl

-- series of another metric name are made
pub others_are_made : (counter (key (codes "d") []) three_keys).redirected ≡ three_keys.redirected
unfolding chars
others_are_made = refl

pub overflow_page : page_of plain 0 (call_on kinds.Counter 1 (Increment 7) three_keys)
    ≡ codes "# TYPE c counter\nc{a=\"1\"} 0\nc{overflow=\"true\"} 7\n\n# TYPE series_overflow counter\nseries_overflow{metric=\"c\",kind=\"counter\"} 2\n\n# EOF\n"
unfolding digits chars
overflow_page = refl

-- one counter, `basic_counter`, incremented by 42
abbrev pub basic : PrometheusState
basic = call_on kinds.Counter 0 (Increment 42) (register kinds.Counter (key (codes "basic_counter") []) empty_state)

abbrev pub BasicPage : Type 0
BasicPage = body_shown default_settings 0 basic ≡ codes "# TYPE basic_counter counter\nbasic_counter 42\n\n"

pub basic_page : BasicPage
unfolding digits chars
basic_page = refl
