-- The play of a script: what the rounds do to the exporter, for a choice of orders (this project's rule).
use Rattle.std.specs.Prelude.{◌≡◌, ℕ, ◌==◌, Bool, false, ◌||◌, ◌&&◌, List, [], ◌∷◌, ◌++◌, map, ℤ, pos, filter, fold, zip, option_map, slice_get, unwrap_or}
use Rattle.std.specs.List.{AllZip}
use Rattle.metrics_core.specs.declared.kinds.MetricKind.{MetricKind}
use Rattle.metrics_core.specs.declared.kinds.MetricKind.TheVariants as kinds
use Rattle.metrics_core.specs.declared.kinds.SeriesId.{SeriesId}
use Rattle.metrics_core.specs.Kinds.{kind_eq}
use Rattle.prom_format.specs.Pages.{Family}
use Rattle.prom_exporter.specs.State as prom
use Rattle.prom_exporter.specs.State.{PrometheusState, Series, live}
use Rattle.prom_exporter.specs.Families.{ExporterSettings, families_at}
use Rattle.prom_format.specs.Matchers.{sanitized_matcher}
use Rattle.native_histograms.specs.Native.{NativeText}
use Rattle.native_histograms.specs.Settings.{depth_of}
use Rattle.drive_script.specs.Settings.{window_settings}
use Rattle.drive_script.specs.Script.{ScriptText, SettingsText, RoundText, SetupLine, Describe, Register, CallLine, call_of, global_labels}

-- ---- settings

-- quantiles where the script gives none: 0, 0.5, 0.9, 0.95, 0.99, 0.999, 1
abbrev pub default_quantiles : List ℤ
default_quantiles = map pos (0 ∷ 500000000 ∷ 900000000 ∷ 950000000 ∷ 990000000 ∷ 999000000 ∷ 1000000000 ∷ [])

-- what a native histogram is built with, from a factor that is not refused, the greatest number of buckets and the threshold
abbrev pub native_text : ℤ → ℕ → ℤ → NativeText
native_text factor max_buckets threshold = record { depth = unwrap_or (depth_of factor) 0; max_buckets = max_buckets; threshold = threshold }

-- what the exporter of a script is built with
abbrev pub exporter_settings : SettingsText → ExporterSettings
exporter_settings s = record {
  quantiles = unwrap_or s.quantiles default_quantiles;
  buckets = s.buckets;
  buckets_for = map (λ rule. (sanitized_matcher rule.0, rule.1)) s.buckets_for;
  native_for = map (λ line. (sanitized_matcher line.matcher, native_text line.factor line.max_buckets line.threshold)) s.native_for;
  bucket_count = (window_settings s.summary).0;
  bucket_duration = (window_settings s.summary).1;
  idle = option_map (λ (mask, timeout). record { mask = mask; timeout = timeout }) s.idle;
  series_limit = s.series_limit;
  units = s.naming || s.units;
  total_suffix = s.naming;
  globals = global_labels s;
}

-- ---- the state of a play

-- the exporter, and what each register line so far was given
pub record PlayState : Type 0 where
  pub prometheus : PrometheusState
  pub handles : List SeriesId

abbrev pub play_start : SettingsText → PlayState
play_start s = record { prometheus = prom.state_with s.series_limit; handles = [] }

-- a setup line does its step on the exporter
abbrev pub setup_step : PlayState → SetupLine → PlayState
setup_step p (Describe kind name unit text) = record p { prometheus = prom.describe name unit text p.prometheus }
setup_step p (Register kind key) = record {
  prometheus = prom.register kind key p.prometheus;
  handles = p.handles ++ record { kind = kind; number = prom.number_given kind key p.prometheus } ∷ [];
}

abbrev pub after_setup : PlayState → RoundText → PlayState
after_setup p round = fold setup_step p round.setup

-- ---- orders

-- whether a handle names the series of this kind
abbrev pub names : MetricKind → Series → SeriesId → Bool
names kind series id = kind_eq kind id.kind && series.number == id.number

-- whether a call's handle names the series of this kind
abbrev pub is_call_on : List SeriesId → MetricKind → Series → CallLine → Bool
is_call_on handles kind series call = unwrap_or (option_map (names kind series) (slice_get handles call.handle)) false

-- the calls of a round on a series of a kind, in the script's order
abbrev pub calls_on : PlayState → RoundText → MetricKind → Series → List CallLine
calls_on p round kind series = filter (is_call_on p.handles kind series) round.calls

abbrev pub of_lane : ℕ → List CallLine → List CallLine
of_lane lane calls = filter (λ call. call.lane == lane) calls

-- An order of these calls: each lane's calls stand in it, each once, in the lane's order, and no other calls do.
abbrev pub IsOrderOf : List CallLine → List CallLine → Type 0
IsOrderOf calls order = (lane : ℕ) → of_lane lane order ≡ of_lane lane calls

-- for the live series of each kind, the calls of a round on it in some order
pub record RoundOrders : Type 0 where
  pub counters : List (List CallLine)
  pub gauges : List (List CallLine)
  pub histograms : List (List CallLine)

abbrev pub orders_on : MetricKind → RoundOrders → List (List CallLine)
orders_on kinds.Counter orders = orders.counters
orders_on kinds.Gauge orders = orders.gauges
orders_on kinds.Histogram orders = orders.histograms

-- one order for each live series
abbrev pub AreOrdersOf : PlayState → RoundText → RoundOrders → Type 0
AreOrdersOf p round orders =
    (kind : MetricKind) → AllZip (λ series order. IsOrderOf (calls_on p round kind series) order) (live kind p.prometheus) (orders_on kind orders)

-- ---- a round

-- a series after its calls of the round, in this order
abbrev pub called : ℕ → Series → List CallLine → Series
called moment series order = record series { calls = series.calls ++ map (λ call. call_of moment call.act) order }

-- the series of a kind after the calls of the round in these orders
abbrev pub all_called : ℕ → MetricKind → PrometheusState → RoundOrders → List Series
all_called moment kind s orders = map (λ (series, order). called moment series order) (zip (live kind s) (orders_on kind orders))

-- all series after the calls of the round in these orders
abbrev pub after_calls : PlayState → RoundText → RoundOrders → PlayState
after_calls p round orders = record p {
  prometheus = record p.prometheus {
    counters = all_called round.moment kinds.Counter p.prometheus orders;
    gauges = all_called round.moment kinds.Gauge p.prometheus orders;
    histograms = all_called round.moment kinds.Histogram p.prometheus orders;
  };
}

-- the state behind the round: its setup, its calls in these orders, and the page step at its moment
abbrev pub after_round : SettingsText → PlayState → RoundText → RoundOrders → PlayState
after_round settings p round orders =
    let q = after_calls (after_setup p round) round orders in
    record q { prometheus = prom.page_step (exporter_settings settings).idle round.moment q.prometheus }

-- the families of the round's page
abbrev pub page_of : SettingsText → PlayState → RoundText → RoundOrders → List Family
page_of settings p round orders =
    families_at (exporter_settings settings) round.moment (after_round settings p round orders).prometheus

-- ---- all rounds

-- the orders of each round, along one chain of states
abbrev pub AreOrdersAlong : SettingsText → PlayState → List RoundText → List RoundOrders → Type 0
AreOrdersAlong settings p [] [] = Unit {0}
AreOrdersAlong settings p [] (_ ∷ _) = ⊥
AreOrdersAlong settings p (_ ∷ _) [] = ⊥
AreOrdersAlong settings p (round ∷ rounds) (orders ∷ choice) =
    AreOrdersOf (after_setup p round) round orders × AreOrdersAlong settings (after_round settings p round orders) rounds choice

-- the pages, one for each round
abbrev pub pages_along : SettingsText → PlayState → List RoundText → List RoundOrders → List (List Family)
pages_along settings p [] _ = []
pages_along settings p (_ ∷ _) [] = []
pages_along settings p (round ∷ rounds) (orders ∷ choice) =
    page_of settings p round orders ∷ pages_along settings (after_round settings p round orders) rounds choice

-- one order for each round and each series that is live in it
abbrev pub AreOrders : ScriptText → List RoundOrders → Type 0
AreOrders script choice = AreOrdersAlong script.settings (play_start script.settings) script.rounds choice

abbrev pub pages_of : ScriptText → List RoundOrders → List (List Family)
pages_of script choice = pages_along script.settings (play_start script.settings) script.rounds choice
