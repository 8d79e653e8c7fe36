-- The flushes of a script: what its rounds do to the DogStatsD exporter, for a choice of orders (this project's rule).
use Rattle.std.specs.Prelude.{◌≡◌, ℕ, ◌+◌, Bool, true, false, not, List, [], ◌∷◌, ◌++◌, map, filter, flat_map, fold, zip, None, option_map, slice_get, unwrap_or}
use Rattle.std.specs.List.{AllZip}
use Rattle.metrics_core.specs.declared.calls.SeriesCall.{SeriesCall}
use Rattle.metrics_core.specs.declared.calls.SeriesCall.TheVariants as calls
use Rattle.metrics_core.specs.declared.kinds.SeriesId.{SeriesId}
use Rattle.metrics_core.specs.Fixed.{of_billionths}
use Rattle.metrics_registry.specs.Live.{LiveSeries, id_eq}
use Rattle.dsd_addresses.specs.Remotes.{RemoteText, Udp, Unix, Unixgram, default_limit}
use Rattle.dsd_writer.specs.Lines.{payloads_of}
use Rattle.dsd_writer.specs.Packing.{framed_payloads}
use Rattle.dsd_exporter.specs.CallSteps.{after_calls, counter_step, gauge_step, samples_step}
use Rattle.dsd_exporter.specs.State.{DogStatsDSettings, DogStatsDState, FlushItem, no_series_states, number_given, register, flush_items, flush_step, left_out_of_items, lines_of_items, with_cell_of}
use Rattle.drive_script.specs.Script.{SettingsText, RoundText, SetupLine, Describe, Register, Act, Inc, Abs, Add, Sub, Set, Rec, RecN, CallLine}
use Rattle.script_player.specs.Play.{IsOrderOf, RoundOrders}

-- ---- settings

-- What the exporter of a script is built with: it doesn't count its own work, and sends all samples of histograms.
abbrev pub dogstatsd_settings : SettingsText → DogStatsDSettings
dogstatsd_settings s = record {
  aggressive = s.dsd_aggressive;
  telemetry = false;
  distributions = not s.dsd_histograms;
  name_prefix = s.dsd_prefix;
  reservoir_size = None;
}

-- the most bytes of a payload to this address
abbrev pub payload_limit : SettingsText → RemoteText → ℕ
payload_limit s to = unwrap_or s.dsd_limit (default_limit to)

-- payloads on a Unix stream are led by their lengths
abbrev pub is_stream : RemoteText → Bool
is_stream (Udp _) = false
is_stream (Unix _) = true
is_stream (Unixgram _) = false

-- ---- the state of a play

-- the series of the exporter with its idle counters, and which series each register line so far was given
pub record FlushPlay : Type 0 where
  pub dogstatsd : DogStatsDState
  pub handles : List SeriesId

abbrev pub flush_start : FlushPlay
flush_start = record { dogstatsd = record { series = no_series_states; idle = [] }; handles = [] }

-- a register line does its step; descriptions are none of this exporter
abbrev pub register_step : FlushPlay → SetupLine → FlushPlay
register_step p (Describe kind name unit text) = p
register_step p (Register kind key) = record {
  dogstatsd = record p.dogstatsd { series = register kind key p.dogstatsd.series };
  handles = p.handles ++ record { kind = kind; number = number_given kind key p.dogstatsd.series } ∷ [];
}

abbrev pub after_registers : FlushPlay → RoundText → FlushPlay
after_registers p round = fold register_step p round.setup

-- ---- orders

-- whether a call's handle names the series with this id
abbrev pub is_call_for : List SeriesId → SeriesId → CallLine → Bool
is_call_for handles id call = unwrap_or (option_map (id_eq id) (slice_get handles call.handle)) false

-- the calls of a round on the series with this id, in the script's order
abbrev pub calls_for : FlushPlay → RoundText → SeriesId → List CallLine
calls_for p round id = filter (is_call_for p.handles id) round.calls

-- one order for each series of a kind
abbrev pub AreOrdersFor : {S : Type 0} → FlushPlay → RoundText → List (LiveSeries S) → List (List CallLine) → Type 0
AreOrdersFor p round series orders = AllZip (λ s order. IsOrderOf (calls_for p round s.id) order) series orders

-- one order for each series
pub record AreFlushOrders (p : FlushPlay) (round : RoundText) (orders : RoundOrders) : Type 0 where
  pub counters : AreOrdersFor p round p.dogstatsd.series.counters orders.counters
  pub gauges : AreOrdersFor p round p.dogstatsd.series.gauges orders.gauges
  pub histograms : AreOrdersFor p round p.dogstatsd.series.histograms orders.histograms

-- ---- a round

-- the call on a series that an act makes at a moment
abbrev pub series_call : ℕ → Act → SeriesCall
series_call moment (Inc count) = calls.Increment count
series_call moment (Abs total) = calls.Absolute total
series_call moment (Add value) = calls.Add (of_billionths value)
series_call moment (Sub value) = calls.Subtract (of_billionths value)
series_call moment (Set value) = calls.Set (of_billionths value)
series_call moment (Rec value) = calls.Record (of_billionths value) moment 1
series_call moment (RecN value count) = calls.Record (of_billionths value) moment count

-- a series after these calls
abbrev pub after_order : {S : Type 0} → (SeriesCall → S → S) → ℕ → LiveSeries S → List CallLine → LiveSeries S
after_order step moment series order = with_cell_of (after_calls step (map (λ call. series_call moment call.act) order)) series

-- the series of a kind after the calls of the round in these orders
abbrev pub all_after : {S : Type 0} → (SeriesCall → S → S) → ℕ → List (LiveSeries S) → List (List CallLine) → List (LiveSeries S)
all_after step moment series orders = map (λ (s, order). after_order step moment s order) (zip series orders)

-- all series after the calls of the round in these orders
abbrev pub after_line_calls : FlushPlay → RoundText → RoundOrders → FlushPlay
after_line_calls p round orders = record p {
  dogstatsd = record p.dogstatsd {
    series = record p.dogstatsd.series {
      counters = all_after counter_step round.moment p.dogstatsd.series.counters orders.counters;
      gauges = all_after gauge_step round.moment p.dogstatsd.series.gauges orders.gauges;
      histograms = all_after samples_step round.moment p.dogstatsd.series.histograms orders.histograms;
    };
  };
}

-- the state that the round's flush finds: its setup, and its calls in these orders
abbrev pub before_flush : FlushPlay → RoundText → RoundOrders → FlushPlay
before_flush p round orders = after_line_calls (after_registers p round) round orders

-- the state behind the round
abbrev pub after_flush : FlushPlay → RoundText → RoundOrders → FlushPlay
after_flush p round orders = let q = before_flush p round orders in record q { dogstatsd = flush_step q.dogstatsd }

-- what the round's flush sends; no word is drawn, as no histogram is sampled
abbrev pub flush_of : SettingsText → FlushPlay → RoundText → RoundOrders → List FlushItem
flush_of settings p round orders =
    flush_items (dogstatsd_settings settings) settings.dsd_globals round.moment [] (before_flush p round orders).dogstatsd

-- ---- all rounds

-- the orders of each round, along one chain of states
abbrev pub AreFlushOrdersAlong : FlushPlay → List RoundText → List RoundOrders → Type 0
AreFlushOrdersAlong p [] [] = Unit {0}
AreFlushOrdersAlong p [] (_ ∷ _) = ⊥
AreFlushOrdersAlong p (_ ∷ _) [] = ⊥
AreFlushOrdersAlong p (round ∷ rounds) (orders ∷ choice) =
    AreFlushOrders (after_registers p round) round orders × AreFlushOrdersAlong (after_flush p round orders) rounds choice

-- the flushes, one for each round
abbrev pub flushes_along : SettingsText → FlushPlay → List RoundText → List RoundOrders → List (List FlushItem)
flushes_along settings p [] _ = []
flushes_along settings p (_ ∷ _) [] = []
flushes_along settings p (round ∷ rounds) (orders ∷ choice) =
    flush_of settings p round orders ∷ flushes_along settings (after_flush p round orders) rounds choice

-- ---- payloads

-- the payloads of a flush: its lines, cut within the limit, and on a stream each behind its length
abbrev pub flush_payloads : SettingsText → RemoteText → List FlushItem → List (List ℕ)
flush_payloads settings to items = framed_payloads (is_stream to) (payloads_of (payload_limit settings to) (lines_of_items (payload_limit settings to) items))

-- the payloads of flushes, one flush after the other
abbrev pub all_payloads : SettingsText → RemoteText → List (List FlushItem) → List (List ℕ)
all_payloads settings to flushes = flat_map (flush_payloads settings to) flushes

-- how many points are left out of them
abbrev pub all_left_out : SettingsText → RemoteText → List (List FlushItem) → ℕ
all_left_out settings to [] = 0
all_left_out settings to (items ∷ flushes) = left_out_of_items (payload_limit settings to) items + all_left_out settings to flushes

-- ---- calls of a round, and rounds, for some orders

-- after the calls of a round, made in some order on each series
abbrev pub IsFlushCalled : FlushPlay → RoundText → FlushPlay → Type 0
IsFlushCalled p round q = (orders : RoundOrders) × AreFlushOrders p round orders × (q ≡ after_line_calls p round orders)

-- it is so for some orders of a round
abbrev pub ForSomeFlushOrders : FlushPlay → RoundText → (RoundOrders → Type 0) → Type 0
ForSomeFlushOrders p round P = (orders : RoundOrders) × AreFlushOrders (after_registers p round) round orders × P orders

-- it is so for some orders of each of some rounds, of their flushes and the state behind them
abbrev pub ForSomeFlushes : SettingsText → FlushPlay → List RoundText → (List (List FlushItem) → Type 0) → Type 0
ForSomeFlushes settings p rounds P = (choice : List RoundOrders) × AreFlushOrdersAlong p rounds choice × P (flushes_along settings p rounds choice)
