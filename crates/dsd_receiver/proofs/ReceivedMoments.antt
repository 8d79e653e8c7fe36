-- An exporter that received lines at moment 0 alone has its samples there, so its page shows them.
use Rattle.std.proofs.Common.{◌≡◌, ℕ, ◌+◌, ◌≤◌, Bool, true, false, List, [], ◌∷◌, ◌++◌, map, append-nil, refl, ap, sym, subst, arith, Option, Some, None}
use Rattle.std.specs.Prelude.{All, ◌==◌, if◌then◌else◌, is_some}
use Rattle.std.proofs.lemmas.List.Concat.{flat_map-append}
use Rattle.std.proofs.lemmas.List.Elements.{All-append, All-cons, All-head, All-nil, All-replicate, All-tail, All-weaker}
use Rattle.metrics_core.specs.Calls.{Call}
use Rattle.metrics_core.specs.Keys.{KeyText}
use Rattle.metrics_core.specs.declared.kinds.MetricKind.{MetricKind}
use Rattle.metrics_core.specs.declared.kinds.MetricKind.TheVariants as kinds
use Rattle.metrics_registry.specs.Live.{LiveSeries}
use Rattle.histogram_series.specs.Entries.{TimedEntry, records_of, samples_of_entries, samples_of_entry}
use Rattle.histogram_series.specs.Series.{entries}
use Rattle.rolling_summaries.specs.Standing.{NeverFall, NoneAfter}
use Rattle.rolling_summaries.specs.Window.{Sample, timed_samples, timed_samples_of}
use Rattle.prom_exporter.specs.Exporter.{AreTimely, Exporter, state_of}
use Rattle.prom_exporter.specs.Sampled.{IsTimely, Sampled, calls_known}
use Rattle.prom_exporter.specs.Values.{sampled_series, series_of}
use Rattle.name_counts.specs.Counts.{raised}
use Rattle.prom_exporter.specs.State.{PrometheusState, Series, call_on, empty_state, is_redirected, key_given, live, live_series, metric_name_of, no_series, number_given, register, with_call, with_live, with_redirection, with_series}
use Rattle.dsd_lines.specs.Grammar.{Counter, Distribution, Gauge, Histogram, LineText, MoveBy, PointsText, SetTo, StepText, Steps, Timer}
use Rattle.dsd_receiver.specs.Received.{after_calls, after_line, after_reading, after_readings, call_of_step, calls_of_points, calls_said, kind_said, rate_said, times_at}

-- ---- samples at the first moment

abbrev AtStart : Sample → Type 0
AtStart s = s.moment ≡ 0

abbrev AreAtStart : List Sample → Type 0
AreAtStart samples = All AtStart samples

abbrev CallsAtStart : Series → Type 0
CallsAtStart s = AreAtStart (timed_samples s.calls)

abbrev StateAtStart : PrometheusState → Type 0
StateAtStart s = All CallsAtStart s.histograms

never_fall : (samples : List Sample) → AreAtStart samples → NeverFall samples
never_fall [] same = tt
never_fall (s ∷ samples) same =
    let first = All-head AtStart s samples same in
    let others = All-tail AtStart s samples same in
    (All-weaker AtStart (λ (later : Sample). s.moment ≤ later.moment) (λ later is. omega (arith, first)) samples others, never_fall samples others)

none_after : (samples : List Sample) → AreAtStart samples → NoneAfter 0 samples
none_after samples same = All-weaker AtStart (λ (s : Sample). s.moment ≤ 0) (λ s is. omega (arith, is)) samples same

-- entries stand for the samples of the calls that they tell
calls_tell : (es : List TimedEntry) → timed_samples (records_of es) ≡ samples_of_entries es
calls_tell [] = refl
calls_tell (e ∷ es) = ap (λ samples. samples_of_entry e ++ samples) (calls_tell es)

cell_timely : (cell : Sampled) → AreAtStart (timed_samples (calls_known cell)) → IsTimely 0 cell
cell_timely cell at =
    let known : AreAtStart (samples_of_entries (entries cell.series)) = subst AreAtStart (calls_tell (entries cell.series)) at in
    (never_fall _ known, none_after _ known)

abbrev known_series : LiveSeries Sampled → Series
known_series s = series_of (sampled_series calls_known s)

each_timely : (hs : List (LiveSeries Sampled)) → All CallsAtStart (map series_of (map (sampled_series calls_known) hs)) → All (λ (s : LiveSeries Sampled). IsTimely 0 s.cell) hs
each_timely [] at = All-nil _
each_timely (h ∷ hs) at =
    All-cons (λ (s : LiveSeries Sampled). IsTimely 0 s.cell) h hs (cell_timely h.cell (All-head CallsAtStart (known_series h) _ at))
    (each_timely hs (All-tail CallsAtStart (known_series h) _ at))

-- ---- the calls of a line

samples_appended : (old : List Call) (call : Call) → AreAtStart (timed_samples old) → AreAtStart (timed_samples_of call) → AreAtStart (timed_samples (old ++ call ∷ []))
samples_appended old call before new =
    subst AreAtStart (sym (flat_map-append timed_samples_of old (call ∷ [])))
    (All-append AtStart (timed_samples old) (timed_samples (call ∷ [])) before (subst AreAtStart (sym (append-nil (timed_samples_of call))) new))

one_called : (number : ℕ) (call : Call) (s : Series) → AreAtStart (timed_samples_of call) → CallsAtStart s → CallsAtStart (with_call number call s)
one_called number call s new at = by (s.number == number)
  where
    by : (b : Bool) → CallsAtStart (if b then record s { calls = s.calls ++ call ∷ [] } else s)
    by true = samples_appended s.calls call at new
    by false = at

each_called : (number : ℕ) (call : Call) (series : List Series) → AreAtStart (timed_samples_of call) → All CallsAtStart series → All CallsAtStart (map (with_call number call) series)
each_called number call [] new at = All-nil _
each_called number call (s ∷ series) new at =
    All-cons CallsAtStart (with_call number call s) (map (with_call number call) series) (one_called number call s new (All-head CallsAtStart s series at))
    (each_called number call series new (All-tail CallsAtStart s series at))

called : (kind : MetricKind) (number : ℕ) (call : Call) (s : PrometheusState) → AreAtStart (timed_samples_of call) → StateAtStart s → StateAtStart (call_on kind number call s)
called kinds.Counter number call s new at = at
called kinds.Gauge number call s new at = at
called kinds.Histogram number call s new at = each_called number call s.histograms new at

abbrev EachAtStart : List Call → Type 0
EachAtStart calls = All (λ call. AreAtStart (timed_samples_of call)) calls

all_called : (kind : MetricKind) (number : ℕ) (calls : List Call) (s : PrometheusState) → EachAtStart calls → StateAtStart s → StateAtStart (after_calls kind number calls s)
all_called kind number [] s new at = at
all_called kind number (call ∷ calls) s new at =
    all_called kind number calls (call_on kind number call s) (All-tail (λ call. AreAtStart (timed_samples_of call)) call calls new)
    (called kind number call s (All-head (λ call. AreAtStart (timed_samples_of call)) call calls new) at)

each_of : {A : Type 0} (f : A → Call) → ((x : A) → AreAtStart (timed_samples_of (f x))) → (xs : List A) → EachAtStart (map f xs)
each_of f h [] = All-nil _
each_of f h (x ∷ xs) = All-cons (λ call. AreAtStart (timed_samples_of call)) (f x) (map f xs) (h x) (each_of f h xs)

points_at : (rate : ℕ) (points : PointsText) → EachAtStart (calls_of_points 0 rate points)
points_at rate (Counter counts) = each_of _ (λ n. All-nil _) counts
points_at rate (Gauge numbers) = each_of _ (λ value. All-nil _) numbers
points_at rate (Histogram numbers) = each_of _ (λ value. All-replicate AtStart (times_at rate) (record { value = value; moment = 0 }) refl) numbers
points_at rate (Steps steps) = each_of _ step_at steps
  where
    step_at : (step : StepText) → AreAtStart (timed_samples_of (call_of_step step))
    step_at (SetTo value) = All-nil _
    step_at (MoveBy value) = All-nil _
points_at rate (Timer numbers) = each_of _ (λ value. All-replicate AtStart (times_at rate) (record { value = value; moment = 0 }) refl) numbers
points_at rate (Distribution numbers) = each_of _ (λ value. All-replicate AtStart (times_at rate) (record { value = value; moment = 0 }) refl) numbers

-- ---- registering

series_at : (kind : MetricKind) (key : KeyText) (s : PrometheusState) → StateAtStart s → StateAtStart (with_series kind key s)
series_at kind key s at = by (is_some (live_series kind key s)) (s.made == no_series)
  where
    new : Series
    new = record { number = s.made; key = key; calls = []; note = None }

    added : (kind : MetricKind) → StateAtStart (record (with_live kind (live kind s ++ new ∷ []) s) { made = s.made + 1 })
    added kinds.Counter = at
    added kinds.Gauge = at
    added kinds.Histogram = All-append CallsAtStart s.histograms (new ∷ []) at (All-cons CallsAtStart new [] (All-nil _) (All-nil _))

    by : (a b : Bool) → StateAtStart (if a then s else if b then s else record (with_live kind (live kind s ++ new ∷ []) s) { made = s.made + 1 })
    by true b = at
    by false true = at
    by false false = added kind

redirected_at : (kind : MetricKind) (key : KeyText) (s : PrometheusState) → StateAtStart s → StateAtStart (with_redirection kind key s)
redirected_at kind key s at = by (is_redirected kind key s)
  where
    by : (b : Bool) → StateAtStart (if b then record s { redirected = raised kind (metric_name_of key) s.redirected } else s)
    by true = at
    by false = at

registered_at : (kind : MetricKind) (key : KeyText) (s : PrometheusState) → StateAtStart s → StateAtStart (register kind key s)
registered_at kind key s at = series_at kind (key_given kind key s) (with_redirection kind key s) (redirected_at kind key s at)

-- ---- lines

line_at : (s : PrometheusState) (said : LineText) → StateAtStart s → StateAtStart (after_line 0 s said)
line_at s said at =
    all_called (kind_said said.points) (number_given (kind_said said.points) said.key s) (calls_said 0 said) (register (kind_said said.points) said.key s)
    (points_at (rate_said said.rate) said.points) (registered_at (kind_said said.points) said.key s at)

reading_at : (s : PrometheusState) (reading : Option LineText) → StateAtStart s → StateAtStart (after_reading 0 s reading)
reading_at s None at = at
reading_at s (Some said) at = line_at s said at

readings_at : (readings : List (Option LineText)) (s : PrometheusState) → StateAtStart s → StateAtStart (after_readings 0 readings s)
readings_at [] s at = at
readings_at (reading ∷ readings) s at = readings_at readings (after_reading 0 s reading) (reading_at s reading at)

pub received_timely : (e : Exporter) (readings : List (Option LineText)) → state_of e ≡ after_readings 0 readings empty_state → AreTimely 0 e
received_timely e readings is = each_timely e.series.histograms (subst StateAtStart (sym is) (readings_at readings empty_state (All-nil _)))
