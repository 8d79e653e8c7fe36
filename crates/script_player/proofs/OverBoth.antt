-- Lanes of call lines over both exporters: what they need, and what a round of them leaves of each.
use Rattle.std.proofs.Common.{◌≡◌, ℕ, zero, suc, ◌+◌, ◌<◌, ◌≤◌, ◌-◌, ◌⊎◌, Bool, true, false, cond, List, [], ◌∷◌, length, map, refl, sym, ap, subst, ◌∙◌, ⊎_elim, arith, lt_of_not-le}
use Rattle.std.specs.Prelude.{◌&&◌, All, Option, Some, None, flat_map, option_map, unwrap_or, slice_get}
use Rattle.std.proofs.lemmas.Option.{IfSome_then}
use mathlib.Core.Logic.{dite}
use mathlib.Core.Option.{some}
use native.Mathlib.Decide.{dec_le}
use lib.ListN.{get_elem?}
use Rattle.legal_history.specs.History.{Distinct}
use Rattle.legal_history.proofs.Steps.{one_at, some_below}
use Rattle.cell_lanes.specs.Lines.{LaneText}
use Rattle.cell_lanes.proofs.Lists.{below_some}
use Rattle.cell_lanes.specs.Things.{fixed_of, root_of}
use Rattle.cell_lanes.specs.Lanes.{AllDone, AllFit, AllTaken, AtRest, Each, Grew, Roots}
use Rattle.metrics_core.specs.declared.calls.SeriesCall.{SeriesCall}
use Rattle.metrics_core.specs.declared.calls.SeriesCall.TheVariants as calls
use Rattle.metrics_core.specs.declared.kinds.MetricKind.{MetricKind}
use Rattle.metrics_core.specs.declared.kinds.MetricKind.TheVariants as kinds
use Rattle.metrics_core.specs.declared.kinds.SeriesId.{SeriesId}
use Rattle.metrics_registry.specs.Live.{IsNumbered}
use Rattle.prom_exporter.specs.LanePasses as P
use Rattle.dsd_exporter.specs.CallSteps.{IsCounterCall, IsGaugeCall, IsRecord}
use Rattle.dsd_exporter.specs.Exporter.{Exporter as DogStatsDExporter}
use Rattle.dsd_exporter.specs.LaneIndices.{CounterHas, GaugeHas, HistogramHas}
use Rattle.dsd_exporter.specs.LanePasses as D
use Rattle.dsd_exporter.specs.Resting.{AllRest as LinesRest}
use Rattle.dsd_exporter.proofs.LaneIndices.{counter_has, gauge_has, histogram_has, of_one_kind}
use Rattle.dsd_exporter.proofs.Resting.{rests_for_lanes}
use Rattle.exporter_lanes.specs.declared.exporters.Exporters.{Exporters}
use Rattle.exporter_lanes.specs.declared.exporters.ExporterCall.{ExporterCall}
use Rattle.exporter_lanes.specs.declared.exporters.ExporterCall.TheVariants as exporter
use Rattle.exporter_lanes.specs.BothRounds.{IsRound}
use Rattle.exporter_lanes.specs.ExporterLanes.{DogStatsDThing, ExporterThing, StandsAsEntries, TakesCall, asks_dogstatsd, asks_prometheus, dogstatsd_thing, dogstatsd_things, first_prometheus, frame_of, prometheus_thing, prometheus_things, things_of}
use Rattle.exporter_lanes.proofs.Rests.{both_rest, dogstatsd_rests, prometheus_rests}
use Rattle.exporter_lanes.proofs.Rounds.{over_each}
use Rattle.exporter_lanes.proofs.Things.{dogstatsd_at, prometheus_at}
use Rattle.drive_script.specs.Script.{CallLine, RoundText}
use Rattle.drive_script.specs.Texts.{call_line_of}
use Rattle.drive_script.specs.declared.script.CallLine.{CallLine as CallValue}
use Rattle.prom_exporter.specs.Exporter.{state_of as prometheus_of}
use Rattle.dsd_exporter.specs.Exporter.{state_seen}
use Rattle.script_player.specs.Fitting.{FitsHandle}
use Rattle.script_player.specs.Flushes.{IsFlushCalled}
use Rattle.script_player.specs.LaneCalls.{AllAsked, AsksKind, HasLane, IsOfKind, asked, calls_at, id_at, ids_of, is_at, kind_asked, lane_number, lines_at, numbered_at}
use Rattle.script_player.specs.Orders.{IsCalled}
use Rattle.script_player.specs.Recorded.{RecordsSome}
use Rattle.script_player.specs.Resting.{AllRest}
use Rattle.script_player.proofs.AfterFlushLanes.{its_kind, lanes_called}
use Rattle.script_player.proofs.AfterLanes.{lanes_made}
use Rattle.script_player.proofs.LaneSteps.{counter≢gauge, counter≢histogram, dogstatsd_many, gauge≢histogram, prometheus_many}
use Rattle.script_player.proofs.Numbers.{told_calls, told_on}
use Rattle.script_player.proofs.RestingSteps.{rest_after, rest_roots, rest_settled, takes_at}

-- ---- what lanes need

module _ (both : Exporters) where
  pub begin_at_rest : AllRest both.prometheus → LinesRest both.dogstatsd → Roots root_of (things_of both) × AtRest root_of (things_of both)
  begin_at_rest rest lines_rest = both_rest both (rest_roots both.prometheus rest, rest_settled both.prometheus rest) ((rests_for_lanes both.dogstatsd).begins lines_rest)

  pub end_at_rest : (old : Exporters) → frame_of both ≡ frame_of old → Roots root_of (things_of both) → AtRest root_of (things_of both) → AllRest old.prometheus → AllRest both.prometheus
  end_at_rest old frame roots settled rest =
      let own = prometheus_rests both (roots, settled) in
      rest_after old.prometheus both.prometheus (ap (λ (x : Exporters). x.prometheus) frame) own.0 own.1 rest

  pub lines_end_at_rest : Roots root_of (things_of both) → AtRest root_of (things_of both) → LinesRest both.dogstatsd
  lines_end_at_rest roots settled = let own = dogstatsd_rests both (roots, settled) in (rests_for_lanes both.dogstatsd).ends own.0 own.1

-- ---- which calls a DogStatsD series takes

is_counter_call : (call : SeriesCall) → kinds.Counter ≡ kind_asked call → IsCounterCall call
is_counter_call (calls.Increment n) is = tt
is_counter_call (calls.Absolute n) is = tt
is_counter_call (calls.Add v) is = absurd (counter≢gauge is)
is_counter_call (calls.Subtract v) is = absurd (counter≢gauge is)
is_counter_call (calls.Set v) is = absurd (counter≢gauge is)
is_counter_call (calls.Record v moment count) is = absurd (counter≢histogram is)

is_gauge_call : (call : SeriesCall) → kinds.Gauge ≡ kind_asked call → IsGaugeCall call
is_gauge_call (calls.Increment n) is = absurd (counter≢gauge (sym is))
is_gauge_call (calls.Absolute n) is = absurd (counter≢gauge (sym is))
is_gauge_call (calls.Add v) is = tt
is_gauge_call (calls.Subtract v) is = tt
is_gauge_call (calls.Set v) is = tt
is_gauge_call (calls.Record v moment count) is = absurd (gauge≢histogram is)

is_record : (call : SeriesCall) → kinds.Histogram ≡ kind_asked call → IsRecord call
is_record (calls.Increment n) is = absurd (counter≢histogram (sym is))
is_record (calls.Absolute n) is = absurd (counter≢histogram (sym is))
is_record (calls.Add v) is = absurd (gauge≢histogram (sym is))
is_record (calls.Subtract v) is = absurd (gauge≢histogram (sym is))
is_record (calls.Set v) is = absurd (gauge≢histogram (sym is))
is_record (calls.Record v moment count) is = tt

dogstatsd_takes : (e : DogStatsDExporter) → IsNumbered e.series → (j : ℕ) (t : DogStatsDThing) (call : SeriesCall) → get_elem? (D.things_of e) j ≡ some t → IsOfKind (D.ids_of e) j (kind_asked call) → D.TakesCall t.fixed call
dogstatsd_takes e numbered j t call at_thing asks =
    -- the series with this index has the kind of the call
    let asked_kind = λ (kind : MetricKind) (id : SeriesId) (at : get_elem? (D.ids_of e) j ≡ some id) (is : id.kind ≡ kind). sym is ∙ ap (λ (i : SeriesId). i.kind) (one_at (D.ids_of e) j id asks.0 at asks.1) ∙ asks.2 in
    ⊎_elim
    (λ (c : CounterHas e j t).
    subst (λ (y : DogStatsDThing). D.TakesCall y.fixed call) c.2
    (is_counter_call call (asked_kind kinds.Counter c.0.id (counter_has e j c.0 c.1).1 (its_kind kinds.Counter e.series.made e.series.counters numbered.counters.1 j c.0 c.1))))
    (λ (others : GaugeHas e j t ⊎ HistogramHas e j t). ⊎_elim
    (λ (g : GaugeHas e j t).
    subst (λ (y : DogStatsDThing). D.TakesCall y.fixed call) g.2.2
    (is_gauge_call call (asked_kind kinds.Gauge g.2.0.id (subst (λ n. get_elem? (D.ids_of e) n ≡ some g.2.0.id) (sym g.1) (gauge_has e g.0 g.2.0 g.2.1).1) (its_kind kinds.Gauge e.series.made e.series.gauges numbered.gauges.1 g.0 g.2.0 g.2.1))))
    (λ (h : HistogramHas e j t).
    subst (λ (y : DogStatsDThing). D.TakesCall y.fixed call) h.2.2
    (is_record call (asked_kind kinds.Histogram h.2.0.id (subst (λ n. get_elem? (D.ids_of e) n ≡ some h.2.0.id) (sym h.1) (histogram_has e h.0 h.2.0 h.2.1).1) (its_kind kinds.Histogram e.series.made e.series.histograms numbered.histograms.1 h.0 h.2.0 h.2.1))))
    others) (of_one_kind e j t at_thing)

-- ---- each lane's calls are of the kinds of their series

module _ (both : Exporters) (rest : AllRest both.prometheus) (numbered : IsNumbered both.dogstatsd.series) where
  call_taken : (call : ExporterCall) (j : ℕ) (t : ExporterThing) → get_elem? (things_of both) j ≡ some t → AsksKind (ids_of both) j call → TakesCall t.fixed call
  call_taken (exporter.DogStatsD call) j t at (id, at_id, is) =
      let own = below_some (dogstatsd_things both) j (subst (λ n. j < n) (dogstatsd_many both.dogstatsd) (some_below (D.ids_of both.dogstatsd) j id at_id)) in
      subst (λ (y : ExporterThing). TakesCall y.fixed (exporter.DogStatsD call)) (one_at (things_of both) j (dogstatsd_thing own.0) t (dogstatsd_at both j own.0 own.1) at)
      (dogstatsd_takes both.dogstatsd numbered j own.0 call own.1 (id, at_id, is))
  call_taken (exporter.Prometheus call) j t at (k, past, (id, at_id, is)) =
      let own = below_some (prometheus_things both) k (subst (λ n. k < n) (prometheus_many both.prometheus) (some_below (P.ids_of both.prometheus) k id at_id)) in
      let here : get_elem? (things_of both) (first_prometheus both + k) ≡ some t = subst (λ n. get_elem? (things_of both) n ≡ some t) (past ∙ ap (λ n. n + k) (dogstatsd_many both.dogstatsd)) at in
      subst (λ (y : ExporterThing). TakesCall y.fixed (exporter.Prometheus call)) (one_at (things_of both) (first_prometheus both + k) (prometheus_thing own.0) t (prometheus_at both k own.0 own.1) here)
      (takes_at both.prometheus rest k own.0 call own.1 (id, at_id, is))

  pub all_taken : (lanes : List (LaneText ExporterCall)) → ((l : ℕ) (lane : LaneText ExporterCall) → get_elem? lanes l ≡ some lane → AllAsked (ids_of both) lane.cells lane.lines) → AllTaken fixed_of TakesCall (things_of both) lanes
  all_taken lanes asked l a k x at_lane at_line = IfSome_then x.slot ((asked l a at_lane).1 k x at_line) (λ slot asks_at j t at_cell at_thing. call_taken x.call j t at_thing (asks_at j at_cell))

  -- lanes that ran and made all their calls are a round
  pub is_round : (lanes : List (LaneText ExporterCall)) (new : Exporters) (done : ℕ → ℕ) → AllFit (length (things_of both)) lanes
      → ((l : ℕ) (lane : LaneText ExporterCall) → get_elem? lanes l ≡ some lane → AllAsked (ids_of both) lane.cells lane.lines) → frame_of new ≡ frame_of both → AllDone lanes done → Each (Grew root_of StandsAsEntries lanes done) (things_of both) (things_of new)
      → IsRound lanes both new
  is_round lanes new done fit asked frame all grew = record { done = done; all_done = all; fit = fit; taken = all_taken lanes asked; frame = frame; grew = grew }

-- ---- calls that are for one exporter

own_prometheus : (cs : List SeriesCall) → flat_map asks_prometheus (map exporter.Prometheus cs) ≡ cs
own_prometheus [] = refl
own_prometheus (c ∷ cs) = ap (λ l. c ∷ l) (own_prometheus cs)

own_dogstatsd : (cs : List SeriesCall) → flat_map asks_dogstatsd (map exporter.DogStatsD cs) ≡ cs
own_dogstatsd [] = refl
own_dogstatsd (c ∷ cs) = ap (λ l. c ∷ l) (own_dogstatsd cs)

none_of_dogstatsd : (cs : List SeriesCall) → flat_map asks_dogstatsd (map exporter.Prometheus cs) ≡ []
none_of_dogstatsd [] = refl
none_of_dogstatsd (c ∷ cs) = none_of_dogstatsd cs

-- no call is on a series past all
past_id : (ids : List SeriesId) (j : ℕ) (id : SeriesId) → length ids ≤ j → id_at ids j id ≡ false
past_id [] j id past = refl
past_id (x ∷ ids) zero id past = absurd (omega (arith, past))
past_id (x ∷ ids) (suc j) id past = past_id ids j id (omega (arith, past))

module _ (ids handles : List SeriesId) (j : ℕ) (past : length ids ≤ j) where
  past_line : (line : CallValue) → is_at ids handles j line ≡ false
  past_line line = by (slice_get handles line.handle)
    where
      by : (found : Option SeriesId) → unwrap_or (option_map (id_at ids j) found) false ≡ false
      by None = refl
      by (Some id) = past_id ids j id past

  past_lines : (l : ℕ) (lines : List CallValue) → lines_at ids handles l j lines ≡ []
  past_lines l [] = refl
  past_lines l (x ∷ xs) = by (HasLane l x) (is_at ids handles j x) (past_line x) ∙ past_lines l xs
    where
      by : (a b : Bool) → b ≡ false → cond (a && b) (x ∷ lines_at ids handles l j xs) (lines_at ids handles l j xs) ≡ lines_at ids handles l j xs
      by true b is = ap (λ t. cond t (x ∷ lines_at ids handles l j xs) (lines_at ids handles l j xs)) is
      by false b is = refl

  past_calls : (moment l : ℕ) (lines : List CallValue) → calls_at moment ids handles l j lines ≡ []
  past_calls moment l lines = ap (map (λ (line : CallValue). asked moment line.act)) (past_lines l lines)

-- ---- what a round leaves

module _ (moment : ℕ) (old new : Exporters) (handles line_handles : List SeriesId) (lines : List CallValue) (lanes : List (LaneText ExporterCall)) (round : IsRound lanes old new) (apart : Distinct (map lane_number lanes))
    (prometheus : (j l : ℕ) → numbered_at (first_prometheus old + j) lanes l ≡ map exporter.Prometheus (calls_at moment (P.ids_of old.prometheus) handles l j lines))
    (some_are : All (λ (call : CallLine). RecordsSome call.act) (map call_line_of lines)) where
  told_prometheus : (j l : ℕ) → told_on asks_prometheus (first_prometheus old + j) lanes l ≡ calls_at moment (P.ids_of old.prometheus) handles l j lines
  told_prometheus j l =
      told_calls asks_prometheus (first_prometheus old + j) lanes l ∙ ap (flat_map asks_prometheus) (prometheus j l) ∙ own_prometheus (calls_at moment (P.ids_of old.prometheus) handles l j lines)

  pub pages_called : AllRest old.prometheus → All (λ (line : CallValue). FitsHandle handles (call_line_of line)) lines → (text : RoundText) → text.moment ≡ moment → text.calls ≡ map call_line_of lines
      → IsCalled (record { prometheus = prometheus_of old.prometheus; handles = handles }) text (record { prometheus = prometheus_of new.prometheus; handles = handles })
  pages_called rest fits =
      let each = over_each lanes old new round in
      lanes_made moment old.prometheus new.prometheus handles lines asks_prometheus (first_prometheus old) lanes apart told_prometheus rest each.prometheus_frame each.prometheus fits some_are

  module _ (dogstatsd : (j l : ℕ) → j < first_prometheus old → numbered_at j lanes l ≡ map exporter.DogStatsD (calls_at moment (D.ids_of old.dogstatsd) line_handles l j lines)) where
    told_dogstatsd : (j l : ℕ) → told_on asks_dogstatsd j lanes l ≡ calls_at moment (D.ids_of old.dogstatsd) line_handles l j lines
    told_dogstatsd j l = told_calls asks_dogstatsd j lanes l ∙ dite (dec_le (suc j) (first_prometheus old))
        (λ (below : suc j ≤ first_prometheus old). ap (flat_map asks_dogstatsd) (dogstatsd j l below) ∙ own_dogstatsd (calls_at moment (D.ids_of old.dogstatsd) line_handles l j lines))
        (λ (past : ¬ (suc j ≤ first_prometheus old)).
        let first = first_prometheus old in
        let more : first ≤ j = omega (arith, lt_of_not-le past) in
        let is : j ≡ first + (j - first) = omega (arith, more) in
        let none : flat_map asks_dogstatsd (numbered_at j lanes l) ≡ []
        = ap (λ n. flat_map asks_dogstatsd (numbered_at n lanes l)) is ∙ ap (flat_map asks_dogstatsd) (prometheus (j - first) l) ∙ none_of_dogstatsd (calls_at moment (P.ids_of old.prometheus) handles l (j - first) lines) in
        none ∙ sym (past_calls (D.ids_of old.dogstatsd) line_handles j (subst (λ n. n ≤ j) (sym (dogstatsd_many old.dogstatsd)) more) moment l lines))

    pub flushes_called : (marks : List Bool) → IsNumbered old.dogstatsd.series → All (λ (line : CallValue). FitsHandle line_handles (call_line_of line)) lines → (text : RoundText) → text.moment ≡ moment → text.calls ≡ map call_line_of lines
        → IsFlushCalled (record { dogstatsd = state_seen marks old.dogstatsd; handles = line_handles }) text (record { dogstatsd = state_seen marks new.dogstatsd; handles = line_handles })
    flushes_called marks numbered fits =
        let each = over_each lanes old new round in
        lanes_called moment old.dogstatsd new.dogstatsd line_handles lines marks asks_dogstatsd lanes apart told_dogstatsd numbered each.dogstatsd_frame each.dogstatsd fits some_are
