-- What a round of lanes leaves of the DogStatsD exporter: each series after its calls in one order.
use Rattle.std.proofs.Common.{Option, ◌≡◌, ℕ, zero, suc, ◌+◌, ◌<◌, Bool, true, false, List, [], ◌∷◌, ◌++◌, length, map, refl, sym, ap, subst, ◌∙◌, arith}
use Rattle.std.specs.Prelude.{All, filter, flat_map, option_map, slice_get, unwrap_or}
use Rattle.std.specs.List.{AllByRecursion, AllZip}
use Rattle.std.proofs.lemmas.List.{length-map}
use mathlib.Core.Option.{some}
use lib.ListN.{get_elem?}
use Rattle.atomic_table.proofs.Lists.{at_map}
use Rattle.legal_history.specs.History.{Distinct}
use Rattle.legal_history.specs.Order.{taken, GrewInOrder}
use Rattle.legal_history.proofs.Steps.{one_at}
use Rattle.cell_lanes.specs.Lines.{LaneText}
use Rattle.cell_lanes.specs.Things.{Thing}
use Rattle.metrics_core.specs.declared.calls.SeriesCall.{SeriesCall}
use Rattle.metrics_core.specs.declared.kinds.MetricKind.{MetricKind}
use Rattle.metrics_core.specs.declared.kinds.MetricKind.TheVariants as kinds
use Rattle.metrics_core.specs.declared.kinds.SeriesId.{SeriesId}
use Rattle.metrics_registry.specs.Live.{LiveSeries, AreOf, IsNumbered, id_eq}
use Rattle.dsd_exporter.specs.declared.lanes.SeriesCell.{SeriesCell}
use Rattle.dsd_exporter.specs.declared.lanes.SeriesEntry.{SeriesEntry}
use Rattle.dsd_exporter.specs.CallSteps.{IsCounterCall, IsGaugeCall, after_calls, counter_step, gauge_step, records_some, samples_step}
use Rattle.dsd_exporter.specs.Exporter.{Exporter, CounterThing, GaugeThing, Queued, counter_seen, gauge_seen, samples_seen, state_seen}
use Rattle.dsd_exporter.specs.LanePasses.{counter_thing, entries_made, frame_of, gauge_thing, histogram_thing, ids_of, things_of, unheard_series, unseen}
use Rattle.dsd_exporter.specs.State.{with_cell_of}
use Rattle.dsd_exporter.proofs.CallsTaken.{Takes, counter_thing_takes, gauge_thing_takes, histogram_thing_takes}
use Rattle.drive_script.specs.Script as text
use Rattle.drive_script.specs.Script.{CallLine, RoundText}
use Rattle.drive_script.specs.Texts.{act_of, call_line_of}
use Rattle.drive_script.specs.declared.script.CallLine.{CallLine as CallValue}
use Rattle.drive_script.specs.declared.script.Act.{Act}
use Rattle.drive_script.specs.declared.script.Act.TheVariants as acts
use Rattle.script_player.specs.Fitting.{FitsHandle}
use Rattle.script_player.specs.Flushes.{FlushPlay, AreFlushOrders, IsFlushCalled, after_order, all_after, is_call_for, series_call}
use Rattle.script_player.specs.LaneCalls.{asked, calls_at, id_at, is_at, lines_at}
use Rattle.script_player.specs.Play.{RoundOrders, IsOrderOf}
use Rattle.script_player.specs.Recorded.{RecordsSome}
use Rattle.script_player.proofs.AfterLanes.{each_at, head_same, is_order, tail_same}
use Rattle.script_player.proofs.LaneOrders.{taken_map}
use Rattle.script_player.proofs.LaneSteps.{counter≢gauge, counter≢histogram, gauge≢histogram, get_of, its_id, kind_at}
use Rattle.script_player.proofs.Numbers.{Under, asked_on, each_under, number_at, number_of, numbers_differ, order_under, taken_under, told_on, told_under}
use Rattle.script_player.proofs.RestingSteps.{first_at, last_at, left_at, next_at}

-- ---- what acts ask of a series

act_asked : (moment : ℕ) (act : Act) → series_call moment (act_of act) ≡ asked moment act
act_asked moment (acts.Inc n) = refl
act_asked moment (acts.Abs n) = refl
act_asked moment (acts.Add v) = refl
act_asked moment (acts.Sub v) = refl
act_asked moment (acts.Set v) = refl
act_asked moment (acts.Rec v) = refl
act_asked moment (acts.RecN v n) = refl

acts_asked : (moment : ℕ) (ys : List CallValue) → map (λ (c : CallLine). series_call moment c.act) (map call_line_of ys) ≡ map (λ (line : CallValue). asked moment line.act) ys
acts_asked moment [] = refl
acts_asked moment (y ∷ ys) = (λ i. act_asked moment y.act i ∷ acts_asked moment ys i)

-- what the lines ask for in this order is what was called
asked_lines : (ids handles : List SeriesId) (j moment : ℕ) (order : List ℕ) (lines : List CallValue)
    → map (λ (c : CallLine). series_call moment c.act) (taken order (λ l. map call_line_of (lines_at ids handles l j lines))) ≡ taken order (λ l. calls_at moment ids handles l j lines)
asked_lines ids handles j moment order lines =
    taken_map (λ (c : CallLine). series_call moment c.act) order (λ l. map call_line_of (lines_at ids handles l j lines)) ∙ ap (taken order) (λ i l. acts_asked moment (lines_at ids handles l j lines) i)

abbrev RecordsSample : SeriesCall → Type 0
RecordsSample call = records_some call ≡ true

module _ (moment : ℕ) where
  counter_act : (act : Act) → text.kind_of (act_of act) ≡ kinds.Counter → RecordsSome (act_of act) → IsCounterCall (asked moment act)
  counter_act (acts.Inc n) is counted = tt
  counter_act (acts.Abs n) is counted = tt
  counter_act (acts.Add v) is counted = absurd (counter≢gauge (sym is))
  counter_act (acts.Sub v) is counted = absurd (counter≢gauge (sym is))
  counter_act (acts.Set v) is counted = absurd (counter≢gauge (sym is))
  counter_act (acts.Rec v) is counted = absurd (counter≢histogram (sym is))
  counter_act (acts.RecN v n) is counted = absurd (counter≢histogram (sym is))

  gauge_act : (act : Act) → text.kind_of (act_of act) ≡ kinds.Gauge → RecordsSome (act_of act) → IsGaugeCall (asked moment act)
  gauge_act (acts.Inc n) is counted = absurd (counter≢gauge is)
  gauge_act (acts.Abs n) is counted = absurd (counter≢gauge is)
  gauge_act (acts.Add v) is counted = tt
  gauge_act (acts.Sub v) is counted = tt
  gauge_act (acts.Set v) is counted = tt
  gauge_act (acts.Rec v) is counted = absurd (gauge≢histogram (sym is))
  gauge_act (acts.RecN v n) is counted = absurd (gauge≢histogram (sym is))

  histogram_act : (act : Act) → text.kind_of (act_of act) ≡ kinds.Histogram → RecordsSome (act_of act) → RecordsSample (asked moment act)
  histogram_act (acts.Inc n) is counted = absurd (counter≢histogram is)
  histogram_act (acts.Abs n) is counted = absurd (counter≢histogram is)
  histogram_act (acts.Add v) is counted = absurd (gauge≢histogram is)
  histogram_act (acts.Sub v) is counted = absurd (gauge≢histogram is)
  histogram_act (acts.Set v) is counted = absurd (gauge≢histogram is)
  histogram_act (acts.Rec v) is counted = refl
  histogram_act (acts.RecN v zero) is counted = absurd (omega (arith, counted))
  histogram_act (acts.RecN v (suc n)) is counted = refl

-- ---- the series of one kind

-- the series after their calls, in some order on each
abbrev HaveFlushOrders : {S : Type 0} → (SeriesCall → S → S) → List SeriesId → List CallValue → ℕ → List (LiveSeries S) → List (LiveSeries S) → Type 0
HaveFlushOrders step handles lines moment old new =
    (orders : List (List CallLine)) × AllZip (λ s order. IsOrderOf (filter (is_call_for handles s.id) (map call_line_of lines)) order) old orders × (new ≡ all_after step moment old orders)

module _ {X S : Type 0} (seen : X → S) (left : LiveSeries X → LiveSeries X) (same : (s t : LiveSeries X) → left t ≡ left s → (t.id ≡ s.id) × (t.key ≡ s.key)) (step : SeriesCall → S → S) (ids handles : List SeriesId) (lines : List CallValue) (moment : ℕ) where
  -- series j took its calls in an order
  abbrev TookAt : ℕ → LiveSeries X → LiveSeries X → Type 0
  TookAt j s t = Takes step (λ l. calls_at moment ids handles l j lines) (seen s.cell) (seen t.cell)

  called_at : (j : ℕ) (s : LiveSeries X) → get_elem? ids j ≡ some s.id → (line : CallValue) → is_call_for handles s.id (call_line_of line) ≡ is_at ids handles j line
  called_at j s at line =
      let own : (id : SeriesId) → id_eq s.id id ≡ id_at ids j id = λ id. sym (ap (λ o. unwrap_or (option_map (λ (x : SeriesId). id_eq x id) o) false) (get_of ids j s.id at)) in
      (λ i. unwrap_or (option_map (λ id. own id i) (slice_get handles line.handle)) false)

  after_one : (j : ℕ) (s t : LiveSeries X) (took : TookAt j s t) → left t ≡ left s → with_cell_of seen t ≡ after_order step moment (with_cell_of seen s) (taken took.0 (λ l. map call_line_of (lines_at ids handles l j lines)))
  after_one j s t took frame =
      let is = same s t frame in
      let calls = took.2 ∙ ap (λ cs. after_calls step cs (seen s.cell)) (sym (asked_lines ids handles j moment took.0 lines)) in
      (λ i. record { id = is.0 i; key = is.1 i; cell = calls i })

  -- the orders of all series of the kind
  collect : (k : ℕ) (es fs : List (LiveSeries X)) → map left fs ≡ map left es → ((i : ℕ) (s : LiveSeries X) → get_elem? es i ≡ some s → get_elem? ids (k + i) ≡ some s.id)
      → ((i : ℕ) (s t : LiveSeries X) → get_elem? es i ≡ some s → get_elem? fs i ≡ some t → TookAt (k + i) s t)
      → HaveFlushOrders step handles lines moment (map (with_cell_of seen) es) (map (with_cell_of seen) fs)
  collect k [] [] frame at took = ([], tt, refl)
  collect k [] (f ∷ fs) frame at took = absurd cc
  collect k (e ∷ es) [] frame at took = absurd cc
  collect k (e ∷ es) (f ∷ fs) frame at took =
      let first : get_elem? ids k ≡ some e.id = subst (λ n. get_elem? ids n ≡ some e.id) (omega arith) (at 0 e refl) in
      let own : TookAt k e f = subst (λ n. TookAt n e f) (omega arith) (took 0 e f refl refl) in
      let rest = collect (suc k) es fs (tail_same frame) (λ i s p. subst (λ n. get_elem? ids n ≡ some s.id) (omega arith) (at (suc i) s p)) (λ i s t p q. subst (λ n. TookAt n s t) (omega arith) (took (suc i) s t p q)) in
      let order = taken own.0 (λ l. map call_line_of (lines_at ids handles l k lines)) in
      (order ∷ rest.0, (is_order moment ids handles k (is_call_for handles e.id) (called_at k e first) own.0 lines own.1, rest.1), (λ i. after_one k e f own (head_same frame) i ∷ rest.2 i))

-- ---- the exporter

module _ (e : Exporter) where
  counter_at : (i : ℕ) (s : LiveSeries CounterThing) → get_elem? e.series.counters i ≡ some s → get_elem? (things_of e) i ≡ some (counter_thing s)
  counter_at = first_at counter_thing e.series.counters (map gauge_thing e.series.gauges ++ map histogram_thing e.series.histograms)

  gauge_at : (k : ℕ) (s : LiveSeries GaugeThing) → get_elem? e.series.gauges k ≡ some s → get_elem? (things_of e) (length e.series.counters + k) ≡ some (gauge_thing s)
  gauge_at = next_at counter_thing gauge_thing e.series.counters e.series.gauges (map histogram_thing e.series.histograms)

  histogram_at : (k : ℕ) (s : LiveSeries Queued) → get_elem? e.series.histograms k ≡ some s → get_elem? (things_of e) (length e.series.counters + (length e.series.gauges + k)) ≡ some (histogram_thing s)
  histogram_at = last_at counter_thing gauge_thing histogram_thing e.series.counters e.series.gauges e.series.histograms

  counter_id : (i : ℕ) (s : LiveSeries CounterThing) → get_elem? e.series.counters i ≡ some s → get_elem? (ids_of e) i ≡ some s.id
  counter_id = first_at its_id e.series.counters (map its_id e.series.gauges ++ map its_id e.series.histograms)

  gauge_id : (k : ℕ) (s : LiveSeries GaugeThing) → get_elem? e.series.gauges k ≡ some s → get_elem? (ids_of e) (length e.series.counters + k) ≡ some s.id
  gauge_id = next_at its_id its_id e.series.counters e.series.gauges (map its_id e.series.histograms)

  histogram_id : (k : ℕ) (s : LiveSeries Queued) → get_elem? e.series.histograms k ≡ some s → get_elem? (ids_of e) (length e.series.counters + (length e.series.gauges + k)) ≡ some s.id
  histogram_id = last_at its_id its_id its_id e.series.counters e.series.gauges e.series.histograms

pub its_kind : {X : Type 0} (kind : MetricKind) (n : ℕ) (es : List (LiveSeries X)) → AreOf kind n es → (i : ℕ) (s : LiveSeries X) → get_elem? es i ≡ some s → s.id.kind ≡ kind
its_kind kind n es are i s at = kind_at kind n es are i s.id (at_map its_id es i s at)

-- a cell or a gauge stays the series that it was, and so does a histogram
same_series : {M F : Type 0} (s t : LiveSeries (Thing M (Option F))) → unseen t ≡ unseen s → (t.id ≡ s.id) × (t.key ≡ s.key)
same_series {M} {F} s t e = (ap (λ (x : LiveSeries (Thing M (Option F))). x.id) e, ap (λ (x : LiveSeries (Thing M (Option F))). x.key) e)

same_histogram : (s t : LiveSeries Queued) → unheard_series t ≡ unheard_series s → (t.id ≡ s.id) × (t.key ≡ s.key)
same_histogram s t e = (ap (λ (x : LiveSeries Queued). x.id) e, ap (λ (x : LiveSeries Queued). x.key) e)

module _ (moment : ℕ) (e f : Exporter) (handles : List SeriesId) (lines : List CallValue) (marks : List Bool) where
  -- what the lane with this number asks for on the series under an index
  abbrev pub asked_at : ℕ → ℕ → List SeriesCall
  asked_at j l = calls_at moment (ids_of e) handles l j lines

  abbrev before : FlushPlay
  before = record { dogstatsd = state_seen marks e; handles = handles }

  abbrev after : FlushPlay
  after = record { dogstatsd = state_seen marks f; handles = handles }

  -- each history grew by what these lists stand as
  abbrev pub EachGrew : (ℕ → ℕ → List SeriesCall) → Type 0
  EachGrew own = (j : ℕ) (c d : Thing SeriesEntry SeriesCell) → get_elem? (things_of e) j ≡ some c → get_elem? (things_of f) j ≡ some d → GrewInOrder (λ l. flat_map entries_made (own j l)) c.root.seen d.root.seen

  module _ (number : ℕ → ℕ) (count : ℕ) (apart : (i k : ℕ) → i < count → k < count → number i ≡ number k → i ≡ k) (own : ℕ → ℕ → List SeriesCall) (under : (j : ℕ) → Under number count apart (own j) (asked_at j)) where
    -- what was taken lane by lane, by the lanes' numbers
    by_numbers : {S : Type 0} (step : SeriesCall → S → S) (j : ℕ) (old new : S) → Takes step (own j) old new → Takes step (asked_at j) old new
    by_numbers step j old new took = (
      map number took.0,
      order_under number count apart took.0 (own j) (asked_at j) (under j) took.1,
      took.2 ∙ ap (λ cs. after_calls step cs old) (sym (taken_under number count apart took.0 (own j) (asked_at j) (under j) took.1)),
    )

    module _ (numbered : IsNumbered e.series) (frame : frame_of f ≡ frame_of e) (grew : EachGrew own) (fits : All (λ (line : CallValue). FitsHandle handles (call_line_of line)) lines)
        (some_are : All (λ (call : CallLine). RecordsSome call.act) (map call_line_of lines)) where
      -- all lanes ask a series for calls of its kind
      each_asked : (P : SeriesCall → Type 0) (kind : MetricKind) → ((act : Act) → text.kind_of (act_of act) ≡ kind → RecordsSome (act_of act) → P (asked moment act)) → (j : ℕ) (id : SeriesId) → get_elem? (ids_of e) j ≡ some id → id.kind ≡ kind
          → (l : ℕ) → AllByRecursion P (own j l)
      each_asked P kind of j id at is =
          each_under number count apart (own j) (asked_at j) (under j) (AllByRecursion P) tt (λ l. each_at moment P kind of (ids_of e) handles j l id at is lines fits some_are)

      more_counters : length f.series.counters ≡ length e.series.counters
      more_counters = sym (length-map f.series.counters unseen) ∙ ap (λ (x : Exporter). length x.series.counters) frame ∙ length-map e.series.counters unseen

      more_gauges : length f.series.gauges ≡ length e.series.gauges
      more_gauges = sym (length-map f.series.gauges unseen) ∙ ap (λ (x : Exporter). length x.series.gauges) frame ∙ length-map e.series.gauges unseen

      counter_took : (i : ℕ) (s t : LiveSeries CounterThing) → get_elem? e.series.counters i ≡ some s → get_elem? f.series.counters i ≡ some t → Takes counter_step (asked_at i) (counter_seen s.cell) (counter_seen t.cell)
      counter_took i s t at at' =
          let all = each_asked IsCounterCall kinds.Counter (counter_act moment) i s.id (counter_id e i s at) (its_kind kinds.Counter e.series.made e.series.counters numbered.counters.1 i s at) in
          by_numbers counter_step i (counter_seen s.cell) (counter_seen t.cell) (counter_thing_takes s t (own i) all (grew i (counter_thing s) (counter_thing t) (counter_at e i s at) (counter_at f i t at')))

      gauge_took : (k : ℕ) (s t : LiveSeries GaugeThing) → get_elem? e.series.gauges k ≡ some s → get_elem? f.series.gauges k ≡ some t
          → Takes gauge_step (asked_at (length e.series.counters + k)) (gauge_seen s.cell) (gauge_seen t.cell)
      gauge_took k s t at at' =
          let j = length e.series.counters + k in
          let all = each_asked IsGaugeCall kinds.Gauge (gauge_act moment) j s.id (gauge_id e k s at) (its_kind kinds.Gauge e.series.made e.series.gauges numbered.gauges.1 k s at) in
          let there = subst (λ n. get_elem? (things_of f) (n + k) ≡ some (gauge_thing t)) more_counters (gauge_at f k t at') in
          by_numbers gauge_step j (gauge_seen s.cell) (gauge_seen t.cell) (gauge_thing_takes s t (own j) all (grew j (gauge_thing s) (gauge_thing t) (gauge_at e k s at) there))

      -- what was taken out of a queue stays
      same_taken : (k : ℕ) (s t : LiveSeries Queued) → get_elem? e.series.histograms k ≡ some s → get_elem? f.series.histograms k ≡ some t → t.cell.taken ≡ s.cell.taken
      same_taken k s t at at' =
          let (other, other_at, left) = left_at unheard_series e.series.histograms f.series.histograms (ap (λ (x : Exporter). x.series.histograms) frame) k t at' in
          ap (λ (x : LiveSeries Queued). x.cell.taken) (sym left ∙ ap unheard_series (one_at e.series.histograms k other s other_at at))

      histogram_took : (k : ℕ) (s t : LiveSeries Queued) → get_elem? e.series.histograms k ≡ some s → get_elem? f.series.histograms k ≡ some t
          → Takes samples_step (asked_at (length e.series.counters + (length e.series.gauges + k))) (samples_seen s.cell) (samples_seen t.cell)
      histogram_took k s t at at' =
          let j = length e.series.counters + (length e.series.gauges + k) in
          let all = each_asked RecordsSample kinds.Histogram (histogram_act moment) j s.id (histogram_id e k s at) (its_kind kinds.Histogram e.series.made e.series.histograms numbered.histograms.1 k s at) in
          let there = subst (λ n. get_elem? (things_of f) n ≡ some (histogram_thing t)) (λ i. more_counters i + (more_gauges i + k)) (histogram_at f k t at') in
          by_numbers samples_step j (samples_seen s.cell) (samples_seen t.cell) (histogram_thing_takes s t (own j) (same_taken k s t at at') all (grew j (histogram_thing s) (histogram_thing t) (histogram_at e k s at) there))

      -- the series of the state before have their calls of the round in some order on each, and are then those of the state after
      pub round_called : (round : RoundText) → round.moment ≡ moment → round.calls ≡ map call_line_of lines → IsFlushCalled before round after
      round_called round when are =
          let counters = collect counter_seen unseen same_series counter_step (ids_of e) handles lines moment 0 e.series.counters f.series.counters (ap (λ (x : Exporter). x.series.counters) frame)
          (λ i s at. subst (λ n. get_elem? (ids_of e) n ≡ some s.id) (omega arith) (counter_id e i s at))
          (λ i s t at at'. subst (λ n. Takes counter_step (asked_at n) (counter_seen s.cell) (counter_seen t.cell)) (omega arith) (counter_took i s t at at')) in
          let gauges = collect gauge_seen unseen same_series gauge_step (ids_of e) handles lines moment (length e.series.counters) e.series.gauges f.series.gauges (ap (λ (x : Exporter). x.series.gauges) frame) (gauge_id e) gauge_took in
          let histograms = collect samples_seen unheard_series same_histogram samples_step (ids_of e) handles lines moment (length e.series.counters + length e.series.gauges) e.series.histograms f.series.histograms (ap (λ (x : Exporter). x.series.histograms) frame)
          (λ i s at. subst (λ n. get_elem? (ids_of e) n ≡ some s.id) (omega arith) (histogram_id e i s at))
          (λ i s t at at'. subst (λ n. Takes samples_step (asked_at n) (samples_seen s.cell) (samples_seen t.cell)) (omega arith) (histogram_took i s t at at')) in
          let orders : RoundOrders = record { counters = counters.0; gauges = gauges.0; histograms = histograms.0 } in
          let asked_for : AreFlushOrders before (record { moment = moment; setup = round.setup; calls = map call_line_of lines }) orders = record { counters = counters.1; gauges = gauges.1; histograms = histograms.1 } in
          subst (λ cs. IsFlushCalled before (record { moment = round.moment; setup = round.setup; calls = cs }) after) (sym are)
          (subst (λ n. IsFlushCalled before (record { moment = n; setup = round.setup; calls = map call_line_of lines }) after) (sym when) (
            orders,
            asked_for,
            (λ i. record { dogstatsd = record { series = record { counters = counters.2 i; gauges = gauges.2 i; histograms = histograms.2 i; made = (frame i).series.made }; idle = marks }; handles = handles }),
          ))

  -- the same of lanes whose calls on a series are those that they ask for of this exporter
  module _ {K : Type 0} (asks : K → List SeriesCall) (lanes : List (LaneText K)) (apart : Distinct (map number_of lanes)) (same : (j l : ℕ) → told_on asks j lanes l ≡ asked_at j l) where
    pub lanes_called : IsNumbered e.series → frame_of f ≡ frame_of e → EachGrew (λ j. asked_on asks j lanes) → All (λ (line : CallValue). FitsHandle handles (call_line_of line)) lines
        → All (λ (call : CallLine). RecordsSome call.act) (map call_line_of lines) → (round : RoundText) → round.moment ≡ moment → round.calls ≡ map call_line_of lines → IsFlushCalled before round after
    lanes_called =
        round_called (number_at lanes) (length lanes) (numbers_differ lanes apart) (λ j. asked_on asks j lanes)
        (λ j. subst (λ (ys : ℕ → List SeriesCall). Under (number_at lanes) (length lanes) (numbers_differ lanes apart) (asked_on asks j lanes) ys) (λ i l. same j l i) (told_under asks j lanes apart))
