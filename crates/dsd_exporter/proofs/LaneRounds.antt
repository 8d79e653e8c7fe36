-- What a round of lanes leaves of the sequential state.
use Rattle.std.proofs.Common.{◌≡◌, ℕ, ◌+◌, List, length, map, refl, sym, ap, subst, ◌∙◌}
use Rattle.std.specs.Prelude.{flat_map}
use Rattle.std.specs.List.{AllByRecursion}
use Rattle.std.proofs.lemmas.List.{length-map}
use mathlib.Core.Option.{some}
use lib.ListN.{get_elem?}
use Rattle.atomic_table.proofs.Lists.{at_map}
use Rattle.legal_history.proofs.Steps.{one_at}
use Rattle.legal_history.specs.declared.history.View.{View}
use Rattle.legal_history.specs.Order.{GrewInOrder}
use Rattle.legal_history.specs.Mapped.{IsOneToOne, mapped_view}
use Rattle.cell_lanes.specs.Lines.{LaneText}
use Rattle.cell_lanes.specs.Things.{root_of, fixed_of}
use Rattle.cell_lanes.specs.Lanes.{all_calls_on, calls_on}
use Rattle.cell_lanes.proofs.Asked.{all_weaker, asked_is_taken}
use Rattle.cell_lanes.proofs.Jobs.{all_calls}
use Rattle.cell_lanes.proofs.Mapped.{StandsAsImages, grew_own}
use Rattle.metrics_core.specs.declared.calls.SeriesCall.{SeriesCall}
use Rattle.metrics_registry.specs.Live.{LiveSeries}
use Rattle.dsd_exporter.specs.declared.lanes.SeriesEntry.{SeriesEntry}
use Rattle.dsd_exporter.specs.declared.lanes.SeriesEntry.TheVariants as entry
use Rattle.dsd_exporter.specs.State.{with_cell_of}
use Rattle.dsd_exporter.specs.CallSteps.{counter_step, gauge_step, samples_step}
use Rattle.dsd_exporter.specs.Exporter.{Exporter, CounterThing, GaugeThing, Queued, counter_seen, gauge_seen, samples_seen}
use Rattle.dsd_exporter.specs.LanePasses.{TakesCall, StandsAsEntries, counter_thing, gauge_thing, histogram_thing, entries_made, counter_calls, gauge_calls, queue_calls, things_of, unseen, unheard_series}
use Rattle.dsd_exporter.specs.LaneIndices.{gauge_index, histogram_index}
use Rattle.dsd_exporter.specs.LaneRounds.{IsRound, TookCalls, LeavesCounters, LeavesGauges, LeavesHistograms, records_on}
use Rattle.dsd_exporter.proofs.CallsTaken.{all_kept, one_counter, one_gauge, one_queue, counter_takes, gauge_takes, histogram_takes_records}
use Rattle.dsd_exporter.proofs.CallKinds.{counter_entries, gauge_entries, histogram_entries}
use Rattle.dsd_exporter.proofs.LaneIndices.{counter_has, gauge_has, histogram_has, image_at}
use Rattle.dsd_exporter.proofs.LaneThings.{SeriesThing}

-- ---- a round

module _ (lanes : List (LaneText SeriesCall)) (old new : Exporter) (round : IsRound lanes old new) where
  all_of : (l j : ℕ) → calls_on j lanes round.done l ≡ all_calls_on j lanes l
  all_of l j = all_calls j lanes round.done l round.all_done

  -- what is asked for on a thing is taken by it
  taken_on : (j : ℕ) (t : SeriesThing) → get_elem? (things_of old) j ≡ some t → (l : ℕ) → AllByRecursion (TakesCall t.fixed) (calls_on j lanes round.done l)
  taken_on j t here l = asked_is_taken fixed_of TakesCall (things_of old) lanes round.done j t round.fit round.taken here l

  all_taken_on : (j : ℕ) (t : SeriesThing) → get_elem? (things_of old) j ≡ some t → (l : ℕ) → AllByRecursion (TakesCall t.fixed) (all_calls_on j lanes l)
  all_taken_on j t here l = subst (AllByRecursion (TakesCall t.fixed)) (all_of l j) (taken_on j t here l)

  -- a thing whose calls stand as images of others grew by these
  grew_at : {C : Type 0} (f : C → SeriesEntry) (once : IsOneToOne f) (makes : SeriesCall → List C) (j : ℕ) (s t : SeriesThing) (v w : View C)
      → root_of s ≡ mapped_view f v → root_of t ≡ mapped_view f w → get_elem? (things_of old) j ≡ some s → get_elem? (things_of new) j ≡ some t
      → ((c : SeriesCall) → TakesCall s.fixed c → entries_made c ≡ map f (makes c))
      → GrewInOrder (λ l. flat_map makes (all_calls_on j lanes l)) v.seen w.seen
  grew_at {C} f once makes j s t v w from to here there image =
      let images : (l : ℕ) → AllByRecursion (StandsAsImages f StandsAsEntries makes) (calls_on j lanes round.done l) =
      λ l. all_weaker (TakesCall s.fixed) (StandsAsImages f StandsAsEntries makes) (λ c takes made stands. stands ∙ image c takes) (calls_on j lanes round.done l) (taken_on j s here l) in
      subst (λ (ls : ℕ → List C). GrewInOrder ls v.seen w.seen) (λ i l. flat_map makes (all_of l j i))
      (grew_own f StandsAsEntries makes once root_of lanes round.done j s t v w from to images (round.grew j s t here there))

  as_many_counters : length new.series.counters ≡ length old.series.counters
  as_many_counters = sym (length-map new.series.counters unseen) ∙ ap (λ (x : Exporter). length x.series.counters) round.frame ∙ length-map old.series.counters unseen

  as_many_gauges : length new.series.gauges ≡ length old.series.gauges
  as_many_gauges = sym (length-map new.series.gauges unseen) ∙ ap (λ (x : Exporter). length x.series.gauges) round.frame ∙ length-map old.series.gauges unseen

  as_many_histograms : length new.series.histograms ≡ length old.series.histograms
  as_many_histograms = sym (length-map new.series.histograms unheard_series) ∙ ap (λ (x : Exporter). length x.series.histograms) round.frame ∙ length-map old.series.histograms unheard_series

  -- what stands at a place stays as lanes leave it
  same_counter : (place : ℕ) (s t : LiveSeries CounterThing) → get_elem? old.series.counters place ≡ some s → get_elem? new.series.counters place ≡ some t → unseen t ≡ unseen s
  same_counter place s t at at' =
      one_at (map unseen old.series.counters) place (unseen t) (unseen s)
      (subst (λ l. get_elem? l place ≡ some (unseen t)) (ap (λ (x : Exporter). x.series.counters) round.frame) (at_map unseen new.series.counters place t at'))
      (at_map unseen old.series.counters place s at)

  same_gauge : (place : ℕ) (s t : LiveSeries GaugeThing) → get_elem? old.series.gauges place ≡ some s → get_elem? new.series.gauges place ≡ some t → unseen t ≡ unseen s
  same_gauge place s t at at' =
      one_at (map unseen old.series.gauges) place (unseen t) (unseen s)
      (subst (λ l. get_elem? l place ≡ some (unseen t)) (ap (λ (x : Exporter). x.series.gauges) round.frame) (at_map unseen new.series.gauges place t at'))
      (at_map unseen old.series.gauges place s at)

  same_histogram : (place : ℕ) (s t : LiveSeries Queued) → get_elem? old.series.histograms place ≡ some s → get_elem? new.series.histograms place ≡ some t → unheard_series t ≡ unheard_series s
  same_histogram place s t at at' =
      one_at (map unheard_series old.series.histograms) place (unheard_series t) (unheard_series s)
      (subst (λ l. get_elem? l place ≡ some (unheard_series t)) (ap (λ (x : Exporter). x.series.histograms) round.frame) (at_map unheard_series new.series.histograms place t at'))
      (at_map unheard_series old.series.histograms place s at)

  counter_took : (place : ℕ) (s t : LiveSeries CounterThing) → get_elem? old.series.counters place ≡ some s → get_elem? new.series.counters place ≡ some t
      → TookCalls counter_step (all_calls_on place lanes) (with_cell_of counter_seen s) (with_cell_of counter_seen t)
  counter_took place s t at at' =
      let here = (counter_has old place s at).0 in
      let took = counter_takes s.cell t.cell (all_calls_on place lanes) (all_taken_on place (counter_thing s) here)
      (grew_at entry.Counter one_counter counter_calls place (counter_thing s) (counter_thing t) s.cell.root t.cell.root refl refl here (counter_has new place t at').0 (λ c takes. sym (counter_entries c takes))) in
      let same = same_counter place s t at at' in
      record {
        id = ap (λ (x : LiveSeries CounterThing). x.id) same;
        key = ap (λ (x : LiveSeries CounterThing). x.key) same;
        order = took.0;
        is_order = took.1;
        called = took.2;
      }

  gauge_took : (place : ℕ) (s t : LiveSeries GaugeThing) → get_elem? old.series.gauges place ≡ some s → get_elem? new.series.gauges place ≡ some t
      → TookCalls gauge_step (all_calls_on (gauge_index old place) lanes) (with_cell_of gauge_seen s) (with_cell_of gauge_seen t)
  gauge_took place s t at at' =
      let j = gauge_index old place in
      let here = (gauge_has old place s at).0 in
      let there = subst (λ n. get_elem? (things_of new) (n + place) ≡ some (gauge_thing t)) as_many_counters (gauge_has new place t at').0 in
      let took = gauge_takes s.cell t.cell (all_calls_on j lanes) (all_taken_on j (gauge_thing s) here)
      (grew_at entry.Gauge one_gauge gauge_calls j (gauge_thing s) (gauge_thing t) s.cell.root t.cell.root refl refl here there (λ c takes. sym (gauge_entries c takes))) in
      let same = same_gauge place s t at at' in
      record {
        id = ap (λ (x : LiveSeries GaugeThing). x.id) same;
        key = ap (λ (x : LiveSeries GaugeThing). x.key) same;
        order = took.0;
        is_order = took.1;
        called = took.2;
      }

  histogram_took : (place : ℕ) (s t : LiveSeries Queued) → get_elem? old.series.histograms place ≡ some s → get_elem? new.series.histograms place ≡ some t
      → TookCalls samples_step (records_on (histogram_index old place) lanes) (with_cell_of samples_seen s) (with_cell_of samples_seen t)
  histogram_took place s t at at' =
      let j = histogram_index old place in
      let here = (histogram_has old place s at).0 in
      let there = subst (λ n. get_elem? (things_of new) n ≡ some (histogram_thing t)) (λ i. as_many_counters i + (as_many_gauges i + place)) (histogram_has new place t at').0 in
      let same = same_histogram place s t at at' in
      let took = histogram_takes_records s.cell t.cell (all_calls_on j lanes) (ap (λ (x : LiveSeries Queued). x.cell.taken) same)
      (grew_at entry.Histogram one_queue queue_calls j (histogram_thing s) (histogram_thing t) s.cell.root t.cell.root refl refl here there (λ c takes. sym (histogram_entries c takes))) in
      record {
        id = ap (λ (x : LiveSeries Queued). x.id) same;
        key = ap (λ (x : LiveSeries Queued). x.key) same;
        order = took.0;
        is_order = took.1;
        called = took.2;
      }

  pub leaves_counters : LeavesCounters lanes old new
  leaves_counters = (
    as_many_counters,
    λ place x y here there.
        let s = image_at (with_cell_of counter_seen) old.series.counters place x here in
        let t = image_at (with_cell_of counter_seen) new.series.counters place y there in
        subst (TookCalls counter_step (all_calls_on place lanes) x) t.2
        (subst (λ z. TookCalls counter_step (all_calls_on place lanes) z (with_cell_of counter_seen t.0)) s.2 (counter_took place s.0 t.0 s.1 t.1)),
  )

  pub leaves_gauges : LeavesGauges lanes old new
  leaves_gauges = (
    as_many_gauges,
    λ place x y here there.
        let lists = all_calls_on (gauge_index old place) lanes in
        let s = image_at (with_cell_of gauge_seen) old.series.gauges place x here in
        let t = image_at (with_cell_of gauge_seen) new.series.gauges place y there in
        subst (TookCalls gauge_step lists x) t.2
        (subst (λ z. TookCalls gauge_step lists z (with_cell_of gauge_seen t.0)) s.2 (gauge_took place s.0 t.0 s.1 t.1)),
  )

  pub leaves_histograms : LeavesHistograms lanes old new
  leaves_histograms = (
    as_many_histograms,
    λ place x y here there.
        let lists = records_on (histogram_index old place) lanes in
        let s = image_at (with_cell_of samples_seen) old.series.histograms place x here in
        let t = image_at (with_cell_of samples_seen) new.series.histograms place y there in
        let took = subst (TookCalls samples_step lists x) t.2
        (subst (λ z. TookCalls samples_step lists z (with_cell_of samples_seen t.0)) s.2 (histogram_took place s.0 t.0 s.1 t.1)) in
        (took, λ all. subst (λ (ls : ℕ → List SeriesCall). TookCalls samples_step ls x y) (λ i l. all_kept (all_calls_on (histogram_index old place) lanes l) (all l) i) took),
  )
