-- What a round of lanes over both exporters leaves of each.
use Rattle.std.proofs.Common.{◌≡◌, ℕ, ◌+◌, List, [], ◌∷◌, ◌++◌, length, map, refl, sym, ap, subst, ◌∙◌, append_assoc, length-append}
use Rattle.std.specs.Prelude.{flat_map}
use Rattle.std.specs.List.{AllByRecursion}
use Rattle.std.proofs.lemmas.List.{append-nil, length-map}
use mathlib.Core.Option.{some}
use lib.ListN.{get_elem?}
use Rattle.legal_history.specs.Order.{GrewInOrder}
use Rattle.cell_lanes.specs.Lines.{LaneText}
use Rattle.cell_lanes.specs.Things.{fixed_of, root_of}
use Rattle.cell_lanes.specs.Lanes.{all_calls_on, calls_on}
use Rattle.cell_lanes.proofs.Asked.{all_weaker, asked_is_taken}
use Rattle.cell_lanes.proofs.Jobs.{all_calls}
use Rattle.cell_lanes.proofs.Mapped.{StandsAsImages, grew_own}
use Rattle.prom_exporter.specs.declared.lanes.SeriesCell.{SeriesCell as PrometheusCell}
use Rattle.prom_exporter.specs.declared.lanes.SeriesEntry.{SeriesEntry as PrometheusEntry}
use Rattle.prom_exporter.specs.Exporter.{Exporter as PrometheusExporter}
use Rattle.prom_exporter.specs.LanePasses as P
use Rattle.dsd_exporter.specs.declared.lanes.SeriesCell.{SeriesCell as DogStatsDCell}
use Rattle.dsd_exporter.specs.declared.lanes.SeriesEntry.{SeriesEntry as DogStatsDEntry}
use Rattle.dsd_exporter.specs.Exporter.{Exporter as DogStatsDExporter}
use Rattle.dsd_exporter.specs.LanePasses as D
use Rattle.exporter_lanes.specs.declared.exporters.Exporters.{Exporters}
use Rattle.exporter_lanes.specs.declared.exporters.ExporterCall.{ExporterCall}
use Rattle.exporter_lanes.specs.declared.exporters.ExporterCall.TheVariants as calls
use Rattle.exporter_lanes.specs.declared.exporters.ExporterCell.TheVariants as cells
use Rattle.exporter_lanes.specs.declared.exporters.ExporterEntry.TheVariants as entries
use Rattle.exporter_lanes.specs.ExporterLanes.{ExporterThing, StandsAsEntries, TakesCall, asks_dogstatsd, asks_prometheus, dogstatsd_thing, dogstatsd_things, first_prometheus, prometheus_thing, prometheus_things, things_of}
use Rattle.exporter_lanes.specs.BothRounds.{DogStatsDGrew, DogStatsDTakes, IsRound, IsRoundOverEach, PrometheusGrew, PrometheusTakes}
use Rattle.exporter_lanes.proofs.Things.{dogstatsd_at, one_dogstatsd, one_prometheus, prometheus_at}

-- ---- what calls make

flat-append : {A B : Type 0} (f : A → List B) (xs ys : List A) → flat_map f (xs ++ ys) ≡ flat_map f xs ++ flat_map f ys
flat-append f [] ys = refl
flat-append f (x ∷ xs) ys = ap (λ l. f x ++ l) (flat-append f xs ys) ∙ sym (append_assoc (f x) (flat_map f xs) (flat_map f ys))

-- one behind the other is both at once
flat_twice : {A B C : Type 0} (f : A → List B) (g : B → List C) (xs : List A) → flat_map (λ x. flat_map g (f x)) xs ≡ flat_map g (flat_map f xs)
flat_twice f g [] = refl
flat_twice f g (x ∷ xs) = ap (λ l. flat_map g (f x) ++ l) (flat_twice f g xs) ∙ sym (flat-append g (f x) (flat_map f xs))

abbrev prometheus_makes : ExporterCall → List PrometheusEntry
prometheus_makes call = flat_map P.entries_made (asks_prometheus call)

abbrev dogstatsd_makes : ExporterCall → List DogStatsDEntry
dogstatsd_makes call = flat_map D.entries_made (asks_dogstatsd call)

-- a call that a cell takes stands as what its exporter makes of it
prometheus_image : (cell : PrometheusCell) (k : ExporterCall) → TakesCall (cells.Prometheus cell) k → StandsAsImages entries.Prometheus StandsAsEntries prometheus_makes k
prometheus_image cell (calls.Prometheus call) takes made stands = stands ∙ ap (map entries.Prometheus) (sym (append-nil (P.entries_made call)))
prometheus_image cell (calls.DogStatsD call) takes made stands = absurd takes

dogstatsd_image : (cell : DogStatsDCell) (k : ExporterCall) → TakesCall (cells.DogStatsD cell) k → StandsAsImages entries.DogStatsD StandsAsEntries dogstatsd_makes k
dogstatsd_image cell (calls.DogStatsD call) takes made stands = stands ∙ ap (map entries.DogStatsD) (sym (append-nil (D.entries_made call)))
dogstatsd_image cell (calls.Prometheus call) takes made stands = absurd takes

-- what a cell takes is asked of its exporter, and taken there
prometheus_taken : (cell : PrometheusCell) (ks : List ExporterCall) → AllByRecursion (TakesCall (cells.Prometheus cell)) ks → AllByRecursion (P.TakesCall cell) (flat_map asks_prometheus ks)
prometheus_taken cell [] all = tt
prometheus_taken cell (calls.Prometheus call ∷ ks) all = (all.0, prometheus_taken cell ks all.1)
prometheus_taken cell (calls.DogStatsD call ∷ ks) all = absurd all.0

dogstatsd_taken : (cell : DogStatsDCell) (ks : List ExporterCall) → AllByRecursion (TakesCall (cells.DogStatsD cell)) ks → AllByRecursion (D.TakesCall cell) (flat_map asks_dogstatsd ks)
dogstatsd_taken cell [] all = tt
dogstatsd_taken cell (calls.DogStatsD call ∷ ks) all = (all.0, dogstatsd_taken cell ks all.1)
dogstatsd_taken cell (calls.Prometheus call ∷ ks) all = absurd all.0

-- ---- what lanes leave has as many things

prometheus_many : (e : PrometheusExporter) → length (P.things_of e) ≡ length e.series.counters + (length e.series.gauges + length e.series.histograms)
prometheus_many e =
    length-append (map P.counter_thing e.series.counters) (map P.gauge_thing e.series.gauges ++ map P.histogram_thing e.series.histograms)
    ∙ (λ i. length-map e.series.counters P.counter_thing i
    + (length-append (map P.gauge_thing e.series.gauges) (map P.histogram_thing e.series.histograms) ∙ (λ j. length-map e.series.gauges P.gauge_thing j + length-map e.series.histograms P.histogram_thing j)) i)

dogstatsd_many : (e : DogStatsDExporter) → length (D.things_of e) ≡ length e.series.counters + (length e.series.gauges + length e.series.histograms)
dogstatsd_many e =
    length-append (map D.counter_thing e.series.counters) (map D.gauge_thing e.series.gauges ++ map D.histogram_thing e.series.histograms)
    ∙ (λ i. length-map e.series.counters D.counter_thing i
    + (length-append (map D.gauge_thing e.series.gauges) (map D.histogram_thing e.series.histograms) ∙ (λ j. length-map e.series.gauges D.gauge_thing j + length-map e.series.histograms D.histogram_thing j)) i)

pub as_many_of_prometheus : (old new : PrometheusExporter) → P.frame_of new ≡ P.frame_of old → length (P.things_of new) ≡ length (P.things_of old)
as_many_of_prometheus old new frame =
    prometheus_many new
    ∙ (λ i. sym (length-map new.series.counters P.unseen) i + (sym (length-map new.series.gauges P.unseen) i + sym (length-map new.series.histograms P.unheard_series) i))
    ∙ ap (λ (x : PrometheusExporter). length x.series.counters + (length x.series.gauges + length x.series.histograms)) frame
    ∙ (λ i. length-map old.series.counters P.unseen i + (length-map old.series.gauges P.unseen i + length-map old.series.histograms P.unheard_series i))
    ∙ sym (prometheus_many old)

pub as_many_of_dogstatsd : (old new : DogStatsDExporter) → D.frame_of new ≡ D.frame_of old → length (D.things_of new) ≡ length (D.things_of old)
as_many_of_dogstatsd old new frame =
    dogstatsd_many new
    ∙ (λ i. sym (length-map new.series.counters D.unseen) i + (sym (length-map new.series.gauges D.unseen) i + sym (length-map new.series.histograms D.unheard_series) i))
    ∙ ap (λ (x : DogStatsDExporter). length x.series.counters + (length x.series.gauges + length x.series.histograms)) frame
    ∙ (λ i. length-map old.series.counters D.unseen i + (length-map old.series.gauges D.unseen i + length-map old.series.histograms D.unheard_series i))
    ∙ sym (dogstatsd_many old)

-- ---- a round

module _ (lanes : List (LaneText ExporterCall)) (old new : Exporters) (round : IsRound lanes old new) where
  pub prometheus_frame : P.frame_of new.prometheus ≡ P.frame_of old.prometheus
  prometheus_frame = ap (λ (e : Exporters). e.prometheus) round.frame

  pub dogstatsd_frame : D.frame_of new.dogstatsd ≡ D.frame_of old.dogstatsd
  dogstatsd_frame = ap (λ (e : Exporters). e.dogstatsd) round.frame

  pub as_many_prometheus : length (prometheus_things new) ≡ length (prometheus_things old)
  as_many_prometheus = as_many_of_prometheus old.prometheus new.prometheus prometheus_frame

  pub as_many_dogstatsd : length (dogstatsd_things new) ≡ length (dogstatsd_things old)
  as_many_dogstatsd = as_many_of_dogstatsd old.dogstatsd new.dogstatsd dogstatsd_frame

  all_of : (j l : ℕ) → calls_on j lanes round.done l ≡ all_calls_on j lanes l
  all_of j l = all_calls j lanes round.done l round.all_done

  -- what is asked for on a thing is taken by it
  taken_on : (j : ℕ) (t : ExporterThing) → get_elem? (things_of old) j ≡ some t → (l : ℕ) → AllByRecursion (TakesCall t.fixed) (calls_on j lanes round.done l)
  taken_on j t here l = asked_is_taken fixed_of TakesCall (things_of old) lanes round.done j t round.fit round.taken here l

  all_taken_on : (j : ℕ) (t : ExporterThing) → get_elem? (things_of old) j ≡ some t → (l : ℕ) → AllByRecursion (TakesCall t.fixed) (all_calls_on j lanes l)
  all_taken_on j t here l = subst (AllByRecursion (TakesCall t.fixed)) (all_of j l) (taken_on j t here l)

  pub prometheus_takes : PrometheusTakes lanes old
  prometheus_takes j c at l =
      let i = first_prometheus old + j in
      prometheus_taken c.fixed (all_calls_on i lanes l) (all_taken_on i (prometheus_thing c) (prometheus_at old j c at) l)

  pub dogstatsd_takes : DogStatsDTakes lanes old
  dogstatsd_takes j c at l = dogstatsd_taken c.fixed (all_calls_on j lanes l) (all_taken_on j (dogstatsd_thing c) (dogstatsd_at old j c at) l)

  pub prometheus_grew : PrometheusGrew lanes old new
  prometheus_grew j c d at at' =
      let i = first_prometheus old + j in
      let here = prometheus_at old j c at in
      let there = subst (λ n. get_elem? (things_of new) (n + j) ≡ some (prometheus_thing d)) as_many_dogstatsd (prometheus_at new j d at') in
      let images : (l : ℕ) → AllByRecursion (StandsAsImages entries.Prometheus StandsAsEntries prometheus_makes) (calls_on i lanes round.done l) =
      λ l. all_weaker (TakesCall (cells.Prometheus c.fixed)) (StandsAsImages entries.Prometheus StandsAsEntries prometheus_makes) (prometheus_image c.fixed) (calls_on i lanes round.done l) (taken_on i (prometheus_thing c) here l) in
      subst (λ (ls : ℕ → List PrometheusEntry). GrewInOrder ls c.root.seen d.root.seen) (λ k l. (ap (flat_map prometheus_makes) (all_of i l) ∙ flat_twice asks_prometheus P.entries_made (all_calls_on i lanes l)) k)
      (grew_own entries.Prometheus StandsAsEntries prometheus_makes one_prometheus root_of lanes round.done i (prometheus_thing c) (prometheus_thing d) c.root d.root refl refl images
      (round.grew i (prometheus_thing c) (prometheus_thing d) here there))

  pub dogstatsd_grew : DogStatsDGrew lanes old new
  dogstatsd_grew j c d at at' =
      let here = dogstatsd_at old j c at in
      let there = dogstatsd_at new j d at' in
      let images : (l : ℕ) → AllByRecursion (StandsAsImages entries.DogStatsD StandsAsEntries dogstatsd_makes) (calls_on j lanes round.done l) =
      λ l. all_weaker (TakesCall (cells.DogStatsD c.fixed)) (StandsAsImages entries.DogStatsD StandsAsEntries dogstatsd_makes) (dogstatsd_image c.fixed) (calls_on j lanes round.done l) (taken_on j (dogstatsd_thing c) here l) in
      subst (λ (ls : ℕ → List DogStatsDEntry). GrewInOrder ls c.root.seen d.root.seen) (λ k l. (ap (flat_map dogstatsd_makes) (all_of j l) ∙ flat_twice asks_dogstatsd D.entries_made (all_calls_on j lanes l)) k)
      (grew_own entries.DogStatsD StandsAsEntries dogstatsd_makes one_dogstatsd root_of lanes round.done j (dogstatsd_thing c) (dogstatsd_thing d) c.root d.root refl refl images
      (round.grew j (dogstatsd_thing c) (dogstatsd_thing d) here there))

  pub over_each : IsRoundOverEach lanes old new
  over_each = record {
    prometheus = prometheus_grew;
    dogstatsd = dogstatsd_grew;
    prometheus_takes = prometheus_takes;
    dogstatsd_takes = dogstatsd_takes;
    prometheus_frame = prometheus_frame;
    dogstatsd_frame = dogstatsd_frame;
    as_many_prometheus = as_many_prometheus;
    as_many_dogstatsd = as_many_dogstatsd;
  }
