-- What is given and left where a key is registered: of a counter or of a gauge, and of each kind where no series has it.
use Rattle.std.proofs.Common.{◌≡◌, ◌≢◌, ◌+◌, map, Bool, true, Option, None, Some, sym, ap, subst, ◌∙◌, inl, inr}
use Rattle.std.specs.Prelude.{◌⊎◌, is_some}
use Rattle.std.proofs.lemmas.List.{map_push}
use Rattle.metrics_core.specs.declared.kinds.MetricKind.{MetricKind}
use Rattle.metrics_core.specs.declared.kinds.MetricKind.TheVariants.{Counter, Gauge, Histogram}
use Rattle.metrics_core.specs.declared.kinds.SeriesId.{SeriesId}
use Rattle.metrics_core.specs.Keys.{KeyText}
use Rattle.metrics_registry.specs.Live.{LiveSeries, RegistryText, IsNumbered, id_of_key, RegistersCounter, RegistersGauge, with_counter, with_gauge}
use Rattle.series_cells.specs.declared.counter.PromCounter.{PromCounter}
use Rattle.series_cells.specs.declared.gauge.PromGauge.{PromGauge}
use Rattle.prom_exporter.specs.Shared.{unmade, unused}
use Rattle.prom_exporter.specs.State.{PrometheusState, live_series, no_series, number_of, with_series, number_given, register}
use Rattle.prom_exporter.specs.Exporter.{AddsCounter, AddsGauge, AllHome, Cells, Exporter, with_rest, SharedCounter, SharedGauge}
use Rattle.prom_exporter.specs.Exporter.{state_of as exporter_state}
use Rattle.prom_exporter.specs.Values.{SeenCell, series_of, seen_series, seen_registry, state_of, state_seen}
use Rattle.prom_exporter.specs.Sampled.{calls_known}
use Rattle.prom_exporter.proofs.Home.{adds_counter-home, adds_gauge-home}
use Rattle.prom_exporter.proofs.Seen.{id_of_key-sampled, id_of_key-seen, is_numbered-seen}
use Rattle.prom_exporter.proofs.Redirected.{live-registers}
use Rattle.prom_exporter.proofs.States.{live-none, some_found, with_series-live, id-live, number-new, with_series-new, put_rest}

-- no series is live where no cell has an equal key
pub counter_absent : (key : KeyText) (series : Cells) → id_of_key key series.counters ≡ None → live_series Counter key (state_seen series) ≡ None
counter_absent key series none = live-none Counter key (seen_registry calls_known series) (id_of_key-seen key series.counters ∙ none)

pub gauge_absent : (key : KeyText) (series : Cells) → id_of_key key series.gauges ≡ None → live_series Gauge key (state_seen series) ≡ None
gauge_absent key series none = live-none Gauge key (seen_registry calls_known series) (id_of_key-seen key series.gauges ∙ none)

pub histogram_absent : (key : KeyText) (series : Cells) → id_of_key key series.histograms ≡ None → live_series Histogram key (state_seen series) ≡ None
histogram_absent key series none = live-none Histogram key (seen_registry calls_known series) (id_of_key-sampled calls_known key series.histograms ∙ none)

abbrev given_id : MetricKind → KeyText → Cells → SeriesId
given_id kind key series = record { kind = kind; number = number_of kind key (state_of (seen_registry calls_known series)) }

-- a counter
pub record GivenCounter (key : KeyText) (id : SeriesId) (e : Exporter) (series after : Cells) : Type 0 where
  pub id_is : id ≡ given_id Counter key series
  pub registered : with_rest e (state_seen after) ≡ with_series Counter key (with_rest e (state_seen series))
  pub cells : (after ≡ series) ⊎ ((cell : Option PromCounter) × (after ≡ with_counter series key (unused cell)))

pub counter_given : (IsMade : SharedCounter → Type 0) (key : KeyText) (id : SeriesId) (e : Exporter) (series after : Cells) → ((cell : SharedCounter) → IsMade cell → cell ≡ unmade)
    → series.made ≢ no_series → IsNumbered series → RegistersCounter IsMade key id series after → GivenCounter key id e series after
counter_given IsMade key id e series after fresh room numbered (inl (found, same)) =
    let there = id_of_key-seen key series.counters ∙ found in
    record {
      id_is = id-live Counter key (seen_registry calls_known series) series.made id (is_numbered-seen calls_known series numbered).counters.1 there;
      registered = put_rest Counter key e (state_seen series) (state_seen after) (ap state_seen same ∙ sym (with_series-live Counter key (seen_registry calls_known series) id there));
      cells = inl same;
    }
counter_given IsMade key id e series after fresh room numbered (inr (none, is, (cell, made, added))) =
    let none_there = id_of_key-seen key series.counters ∙ none in
    let new : LiveSeries SharedCounter = record { id = record { kind = Counter; number = series.made }; key = key; cell = unmade } in
    let grown : after ≡ with_counter series key unmade = added ∙ ap (with_counter series key) (fresh cell made) in
    let pushed = ap (λ l. record (state_seen series) { counters = l; made = series.made + 1 }) (ap (map series_of) (map_push seen_series series.counters new) ∙ map_push series_of (map seen_series series.counters) (seen_series new)) in
    record {
      id_is = is ∙ ap (λ n. record { kind = Counter; number = n }) (sym (number-new Counter key (seen_registry calls_known series) none_there));
      registered = put_rest Counter key e (state_seen series) (state_seen after)
          (ap state_seen grown ∙ pushed ∙ sym (with_series-new Counter key (seen_registry calls_known series) none_there room));
      cells = inr (None, grown);
    }

pub counter_home : (key : KeyText) (id : SeriesId) (e old : Exporter) (after : Cells) → GivenCounter key id e old.series after → AllHome old → AllHome (record old { series = after })
counter_home key id e old after given home = by given.cells
  where
    by : (after ≡ old.series) ⊎ AddsCounter key old (record old { series = after }) → AllHome (record old { series = after })
    by (inl same) = subst (λ (cells : Cells). AllHome (record old { series = cells })) (sym same) home
    by (inr adds) = adds_counter-home key old (record old { series = after }) adds home

-- a gauge
pub record GivenGauge (key : KeyText) (id : SeriesId) (e : Exporter) (series after : Cells) : Type 0 where
  pub id_is : id ≡ given_id Gauge key series
  pub registered : with_rest e (state_seen after) ≡ with_series Gauge key (with_rest e (state_seen series))
  pub cells : (after ≡ series) ⊎ ((cell : Option PromGauge) × (after ≡ with_gauge series key (unused cell)))

pub gauge_given : (IsMade : SharedGauge → Type 0) (key : KeyText) (id : SeriesId) (e : Exporter) (series after : Cells) → ((cell : SharedGauge) → IsMade cell → cell ≡ unmade)
    → series.made ≢ no_series → IsNumbered series → RegistersGauge IsMade key id series after → GivenGauge key id e series after
gauge_given IsMade key id e series after fresh room numbered (inl (found, same)) =
    let there = id_of_key-seen key series.gauges ∙ found in
    record {
      id_is = id-live Gauge key (seen_registry calls_known series) series.made id (is_numbered-seen calls_known series numbered).gauges.1 there;
      registered = put_rest Gauge key e (state_seen series) (state_seen after) (ap state_seen same ∙ sym (with_series-live Gauge key (seen_registry calls_known series) id there));
      cells = inl same;
    }
gauge_given IsMade key id e series after fresh room numbered (inr (none, is, (cell, made, added))) =
    let none_there = id_of_key-seen key series.gauges ∙ none in
    let new : LiveSeries SharedGauge = record { id = record { kind = Gauge; number = series.made }; key = key; cell = unmade } in
    let grown : after ≡ with_gauge series key unmade = added ∙ ap (with_gauge series key) (fresh cell made) in
    let pushed = ap (λ l. record (state_seen series) { gauges = l; made = series.made + 1 }) (ap (map series_of) (map_push seen_series series.gauges new) ∙ map_push series_of (map seen_series series.gauges) (seen_series new)) in
    record {
      id_is = is ∙ ap (λ n. record { kind = Gauge; number = n }) (sym (number-new Gauge key (seen_registry calls_known series) none_there));
      registered = put_rest Gauge key e (state_seen series) (state_seen after)
          (ap state_seen grown ∙ pushed ∙ sym (with_series-new Gauge key (seen_registry calls_known series) none_there room));
      cells = inr (None, grown);
    }

pub gauge_home : (key : KeyText) (id : SeriesId) (e old : Exporter) (after : Cells) → GivenGauge key id e old.series after → AllHome old → AllHome (record old { series = after })
gauge_home key id e old after given home = by given.cells
  where
    by : (after ≡ old.series) ⊎ AddsGauge key old (record old { series = after }) → AllHome (record old { series = after })
    by (inl same) = subst (λ (cells : Cells). AllHome (record old { series = cells })) (sym same) home
    by (inr adds) = adds_gauge-home key old (record old { series = after }) adds home

-- ---- a series that is live

-- a registration that finds a live series changes nothing, and gives its id
pub record IsFound (kind : MetricKind) (key : KeyText) (id : SeriesId) (s : PrometheusState) : Type 0 where
  pub registered : s ≡ register kind key s
  pub id_is : id ≡ record { kind = kind; number = number_given kind key s }

found : (kind : MetricKind) (key : KeyText) (id : SeriesId) (s : PrometheusState) → is_some (live_series kind key s) ≡ true → s ≡ with_series kind key s → id ≡ record { kind = kind; number = number_of kind key s } → IsFound kind key id s
found kind key id s live same number =
    let own = live-registers kind key s live in
    record {
      registered = same ∙ sym own.1;
      id_is = number ∙ ap (λ k. record { kind = kind; number = number_of kind k s }) (sym own.0);
    }

module _ (e : Exporter) (key : KeyText) (id : SeriesId) (numbered : IsNumbered e.series) where
  abbrev registry : RegistryText SeenCell SeenCell SeenCell
  registry = seen_registry calls_known e.series

  pub counter_found : id_of_key key e.series.counters ≡ Some id → IsFound Counter key id (exporter_state e)
  counter_found is =
      let there = id_of_key-seen key e.series.counters ∙ is in
      found Counter key id (exporter_state e) (some_found Counter key registry ∙ ap is_some there)
      (put_rest Counter key e (state_seen e.series) (state_seen e.series) (sym (with_series-live Counter key registry id there)))
      (id-live Counter key registry e.series.made id (is_numbered-seen calls_known e.series numbered).counters.1 there)

  pub gauge_found : id_of_key key e.series.gauges ≡ Some id → IsFound Gauge key id (exporter_state e)
  gauge_found is =
      let there = id_of_key-seen key e.series.gauges ∙ is in
      found Gauge key id (exporter_state e) (some_found Gauge key registry ∙ ap is_some there)
      (put_rest Gauge key e (state_seen e.series) (state_seen e.series) (sym (with_series-live Gauge key registry id there)))
      (id-live Gauge key registry e.series.made id (is_numbered-seen calls_known e.series numbered).gauges.1 there)

  pub histogram_found : id_of_key key e.series.histograms ≡ Some id → IsFound Histogram key id (exporter_state e)
  histogram_found is =
      let there = id_of_key-sampled calls_known key e.series.histograms ∙ is in
      found Histogram key id (exporter_state e) (some_found Histogram key registry ∙ ap is_some there)
      (put_rest Histogram key e (state_seen e.series) (state_seen e.series) (sym (with_series-live Histogram key registry id there)))
      (id-live Histogram key registry e.series.made id (is_numbered-seen calls_known e.series numbered).histograms.1 there)

-- ---- whether one is live

module _ (e : Exporter) (key : KeyText) where
  pub counter_live : is_some (live_series Counter key (exporter_state e)) ≡ is_some (id_of_key key e.series.counters)
  counter_live = some_found Counter key (seen_registry calls_known e.series) ∙ ap is_some (id_of_key-seen key e.series.counters)

  pub gauge_live : is_some (live_series Gauge key (exporter_state e)) ≡ is_some (id_of_key key e.series.gauges)
  gauge_live = some_found Gauge key (seen_registry calls_known e.series) ∙ ap is_some (id_of_key-seen key e.series.gauges)

  pub histogram_live : is_some (live_series Histogram key (exporter_state e)) ≡ is_some (id_of_key key e.series.histograms)
  histogram_live = some_found Histogram key (seen_registry calls_known e.series) ∙ ap is_some (id_of_key-sampled calls_known key e.series.histograms)
