-- What registering does to the series that an exporter has seen, and to passes that are out.
use Rattle.std.proofs.Common.{◌≡◌, ◌≢◌, ℕ, ◌+◌, Bool, true, false, cond, List, [], ◌∷◌, ◌++◌, map, Option, None, Some, inl, inr, refl, sym, ap, ◌∙◌}
use Rattle.std.specs.Prelude.{find, unwrap_or, option_map, All, ◌⊎◌}
use Rattle.std.proofs.lemmas.Bool.{ne_eqb, eq-eqb}
use Rattle.std.proofs.lemmas.Option.{same_Some}
use Rattle.std.proofs.lemmas.List.{map_push}
use Rattle.std.proofs.lemmas.List.Elements.{All-push}
use Rattle.metrics_core.specs.declared.kinds.MetricKind.{MetricKind}
use Rattle.metrics_core.specs.declared.kinds.MetricKind.TheVariants as kinds
use Rattle.metrics_core.specs.declared.kinds.SeriesId.{SeriesId}
use Rattle.metrics_core.specs.Keys.{KeyText, key_eq}
use Rattle.metrics_registry.specs.Live.{LiveSeries, has_key, id_of_key, AreOf, RegistersCounter, RegistersGauge, RegistersHistogram, with_counter, with_gauge, with_histogram}
use Rattle.legal_history.specs.declared.history.View.{View}
use Rattle.dsd_exporter.specs.State.{no_series, number_found, number_given, register, with_new, with_cell_of}
use Rattle.dsd_exporter.specs.Exporter.{CounterThing, GaugeThing, Queued, Cells, Exporter, AllHome, IsHome, unused, empty_queue, counter_seen, gauge_seen, samples_seen, series_seen, AddsCounter, AddsGauge, AddsHistogram}

abbrev new_id : MetricKind → ℕ → SeriesId
new_id kind number = record { kind = kind; number = number }

-- a key is found where it was, whatever stands in place of the cells
id_of_key-as : {X Y : Type 0} (f : X → Y) (key : KeyText) (es : List (LiveSeries X)) → id_of_key key (map (with_cell_of f) es) ≡ id_of_key key es
id_of_key-as f key [] = refl
id_of_key-as {X} {Y} f key (e ∷ es) =
    elim (key_eq e.key key) as (λ b. option_map (λ (s : LiveSeries Y). s.id) (cond b (Some (with_cell_of f e)) (find (has_key key) (map (with_cell_of f) es))) ≡ option_map (λ (s : LiveSeries X). s.id) (cond b (Some e) (find (has_key key) es))) [
      | true ↦ refl
      | false ↦ id_of_key-as f key es
    ]

-- the id of the series of a kind with an equal key
abbrev pub id_in : MetricKind → KeyText → Cells → Option SeriesId
id_in kinds.Counter key s = id_of_key key s.counters
id_in kinds.Gauge key s = id_of_key key s.gauges
id_in kinds.Histogram key s = id_of_key key s.histograms

abbrev number : Option SeriesId → Option ℕ
number = option_map (λ (id : SeriesId). id.number)

number_in : (kind : MetricKind) (key : KeyText) (s : Cells) → number_found kind key s ≡ number (id_in kind key s)
number_in kinds.Counter key s = refl
number_in kinds.Gauge key s = refl
number_in kinds.Histogram key s = refl

number_seen : (kind : MetricKind) (key : KeyText) (s : Cells) → number_found kind key (series_seen s) ≡ number (id_in kind key s)
number_seen kinds.Counter key s = ap number (id_of_key-as counter_seen key s.counters)
number_seen kinds.Gauge key s = ap number (id_of_key-as gauge_seen key s.gauges)
number_seen kinds.Histogram key s = ap number (id_of_key-as samples_seen key s.histograms)

-- the ids of a list are of its kind
kind_of_id : {X : Type 0} (kind : MetricKind) (n : ℕ) (key : KeyText) (es : List (LiveSeries X)) (id : SeriesId) → AreOf kind n es → id_of_key key es ≡ Some id → id.kind ≡ kind
kind_of_id kind n key [] id are found = absurd cc
kind_of_id {X} kind n key (e ∷ es) id are found = by (key_eq e.key key) found (kind_of_id kind n key es id are.2)
  where
    by : (b : Bool) → option_map (λ (s : LiveSeries X). s.id) (cond b (Some e) (find (has_key key) es)) ≡ Some id → (id_of_key key es ≡ Some id → id.kind ≡ kind) → id.kind ≡ kind
    by true f rest = ap (λ (i : SeriesId). i.kind) (sym (same_Some e.id id f)) ∙ are.0
    by false f rest = rest f

module _ (kind : MetricKind) (key : KeyText) (s : Cells) where
  -- there is a series with an equal key
  pub register-there : (id : SeriesId) → id_in kind key s ≡ Some id → series_seen s ≡ register kind key (series_seen s)
  register-there id found = rw (number_seen kind key s, found) refl

  pub id-there : {X : Type 0} (n : ℕ) (es : List (LiveSeries X)) (id : SeriesId) → AreOf kind n es → id_of_key key es ≡ Some id → id_in kind key s ≡ Some id → id ≡ new_id kind (number_given kind key s)
  id-there n es id are at found =
      let given : number_given kind key s ≡ id.number = ap (λ o. unwrap_or o s.made) (number_in kind key s ∙ ap number found) in
      (λ j. new_id (kind_of_id kind n key es id are at j) (sym given j))

  -- there is none
  pub number-none : id_in kind key s ≡ None → number_found kind key s ≡ None
  number-none none = number_in kind key s ∙ ap number none

  pub id-new : id_in kind key s ≡ None → (made : ℕ) → made ≡ s.made → new_id kind made ≡ new_id kind (number_given kind key s)
  id-new none made is = ap (new_id kind) (is ∙ sym (ap (λ o. unwrap_or o s.made) (number_in kind key s ∙ ap number none)))

  pub register-full : id_in kind key s ≡ None → s.made ≡ no_series → series_seen s ≡ register kind key (series_seen s)
  register-full none full = rw (number_seen kind key s, none, eq-eqb s.made no_series full) refl

  register-new : id_in kind key s ≡ None → s.made ≢ no_series → register kind key (series_seen s) ≡ with_new kind key (series_seen s)
  register-new none room = rw (number_seen kind key s, none, ne_eqb s.made no_series room) refl

-- it is what registering adds to the series that were seen
module _ (s after : Cells) (key : KeyText) where
  pub counter_registered : (c : CounterThing) → after ≡ with_counter s key (unused c.fixed) → id_in kinds.Counter key s ≡ None → s.made ≢ no_series → series_seen after ≡ register kinds.Counter key (series_seen s)
  counter_registered c is none room =
      ap series_seen is
      ∙ ap (λ l. record (series_seen s) { counters = l; made = s.made + 1 }) (map_push (with_cell_of counter_seen) s.counters (record { id = new_id kinds.Counter s.made; key = key; cell = unused c.fixed }))
      ∙ sym (register-new kinds.Counter key s none room)

  pub gauge_registered : (c : GaugeThing) → after ≡ with_gauge s key (unused c.fixed) → id_in kinds.Gauge key s ≡ None → s.made ≢ no_series → series_seen after ≡ register kinds.Gauge key (series_seen s)
  gauge_registered c is none room =
      ap series_seen is
      ∙ ap (λ l. record (series_seen s) { gauges = l; made = s.made + 1 }) (map_push (with_cell_of gauge_seen) s.gauges (record { id = new_id kinds.Gauge s.made; key = key; cell = unused c.fixed }))
      ∙ sym (register-new kinds.Gauge key s none room)

  pub histogram_registered : (c : Queued) → after ≡ with_histogram s key (empty_queue c.cell) → id_in kinds.Histogram key s ≡ None → s.made ≢ no_series → series_seen after ≡ register kinds.Histogram key (series_seen s)
  histogram_registered c is none room =
      ap series_seen is
      ∙ ap (λ l. record (series_seen s) { histograms = l; made = s.made + 1 }) (map_push (with_cell_of samples_seen) s.histograms (record { id = new_id kinds.Histogram s.made; key = key; cell = empty_queue c.cell }))
      ∙ sym (register-new kinds.Histogram key s none room)

-- ---- no pass of a new cell is out

module _ {X M : Type 0} (root : X → View M) where
  home-last : (es : List (LiveSeries X)) (e : LiveSeries X) → IsHome (root e.cell) → All (λ (s : LiveSeries X). IsHome (root s.cell)) es → All (λ (s : LiveSeries X). IsHome (root s.cell)) (es ++ e ∷ [])
  home-last es e new home = All-push (λ (s : LiveSeries X). IsHome (root s.cell)) es e home new

pub adds_counter-home : (key : KeyText) (old new : Exporter) → AddsCounter key old new → AllHome old → AllHome new
adds_counter-home key old new adds home = rw adds.1 (record {
  counters = home-last (λ (c : CounterThing). c.root) old.series.counters _ (refl, refl) home.counters;
  gauges = home.gauges;
  histograms = home.histograms;
})

pub adds_gauge-home : (key : KeyText) (old new : Exporter) → AddsGauge key old new → AllHome old → AllHome new
adds_gauge-home key old new adds home = rw adds.1 (record {
  counters = home.counters;
  gauges = home-last (λ (c : GaugeThing). c.root) old.series.gauges _ (refl, refl) home.gauges;
  histograms = home.histograms;
})

pub adds_histogram-home : (key : KeyText) (old new : Exporter) → AddsHistogram key old new → AllHome old → AllHome new
adds_histogram-home key old new adds home = rw adds.1 (record {
  counters = home.counters;
  gauges = home.gauges;
  histograms = home-last (λ (c : Queued). c.root) old.series.histograms _ (refl, refl) home.histograms;
})

-- ---- what is given and left where a key is registered

-- a counter
pub record GivenCounter (key : KeyText) (id : SeriesId) (s after : Cells) : Type 0 where
  pub id_is : id ≡ new_id kinds.Counter (number_given kinds.Counter key s)
  pub registered : series_seen after ≡ register kinds.Counter key (series_seen s)
  pub cells : (after ≡ s) ⊎ ((c : CounterThing) × (after ≡ with_counter s key (unused c.fixed)))

pub counter_given : (IsMade : CounterThing → Type 0) (key : KeyText) (id : SeriesId) (s after : Cells) → ((c : CounterThing) → IsMade c → c ≡ unused c.fixed) → s.made ≢ no_series → AreOf kinds.Counter s.made s.counters
    → RegistersCounter IsMade key id s after → GivenCounter key id s after
counter_given IsMade key id s after fresh room are (inl (found, same)) = record {
  id_is = id-there kinds.Counter key s s.made s.counters id are found found;
  registered = ap series_seen same ∙ register-there kinds.Counter key s id found;
  cells = inl same;
}
counter_given IsMade key id s after fresh room are (inr (none, is, (c, made, added))) =
    let new : after ≡ with_counter s key (unused c.fixed) = added ∙ ap (with_counter s key) (fresh c made) in
    record {
      id_is = is ∙ id-new kinds.Counter key s none s.made refl;
      registered = counter_registered s after key c new none room;
      cells = inr (c, new);
    }

-- a gauge
pub record GivenGauge (key : KeyText) (id : SeriesId) (s after : Cells) : Type 0 where
  pub id_is : id ≡ new_id kinds.Gauge (number_given kinds.Gauge key s)
  pub registered : series_seen after ≡ register kinds.Gauge key (series_seen s)
  pub cells : (after ≡ s) ⊎ ((c : GaugeThing) × (after ≡ with_gauge s key (unused c.fixed)))

pub gauge_given : (IsMade : GaugeThing → Type 0) (key : KeyText) (id : SeriesId) (s after : Cells) → ((c : GaugeThing) → IsMade c → c ≡ unused c.fixed) → s.made ≢ no_series → AreOf kinds.Gauge s.made s.gauges
    → RegistersGauge IsMade key id s after → GivenGauge key id s after
gauge_given IsMade key id s after fresh room are (inl (found, same)) = record {
  id_is = id-there kinds.Gauge key s s.made s.gauges id are found found;
  registered = ap series_seen same ∙ register-there kinds.Gauge key s id found;
  cells = inl same;
}
gauge_given IsMade key id s after fresh room are (inr (none, is, (c, made, added))) =
    let new : after ≡ with_gauge s key (unused c.fixed) = added ∙ ap (with_gauge s key) (fresh c made) in
    record {
      id_is = is ∙ id-new kinds.Gauge key s none s.made refl;
      registered = gauge_registered s after key c new none room;
      cells = inr (c, new);
    }

-- a histogram
pub record GivenHistogram (key : KeyText) (id : SeriesId) (s after : Cells) : Type 0 where
  pub id_is : id ≡ new_id kinds.Histogram (number_given kinds.Histogram key s)
  pub registered : series_seen after ≡ register kinds.Histogram key (series_seen s)
  pub cells : (after ≡ s) ⊎ ((c : Queued) × (after ≡ with_histogram s key (empty_queue c.cell)))

pub histogram_given : (IsMade : Queued → Type 0) (key : KeyText) (id : SeriesId) (s after : Cells) → ((c : Queued) → IsMade c → c ≡ empty_queue c.cell) → s.made ≢ no_series → AreOf kinds.Histogram s.made s.histograms
    → RegistersHistogram IsMade key id s after → GivenHistogram key id s after
histogram_given IsMade key id s after fresh room are (inl (found, same)) = record {
  id_is = id-there kinds.Histogram key s s.made s.histograms id are found found;
  registered = ap series_seen same ∙ register-there kinds.Histogram key s id found;
  cells = inl same;
}
histogram_given IsMade key id s after fresh room are (inr (none, is, (c, made, added))) =
    let new : after ≡ with_histogram s key (empty_queue c.cell) = added ∙ ap (with_histogram s key) (fresh c made) in
    record {
      id_is = is ∙ id-new kinds.Histogram key s none s.made refl;
      registered = histogram_registered s after key c new none room;
      cells = inr (c, new);
    }

pub counter_adds : (key : KeyText) (id : SeriesId) (old : Exporter) (after : Cells) → GivenCounter key id old.series after → (record old { series = after } ≡ old) ⊎ AddsCounter key old (record old { series = after })
counter_adds key id old after given = by given.cells
  where
    by : (after ≡ old.series) ⊎ ((c : CounterThing) × (after ≡ with_counter old.series key (unused c.fixed))) → (record old { series = after } ≡ old) ⊎ AddsCounter key old (record old { series = after })
    by (inl same) = inl (ap (λ (s : Cells). record old { series = s }) same)
    by (inr (c, new)) = inr (c.fixed, ap (λ (s : Cells). record old { series = s }) new)

pub counter_home : (key : KeyText) (id : SeriesId) (old : Exporter) (after : Cells) → GivenCounter key id old.series after → AllHome old → AllHome (record old { series = after })
counter_home key id old after given home = by (counter_adds key id old after given)
  where
    by : (record old { series = after } ≡ old) ⊎ AddsCounter key old (record old { series = after }) → AllHome (record old { series = after })
    by (inl same) = rw same home
    by (inr adds) = adds_counter-home key old (record old { series = after }) adds home

pub gauge_adds : (key : KeyText) (id : SeriesId) (old : Exporter) (after : Cells) → GivenGauge key id old.series after → (record old { series = after } ≡ old) ⊎ AddsGauge key old (record old { series = after })
gauge_adds key id old after given = by given.cells
  where
    by : (after ≡ old.series) ⊎ ((c : GaugeThing) × (after ≡ with_gauge old.series key (unused c.fixed))) → (record old { series = after } ≡ old) ⊎ AddsGauge key old (record old { series = after })
    by (inl same) = inl (ap (λ (s : Cells). record old { series = s }) same)
    by (inr (c, new)) = inr (c.fixed, ap (λ (s : Cells). record old { series = s }) new)

pub gauge_home : (key : KeyText) (id : SeriesId) (old : Exporter) (after : Cells) → GivenGauge key id old.series after → AllHome old → AllHome (record old { series = after })
gauge_home key id old after given home = by (gauge_adds key id old after given)
  where
    by : (record old { series = after } ≡ old) ⊎ AddsGauge key old (record old { series = after }) → AllHome (record old { series = after })
    by (inl same) = rw same home
    by (inr adds) = adds_gauge-home key old (record old { series = after }) adds home

pub histogram_adds : (key : KeyText) (id : SeriesId) (old : Exporter) (after : Cells) → GivenHistogram key id old.series after → (record old { series = after } ≡ old) ⊎ AddsHistogram key old (record old { series = after })
histogram_adds key id old after given = by given.cells
  where
    by : (after ≡ old.series) ⊎ ((c : Queued) × (after ≡ with_histogram old.series key (empty_queue c.cell))) → (record old { series = after } ≡ old) ⊎ AddsHistogram key old (record old { series = after })
    by (inl same) = inl (ap (λ (s : Cells). record old { series = s }) same)
    by (inr (c, new)) = inr (c.cell, ap (λ (s : Cells). record old { series = s }) new)

pub histogram_home : (key : KeyText) (id : SeriesId) (old : Exporter) (after : Cells) → GivenHistogram key id old.series after → AllHome old → AllHome (record old { series = after })
histogram_home key id old after given home = by (histogram_adds key id old after given)
  where
    by : (record old { series = after } ≡ old) ⊎ AddsHistogram key old (record old { series = after }) → AllHome (record old { series = after })
    by (inl same) = rw same home
    by (inr adds) = adds_histogram-home key old (record old { series = after }) adds home
