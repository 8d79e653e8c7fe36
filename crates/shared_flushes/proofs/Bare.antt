-- Registering, lending and flushing are the same whatever calls were made.
use Rattle.std.proofs.Common.{◌≡◌, ℕ, ◌+◌, ◌==◌, Bool, true, false, List, [], ◌∷◌, map, cond, refl, sym, ap, ◌∙◌, Option, Some, None}
use Rattle.std.specs.Prelude.{find, is_some, option_map, unwrap_or, if◌then◌else◌}
use Rattle.std.proofs.lemmas.List.{map_push}
use Rattle.metrics_core.specs.Keys.{KeyText, key_eq}
use Rattle.metrics_core.specs.declared.kinds.MetricKind.{MetricKind}
use Rattle.metrics_core.specs.declared.kinds.MetricKind.TheVariants as kinds
use Rattle.metrics_core.specs.declared.kinds.SeriesId.{SeriesId}
use Rattle.metrics_registry.specs.Live.{LiveSeries, RegistryText, has_id, has_key, id_of_key, with_cell}
use Rattle.flushed_cells.specs.Counters as counters
use Rattle.flushed_cells.specs.Gauges as gauges
use Rattle.dsd_exporter.specs.State.{SeriesStates, no_series, number_found, number_given, register, with_new, with_cell_of}
use Rattle.dsd_exporter.specs.Exporter.{Cells, Exporter, Queued, counter_seen, gauge_seen, samples_seen, series_seen, registry_as}
use Rattle.dsd_exporter.specs.Flushing.{AreTaken, Flushes, Found, MaybeDrained, TakesCounter, TakesGauge, TakesSamples, Unchanged}
use Rattle.dsd_exporter.specs.Lending.{LendsCounter, LendsGauge, LendsHistogram, LentCounterOf, LentGaugeOf, LentHistogramOf}
use Rattle.dsd_exporter.specs.Updates.{UpdateText}
use Rattle.dsd_writer.specs.Writers.{WriterText}
use Rattle.shared_flushes.specs.Registrations.{bare, of_kind}

abbrev new_id : MetricKind → ℕ → SeriesId
new_id kind number = record { kind = kind; number = number }

-- what stands in place of the cells can be replaced at once
pub fused : {X Y Z : Type 0} (g : X → Y) (d : Z) (es : List (LiveSeries X)) → map (with_cell_of (λ (_ : Y). d)) (map (with_cell_of g) es) ≡ map (with_cell_of (λ (_ : X). d)) es
fused g d [] = refl
fused g d (e ∷ es) = ap (λ l. with_cell_of (λ _. d) e ∷ l) (fused g d es)

bare_as : {C G H A B D : Type 0} (c : C → A) (g : G → B) (h : H → D) (s : RegistryText C G H) → bare (registry_as c g h s) ≡ bare s
bare_as c g h s = λ j. record {
  counters = fused c counters.counter_start s.counters j;
  gauges = fused g gauges.gauge_start s.gauges j;
  histograms = fused h [] s.histograms j;
  made = s.made;
}

pub of_bare : {C G H : Type 0} (kind : MetricKind) (s : RegistryText C G H) → of_kind kind (bare s) ≡ of_kind kind s
of_bare kinds.Counter s = fused (λ _. counters.counter_start) tt s.counters
of_bare kinds.Gauge s = fused (λ _. gauges.gauge_start) tt s.gauges
of_bare kinds.Histogram s = fused (λ _. []) tt s.histograms

-- ---- registering

-- a key is found where it was
pub id_as : {X Y : Type 0} (f : X → Y) (key : KeyText) (es : List (LiveSeries X)) → id_of_key key (map (with_cell_of f) es) ≡ id_of_key key es
id_as f key [] = refl
id_as {X} {Y} f key (e ∷ es) =
    elim (key_eq e.key key) as (λ b. option_map (λ (s : LiveSeries Y). s.id) (cond b (Some (with_cell_of f e)) (find (has_key key) (map (with_cell_of f) es))) ≡ option_map (λ (s : LiveSeries X). s.id) (cond b (Some e) (find (has_key key) es))) [
      | true ↦ refl
      | false ↦ id_as f key es
    ]

abbrev pub number : Option SeriesId → Option ℕ
number = option_map (λ (id : SeriesId). id.number)

pub number_named : {C G H : Type 0} (kind : MetricKind) (key : KeyText) (s : RegistryText C G H) → number_found kind key s ≡ number (id_of_key key (of_kind kind s))
number_named kinds.Counter key s = sym (ap number (id_as (λ _. tt) key s.counters))
number_named kinds.Gauge key s = sym (ap number (id_as (λ _. tt) key s.gauges))
number_named kinds.Histogram key s = sym (ap number (id_as (λ _. tt) key s.histograms))

pub number_bare : {C G H : Type 0} (kind : MetricKind) (key : KeyText) (s : RegistryText C G H) → number_found kind key (bare s) ≡ number_found kind key s
number_bare kinds.Counter key s = ap number (id_as (λ _. counters.counter_start) key s.counters)
number_bare kinds.Gauge key s = ap number (id_as (λ _. gauges.gauge_start) key s.gauges)
number_bare kinds.Histogram key s = ap number (id_as (λ _. []) key s.histograms)

-- the number that a registration gives
pub given_bare : {C G H : Type 0} (kind : MetricKind) (key : KeyText) (s : RegistryText C G H) → number_given kind key (bare s) ≡ number_given kind key s
given_bare kind key s = ap (λ o. unwrap_or o s.made) (number_bare kind key s)

abbrev pub chosen : Bool → Bool → MetricKind → KeyText → SeriesStates → SeriesStates
chosen a b kind key s = if a then s else if b then s else with_new kind key s

new_bare : (kind : MetricKind) (key : KeyText) (s : SeriesStates) → bare (with_new kind key s) ≡ with_new kind key (bare s)
new_bare kinds.Counter key s =
    ap (λ l. record (bare s) { counters = l; made = s.made + 1 }) (map_push (with_cell_of (λ _. counters.counter_start)) s.counters (record { id = new_id kinds.Counter s.made; key = key; cell = counters.counter_start }))
new_bare kinds.Gauge key s =
    ap (λ l. record (bare s) { gauges = l; made = s.made + 1 }) (map_push (with_cell_of (λ _. gauges.gauge_start)) s.gauges (record { id = new_id kinds.Gauge s.made; key = key; cell = gauges.gauge_start }))
new_bare kinds.Histogram key s =
    ap (λ l. record (bare s) { histograms = l; made = s.made + 1 }) (map_push (with_cell_of (λ _. [])) s.histograms (record { id = new_id kinds.Histogram s.made; key = key; cell = [] }))

chosen_bare : (a b : Bool) (kind : MetricKind) (key : KeyText) (s : SeriesStates) → bare (chosen a b kind key s) ≡ chosen a b kind key (bare s)
chosen_bare true b kind key s = refl
chosen_bare false true kind key s = refl
chosen_bare false false kind key s = new_bare kind key s

register_bare : (kind : MetricKind) (key : KeyText) (s : SeriesStates) → bare (register kind key s) ≡ register kind key (bare s)
register_bare kind key s =
    chosen_bare (is_some (number_found kind key s)) (s.made == no_series) kind key s
    ∙ ap (λ a. chosen a (s.made == no_series) kind key (bare s)) (sym (ap is_some (number_bare kind key s)))

-- what a registration makes
pub registered_bare : (kind : MetricKind) (key : KeyText) (x y : Cells) → series_seen y ≡ register kind key (series_seen x) → bare y ≡ register kind key (bare x)
registered_bare kind key x y e =
    sym (bare_as counter_seen gauge_seen samples_seen y) ∙ (ap bare e ∙ (register_bare kind key (series_seen x) ∙ ap (register kind key) (bare_as counter_seen gauge_seen samples_seen x)))

-- ---- lending

-- another cell changes neither ids nor keys
set_bare : {X Z : Type 0} (id : SeriesId) (d : Z) (cell : X) (es : List (LiveSeries X)) → map (with_cell_of (λ (_ : X). d)) (with_cell id es cell) ≡ map (with_cell_of (λ (_ : X). d)) es
set_bare id d cell [] = refl
set_bare {X} id d cell (e ∷ es) =
    (λ j. elim (has_id id e) as (λ b. with_cell_of (λ (_ : X). d) (if b then record e { cell = cell } else e) ≡ with_cell_of (λ (_ : X). d) e) [ true ↦ refl | false ↦ refl ] j ∷ set_bare id d cell es j)

-- nothing that entries made is changed
abbrev pub AsBefore : Exporter → Exporter → Type 0
AsBefore x y = (y.settings ≡ x.settings) × (bare y.series ≡ bare x.series)

pub counter_lent : (id : SeriesId) (lent : Option LentCounterOf) (x y : Exporter) → LendsCounter id lent x y → AsBefore x y
counter_lent id None x y l = (ap (λ (e : Exporter). e.settings) l.1, ap (λ (e : Exporter). bare e.series) l.1)
counter_lent id (Some lent) x y l = (
  ap (λ (e : Exporter). e.settings) l.4,
  ap (λ (e : Exporter). bare e.series) l.4 ∙ ap (λ cs. record (bare x.series) { counters = cs }) (set_bare id counters.counter_start l.1 x.series.counters),
)

pub gauge_lent : (id : SeriesId) (lent : Option LentGaugeOf) (x y : Exporter) → LendsGauge id lent x y → AsBefore x y
gauge_lent id None x y l = (ap (λ (e : Exporter). e.settings) l.1, ap (λ (e : Exporter). bare e.series) l.1)
gauge_lent id (Some lent) x y l = (
  ap (λ (e : Exporter). e.settings) l.4,
  ap (λ (e : Exporter). bare e.series) l.4 ∙ ap (λ gs. record (bare x.series) { gauges = gs }) (set_bare id gauges.gauge_start l.1 x.series.gauges),
)

pub histogram_lent : (id : SeriesId) (lent : Option LentHistogramOf) (x y : Exporter) → LendsHistogram id lent x y → AsBefore x y
histogram_lent id None x y l = (ap (λ (e : Exporter). e.settings) l.1, ap (λ (e : Exporter). bare e.series) l.1)
histogram_lent id (Some lent) x y l = (
  ap (λ (e : Exporter). e.settings) l.4,
  ap (λ (e : Exporter). bare e.series) l.4 ∙ ap (λ hs. record (bare x.series) { histograms = hs }) (set_bare id [] l.1 x.series.histograms),
)

-- ---- flushing

module _ {X Y Z : Type 0} (Rest : List (LiveSeries X) → List (LiveSeries X) → Type 0) (Takes : X → Y → X → Type 0) (d : Z) where
  -- series that are taken stay where they are
  taken_bare : ((old new : List (LiveSeries X)) → Rest old new → map (with_cell_of (λ (_ : X). d)) new ≡ map (with_cell_of (λ (_ : X). d)) old)
      → (old : List (LiveSeries X)) (found : List Y) (new : List (LiveSeries X)) → AreTaken Rest Takes old found new → map (with_cell_of (λ (_ : X). d)) new ≡ map (with_cell_of (λ (_ : X). d)) old
  taken_bare stays old [] new taken = stays old new taken
  taken_bare stays [] (y ∷ found) new taken = absurd taken
  taken_bare stays (s ∷ old) (y ∷ found) [] taken = absurd taken
  taken_bare stays (s ∷ old) (y ∷ found) (t ∷ new) taken =
      (λ j. ap (λ (u : LiveSeries X). with_cell_of (λ (_ : X). d) u) taken.0.2 j ∷ taken_bare stays old found new taken.1 j)

unchanged_bare : {X Z : Type 0} (d : Z) (old new : List (LiveSeries X)) → Unchanged old new → map (with_cell_of (λ (_ : X). d)) new ≡ map (with_cell_of (λ (_ : X). d)) old
unchanged_bare {X} d old new same = ap (λ l. map (with_cell_of (λ (_ : X). d)) l) same

drained_bare : {Z : Type 0} (d : Z) (old new : List (LiveSeries Queued)) → MaybeDrained old new → map (with_cell_of (λ (_ : Queued). d)) new ≡ map (with_cell_of (λ (_ : Queued). d)) old
drained_bare d [] new same = ap (λ l. map (with_cell_of (λ (_ : Queued). d)) l) same
drained_bare d (s ∷ old) [] same = absurd same
drained_bare d (s ∷ old) (t ∷ new) drained =
    (λ j. ap (λ (u : LiveSeries Queued). with_cell_of (λ (_ : Queued). d) u) drained.0.2 j ∷ ap (λ l. map (with_cell_of (λ (_ : Queued). d)) l) drained.1 j)

pub flush_leaves : {moment : ℕ} {found : Found} {x y : Exporter} {marks noted : List Bool} {w v : WriterText} {u n : UpdateText} {to_come left : Option (ℕ → ℕ)} → Flushes moment found x y marks noted w v u n to_come left → AsBefore x y
flush_leaves {moment} {found} {x} {y} f = (
  ap (λ (e : Exporter). e.settings) f.rest,
  (λ j. record {
    counters = taken_bare Unchanged TakesCounter counters.counter_start (unchanged_bare counters.counter_start) x.series.counters found.counters y.series.counters f.counters j;
    gauges = taken_bare Unchanged TakesGauge gauges.gauge_start (unchanged_bare gauges.gauge_start) x.series.gauges found.gauges y.series.gauges f.gauges j;
    histograms = taken_bare MaybeDrained TakesSamples [] (drained_bare []) x.series.histograms found.histograms y.series.histograms f.histograms j;
    made = ap (λ (e : Exporter). e.series.made) f.rest j;
  }),
)
