-- What a look at a series that is home leaves and tells: nothing changes, and the exporter knows whose each call is.
use Rattle.std.proofs.Common.{◌≡◌, ◌⊎◌, ℕ, zero, suc, ◌<◌, Bool, true, false, cond, List, [], ◌∷◌, ◌++◌, length, map, Option, Some, None, refl, sym, ap, subst, ◌∙◌, ⊎_elim, arith}
use Rattle.std.specs.Prelude.{find, option_map, All}
use Rattle.std.proofs.lemmas.Option.{same_Some}
use Rattle.std.proofs.lemmas.List.{length-map}
use Rattle.std.proofs.lemmas.List.Elements.{All-head, All-tail}
use mathlib.Core.Option.{some, some-ne-none, some-injective}
use lib.ListN.{get_elem?}
use Rattle.legal_history.specs.History.{Settled}
use Rattle.legal_history.proofs.Steps.{some_below}
use Rattle.cell_lanes.specs.Things.{Thing, root_of}
use Rattle.cell_lanes.specs.Lanes.{SettledAt}
use Rattle.metrics_core.specs.declared.kinds.SeriesId.{SeriesId}
use Rattle.metrics_registry.specs.Live.{LiveSeries, has_id, cell_of}
use Rattle.metrics_registry.proofs.IdTests.{id_eq-same}
use Rattle.prom_exporter.specs.declared.lanes.SeriesCell.{SeriesCell}
use Rattle.prom_exporter.specs.declared.lanes.SeriesCell.TheVariants as cells
use Rattle.prom_exporter.specs.declared.lanes.SeriesEntry.{SeriesEntry}
use Rattle.prom_exporter.specs.declared.lanes.SeriesEntry.TheVariants as entries
use Rattle.prom_exporter.specs.Exporter.{Exporter, AllHome, SharedCounter, SharedGauge}
use Rattle.prom_exporter.specs.Sampled.{Sampled, IsAtRest}
use Rattle.prom_exporter.specs.Shared.{IsHome}
use Rattle.prom_exporter.specs.LanePasses.{IsIndex, counter_thing, frame_of, gauge_thing, histogram_thing, ids_of, things_of, unheard_series, unseen}
use Rattle.prom_exporter.specs.LaneIndices.{CounterHas, GaugeHas, HaveIndices, HaveOneIndex, HistogramHas, IsOfOneKind, gauge_index, histogram_index}
use Rattle.series_cells.specs.declared.counter.PromCounter.{PromCounter}
use Rattle.series_cells.specs.declared.gauge.PromGauge.{PromGauge}
use Rattle.histogram_series.specs.Entries.{TimedQueue}
use Rattle.dsd_receiver.specs.Passes.{IsSettled}
use Rattle.dsd_receiver.proofs.Unmapped.{queue_once, settled-back, value_once, view-back}

-- ---- an exporter is its things with their frame

split_same : {A : Type 0} (xs ys us vs : List A) → length xs ≡ length us → xs ++ ys ≡ us ++ vs → (xs ≡ us) × (ys ≡ vs)
split_same [] ys [] vs n e = (refl, e)
split_same [] ys (u ∷ us) vs n e = absurd (omega (arith, n))
split_same (x ∷ xs) ys [] vs n e = absurd (omega (arith, n))
split_same (x ∷ xs) ys (u ∷ us) vs n e =
    let first : x ≡ u = cc in
    let rest = split_same xs ys us vs (omega (arith, n)) cc in
    ((λ i. first i ∷ rest.0 i), rest.1)

-- lists that are seen as one in two ways, which together tell all, are one
same_lists : {X A B : Type 0} (f : X → A) (g : X → B) → ((x y : X) → f x ≡ f y → g x ≡ g y → x ≡ y) → (xs ys : List X) → map f xs ≡ map f ys → map g xs ≡ map g ys → xs ≡ ys
same_lists f g once [] [] e h = refl
same_lists f g once [] (y ∷ ys) e h = absurd cc
same_lists f g once (x ∷ xs) [] e h = absurd cc
same_lists f g once (x ∷ xs) (y ∷ ys) e h =
    let first : f x ≡ f y = cc in
    let second : g x ≡ g y = cc in
    let others : map f xs ≡ map f ys = cc in
    let rest : map g xs ≡ map g ys = cc in
    (λ i. once x y first second i ∷ same_lists f g once xs ys others rest i)

counter_cell : Option PromCounter → SeriesCell → Option PromCounter
counter_cell d (cells.Counter cell) = cell
counter_cell d (cells.Gauge cell) = d
counter_cell d (cells.Histogram queue) = d

gauge_cell : Option PromGauge → SeriesCell → Option PromGauge
gauge_cell d (cells.Counter cell) = d
gauge_cell d (cells.Gauge cell) = cell
gauge_cell d (cells.Histogram queue) = d

histogram_cell : TimedQueue → SeriesCell → TimedQueue
histogram_cell d (cells.Counter cell) = d
histogram_cell d (cells.Gauge cell) = d
histogram_cell d (cells.Histogram queue) = queue

abbrev AnyThing : Type 0
AnyThing = Thing SeriesEntry SeriesCell

counter_told : (x y : LiveSeries SharedCounter) → counter_thing x ≡ counter_thing y → unseen x ≡ unseen y → x ≡ y
unfolding counter_cell
counter_told x y e h =
    let id = ap (λ (s : LiveSeries SharedCounter). s.id) h in
    let key = ap (λ (s : LiveSeries SharedCounter). s.key) h in
    let note = ap (λ (s : LiveSeries SharedCounter). s.cell.note) h in
    let cell = ap (λ (t : AnyThing). counter_cell x.cell.cell t.fixed) e in
    let root = view-back entries.Value value_once x.cell.root y.cell.root (ap (λ (t : AnyThing). t.root) e) in
    (λ i. record { id = id i; key = key i; cell = record { cell = cell i; root = root i; note = note i } })

gauge_told : (x y : LiveSeries SharedGauge) → gauge_thing x ≡ gauge_thing y → unseen x ≡ unseen y → x ≡ y
unfolding gauge_cell
gauge_told x y e h =
    let id = ap (λ (s : LiveSeries SharedGauge). s.id) h in
    let key = ap (λ (s : LiveSeries SharedGauge). s.key) h in
    let note = ap (λ (s : LiveSeries SharedGauge). s.cell.note) h in
    let cell = ap (λ (t : AnyThing). gauge_cell x.cell.cell t.fixed) e in
    let root = view-back entries.Value value_once x.cell.root y.cell.root (ap (λ (t : AnyThing). t.root) e) in
    (λ i. record { id = id i; key = key i; cell = record { cell = cell i; root = root i; note = note i } })

histogram_told : (x y : LiveSeries Sampled) → histogram_thing x ≡ histogram_thing y → unheard_series x ≡ unheard_series y → x ≡ y
unfolding histogram_cell
histogram_told x y e h =
    let id = ap (λ (s : LiveSeries Sampled). s.id) h in
    let key = ap (λ (s : LiveSeries Sampled). s.key) h in
    let note = ap (λ (s : LiveSeries Sampled). s.cell.note) h in
    let stray = ap (λ (s : LiveSeries Sampled). s.cell.series.stray) h in
    let kind = ap (λ (s : LiveSeries Sampled). s.cell.series.kind) h in
    let cell = ap (λ (t : AnyThing). histogram_cell x.cell.series.cell t.fixed) e in
    let root = view-back entries.Queue queue_once x.cell.series.root y.cell.series.root (ap (λ (t : AnyThing). t.root) e) in
    (λ i. record { id = id i; key = key i; cell = record { series = record { cell = cell i; root = root i; stray = stray i; kind = kind i }; note = note i } })

same_length : {X B : Type 0} (g : X → B) (xs ys : List X) → map g xs ≡ map g ys → length xs ≡ length ys
same_length g xs ys e = sym (length-map xs g) ∙ ap length e ∙ length-map ys g

pub same_exporter : (e f : Exporter) → things_of f ≡ things_of e → frame_of f ≡ frame_of e → f ≡ e
same_exporter e f things frame =
    let unseen_counters = ap (λ (x : Exporter). x.series.counters) frame in
    let unseen_gauges = ap (λ (x : Exporter). x.series.gauges) frame in
    let unheard_histograms = ap (λ (x : Exporter). x.series.histograms) frame in
    let many_counters = length-map f.series.counters counter_thing ∙ same_length unseen f.series.counters e.series.counters unseen_counters ∙ sym (length-map e.series.counters counter_thing) in
    let many_gauges = length-map f.series.gauges gauge_thing ∙ same_length unseen f.series.gauges e.series.gauges unseen_gauges ∙ sym (length-map e.series.gauges gauge_thing) in
    let front = split_same (map counter_thing f.series.counters) _ (map counter_thing e.series.counters) _ many_counters things in
    let back = split_same (map gauge_thing f.series.gauges) _ (map gauge_thing e.series.gauges) _ many_gauges front.1 in
    let counters = same_lists counter_thing unseen counter_told f.series.counters e.series.counters front.0 unseen_counters in
    let gauges = same_lists gauge_thing unseen gauge_told f.series.gauges e.series.gauges back.0 unseen_gauges in
    let histograms = same_lists histogram_thing unheard_series histogram_told f.series.histograms e.series.histograms back.1 unheard_histograms in
    let settings = ap (λ (x : Exporter). x.settings) frame in
    let made = ap (λ (x : Exporter). x.series.made) frame in
    let said = ap (λ (x : Exporter). x.said) frame in
    let redirected = ap (λ (x : Exporter). x.redirected) frame in
    (λ i. record { settings = settings i; series = record { counters = counters i; gauges = gauges i; histograms = histograms i; made = made i }; said = said i; redirected = redirected i })

-- ---- what a settled thing tells

module _ {X : Type 0} where
  -- a cell that is found stands somewhere
  pub found_at : (id : SeriesId) (es : List (LiveSeries X)) (cell : X) → cell_of id es ≡ Some cell
      → (place : ℕ) × (s : LiveSeries X) × (get_elem? es place ≡ some s) × (s.id ≡ id) × (s.cell ≡ cell)
  found_at id [] cell e = absurd cc
  found_at id (x ∷ es) cell e = by (has_id id x) refl e (λ later. found_at id es cell later)
    where
      by : (b : Bool) → has_id id x ≡ b → option_map (λ (s : LiveSeries X). s.cell) (cond b (Some x) (find (has_id id) es)) ≡ Some cell
          → (cell_of id es ≡ Some cell → (place : ℕ) × (s : LiveSeries X) × (get_elem? es place ≡ some s) × (s.id ≡ id) × (s.cell ≡ cell))
          → (place : ℕ) × (s : LiveSeries X) × (get_elem? (x ∷ es) place ≡ some s) × (s.id ≡ id) × (s.cell ≡ cell)
      by true has f rest = (0, x, refl, id_eq-same x.id id has, same_Some x.cell cell f)
      by false has f rest = let later = rest f in (suc later.0, later.1, later.2, later.3, later.4)

  pub at_all : (P : X → Type 0) (es : List X) (place : ℕ) (x : X) → get_elem? es place ≡ some x → All P es → P x
  at_all P [] place x at all = absurd (some-ne-none x (sym at))
  at_all P (y ∷ es) zero x at all = subst P (some-injective y x at) (All-head P y es all)
  at_all P (y ∷ es) (suc place) x at all = at_all P es place x at (All-tail P y es all)

module _ (e : Exporter) (have : HaveIndices e) where
  -- what has an index is there, and no pass of it is out
  pub index_within : (id : SeriesId) (index : ℕ) → IsIndex id e (Some index) → index < length (things_of e)
  index_within id index at = let below = some_below (ids_of e) index id at in let many = have.as_many in omega (arith, below, many)

  pub home_at : IsOfOneKind e → AllHome e → (index : ℕ) (thing : AnyThing) → get_elem? (things_of e) index ≡ some thing → (thing.root.number ≡ 0) × (thing.root.out ≡ 0)
  home_at kinds home index thing at =
      let P : AnyThing → Type 0 = λ t. (t.root.number ≡ 0) × (t.root.out ≡ 0) in
      ⊎_elim
      (λ (c : CounterHas e index thing). subst P c.2 (at_all (λ (s : LiveSeries SharedCounter). IsHome s.cell) e.series.counters index c.0 c.1 home.0))
      (λ (others : GaugeHas e index thing ⊎ HistogramHas e index thing). ⊎_elim
      (λ (g : GaugeHas e index thing). subst P g.2.2 (at_all (λ (s : LiveSeries SharedGauge). IsHome s.cell) e.series.gauges g.0 g.2.0 g.2.1 home.1))
      (λ (h : HistogramHas e index thing). subst P h.2.2 (at_all (λ (s : LiveSeries Sampled). IsAtRest s.cell) e.series.histograms h.0 h.2.0 h.2.1 home.2))
      others) (kinds index thing at)

  module _ (once : HaveOneIndex e) (id : SeriesId) where
    -- no index: no series of any kind has the id
    pub none_settled : IsIndex id e None → IsSettled id e
    none_settled none = record {
      counter = λ s found.
          (let at = found_at id e.series.counters s found in
          absurd (none at.0 (subst (λ i. get_elem? (ids_of e) at.0 ≡ some i) at.3 (have.counters at.0 at.1 at.2).1)));
      gauge = λ s found.
          (let at = found_at id e.series.gauges s found in
          absurd (none (gauge_index e at.0) (subst (λ i. get_elem? (ids_of e) (gauge_index e at.0) ≡ some i) at.3 (have.gauges at.0 at.1 at.2).1)));
      histogram = λ s found.
          (let at = found_at id e.series.histograms s found in
          absurd (none (histogram_index e at.0) (subst (λ i. get_elem? (ids_of e) (histogram_index e at.0) ≡ some i) at.3 (have.histograms at.0 at.1 at.2).1)));
    }

    pub index_settled : (index : ℕ) → IsIndex id e (Some index) → SettledAt root_of (things_of e) index → IsSettled id e
    index_settled index at_index settled = record {
      counter = λ s found.
          (let at = found_at id e.series.counters s found in
          let has = have.counters at.0 at.1 at.2 in
          let here = one at.0 at.1.id at.3 has.1 in
          subst (λ (x : SharedCounter). Settled x.root) at.4
          (settled-back entries.Value value_once at.1.cell.root (settled (counter_thing at.1) (subst (λ i. get_elem? (things_of e) i ≡ some (counter_thing at.1)) here has.0))));
      gauge = λ s found.
          (let at = found_at id e.series.gauges s found in
          let has = have.gauges at.0 at.1 at.2 in
          let here = one (gauge_index e at.0) at.1.id at.3 has.1 in
          subst (λ (x : SharedGauge). Settled x.root) at.4
          (settled-back entries.Value value_once at.1.cell.root (settled (gauge_thing at.1) (subst (λ i. get_elem? (things_of e) i ≡ some (gauge_thing at.1)) here has.0))));
      histogram = λ s found.
          (let at = found_at id e.series.histograms s found in
          let has = have.histograms at.0 at.1 at.2 in
          let here = one (histogram_index e at.0) at.1.id at.3 has.1 in
          subst (λ (x : Sampled). Settled x.series.root) at.4
          (settled-back entries.Queue queue_once at.1.cell.series.root (settled (histogram_thing at.1) (subst (λ i. get_elem? (things_of e) i ≡ some (histogram_thing at.1)) here has.0))));
    }
      where
        one : (i : ℕ) (own : SeriesId) → own ≡ id → get_elem? (ids_of e) i ≡ some own → i ≡ index
        one i own is at = once i index id (subst (λ k. get_elem? (ids_of e) i ≡ some k) is at) at_index
