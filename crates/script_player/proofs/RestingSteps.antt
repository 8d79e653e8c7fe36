-- The exporter between rounds: its series under their indices, and what registration, a round of lanes and a page leave.
use Rattle.std.proofs.Common.{◌≡◌, ℕ, zero, suc, ◌+◌, ◌⊎◌, Bool, true, false, cond, List, [], ◌∷◌, ◌++◌, length, map, refl, sym, ap, subst, ◌∙◌, inl, inr, ⊎_elim, arith}
use Rattle.std.specs.Prelude.{Result, Ok, Err, OnOk, Option, All}
use Rattle.std.proofs.lemmas.List.{length-map}
use Rattle.std.proofs.lemmas.List.Elements.{All-cons, All-nil}
use mathlib.Core.Option.{some, some-ne-none, some-injective}
use lib.ListN.{get_elem?}
use Rattle.atomic_table.proofs.Lists.{at_longer, at_map, at_snoc}
use Rattle.legal_history.specs.declared.history.View.{View}
use Rattle.legal_history.specs.History.{Settled, first}
use Rattle.legal_history.proofs.Mapped.{settled-mapped}
use Rattle.legal_history.proofs.Steps.{one_at}
use Rattle.cell_lanes.specs.Things.{Thing, root_of}
use Rattle.cell_lanes.specs.Lanes.{AtRest, Roots}
use Rattle.cell_lanes.proofs.Resting.{rests_after}
use Rattle.metrics_core.specs.Keys.{KeyText}
use Rattle.metrics_core.specs.declared.kinds.MetricKind.{MetricKind}
use Rattle.metrics_core.specs.declared.kinds.MetricKind.TheVariants as kinds
use Rattle.metrics_core.specs.declared.kinds.SeriesId.{SeriesId}
use Rattle.metrics_core.specs.declared.calls.SeriesCall.{SeriesCall}
use Rattle.metrics_core.specs.declared.calls.SeriesCall.TheVariants as calls
use Rattle.metrics_registry.specs.Live.{LiveSeries}
use Rattle.metrics_registry.specs.Recency.{Idle}
use Rattle.series_cells.specs.declared.counter.PromCounter.{PromCounter}
use Rattle.series_cells.specs.declared.gauge.PromGauge.{PromGauge}
use Rattle.histogram_series.specs.Entries.{TimedCall, TimedEntry, TimedQueue}
use Rattle.histogram_series.specs.Drains.{TakesOut}
use Rattle.prom_exporter.specs.Shared.{Shared, unused}
use Rattle.prom_exporter.specs.Sampled.{Sampled}
use Rattle.prom_exporter.specs.Stepped.{AreCounted, AreDrained, AreNoted, DrainsEach, DrainsInPart, DrainsWhole, IsCounted, IsNoted, Steps}
use Rattle.prom_exporter.specs.Exporter.{Exporter, AddsCounter, AddsGauge, AddsHistogram, AllHome, Cells, no_cells}
use Rattle.prom_exporter.proofs.Home.{counts-home}
use Rattle.prom_exporter.specs.declared.lanes.SeriesCell.{SeriesCell}
use Rattle.prom_exporter.specs.declared.lanes.SeriesCell.TheVariants as cells
use Rattle.prom_exporter.specs.declared.lanes.SeriesEntry.{SeriesEntry}
use Rattle.prom_exporter.specs.declared.lanes.SeriesEntry.TheVariants as entries
use Rattle.prom_exporter.specs.LanePasses.{TakesCall, counter_thing, gauge_thing, histogram_thing, things_of, ids_of, frame_of, unseen, unheard_series}
use Rattle.script_player.specs.LaneCalls.{IsOfKind, kind_asked}
use Rattle.script_player.specs.Resting.{AllRest, EachRests, IsResting, sample_root, value_root}
use Rattle.script_player.specs.Rounds.{RestsOn}
use Rattle.script_player.proofs.LaneSteps.{counter≢gauge, counter≢histogram, gauge≢histogram, front_or_behind, its_id, map_at}
use Rattle.script_player.proofs.Unmapped.{queue_once, settled-back, value_once}

-- ---- series under their indices

at_behind : {A : Type 0} (xs ys : List A) (k : ℕ) (a : A) → get_elem? ys k ≡ some a → get_elem? (xs ++ ys) (length xs + k) ≡ some a
at_behind [] ys k a e = subst (λ n. get_elem? ys n ≡ some a) (omega arith) e
at_behind (x ∷ xs) ys k a e = let more : suc (length xs + k) ≡ length (x ∷ xs) + k = omega arith in subst (λ n. get_elem? (x ∷ (xs ++ ys)) n ≡ some a) more (at_behind xs ys k a e)

-- what is known of a series under its index, where it is seen so
module _ {X A : Type 0} (seen : X → A) (xs : List X) where
  pub first_at : (rest : List A) (i : ℕ) (x : X) → get_elem? xs i ≡ some x → get_elem? (map seen xs ++ rest) i ≡ some (seen x)
  first_at rest i x at = at_longer (map seen xs) rest i (seen x) (at_map seen xs i x at)

module _ {X Y A : Type 0} (front : Y → A) (seen : X → A) (ys : List Y) (xs : List X) where
  pub next_at : (rest : List A) (k : ℕ) (x : X) → get_elem? xs k ≡ some x → get_elem? (map front ys ++ (map seen xs ++ rest)) (length ys + k) ≡ some (seen x)
  next_at rest k x at = subst (λ n. get_elem? (map front ys ++ (map seen xs ++ rest)) (n + k) ≡ some (seen x)) (length-map ys front) (at_behind (map front ys) (map seen xs ++ rest) k (seen x) (first_at seen xs rest k x at))

-- behind two other lists
module _ {X Y Z A : Type 0} (front : Y → A) (middle : Z → A) (seen : X → A) (ys : List Y) (zs : List Z) (xs : List X) where
  pub last_at : (k : ℕ) (x : X) → get_elem? xs k ≡ some x → get_elem? (map front ys ++ (map middle zs ++ map seen xs)) (length ys + (length zs + k)) ≡ some (seen x)
  last_at k x at =
      let inner = subst (λ n. get_elem? (map middle zs ++ map seen xs) (n + k) ≡ some (seen x)) (length-map zs middle) (at_behind (map middle zs) (map seen xs) k (seen x) (at_map seen xs k x at)) in
      subst (λ n. get_elem? (map front ys ++ (map middle zs ++ map seen xs)) (n + (length zs + k)) ≡ some (seen x)) (length-map ys front) (at_behind (map front ys) (map middle zs ++ map seen xs) (length zs + k) (seen x) inner)

abbrev SeriesThing : Type 0
SeriesThing = Thing SeriesEntry SeriesCell

module _ (e : Exporter) where
  abbrev counters : List (LiveSeries (Shared (Option PromCounter)))
  counters = e.series.counters

  abbrev gauges : List (LiveSeries (Shared (Option PromGauge)))
  gauges = e.series.gauges

  abbrev histograms : List (LiveSeries Sampled)
  histograms = e.series.histograms

  pub counter_at : (i : ℕ) (s : LiveSeries (Shared (Option PromCounter))) → get_elem? counters i ≡ some s → get_elem? (things_of e) i ≡ some (counter_thing s)
  counter_at = first_at counter_thing counters (map gauge_thing gauges ++ map histogram_thing histograms)

  pub gauge_at : (k : ℕ) (s : LiveSeries (Shared (Option PromGauge))) → get_elem? gauges k ≡ some s → get_elem? (things_of e) (length counters + k) ≡ some (gauge_thing s)
  gauge_at = next_at counter_thing gauge_thing counters gauges (map histogram_thing histograms)

  pub histogram_at : (k : ℕ) (s : LiveSeries Sampled) → get_elem? histograms k ≡ some s → get_elem? (things_of e) (length counters + (length gauges + k)) ≡ some (histogram_thing s)
  histogram_at = last_at counter_thing gauge_thing histogram_thing counters gauges histograms

  pub counter_id : (i : ℕ) (s : LiveSeries (Shared (Option PromCounter))) → get_elem? counters i ≡ some s → get_elem? (ids_of e) i ≡ some s.id
  counter_id = first_at its_id counters (map its_id gauges ++ map its_id histograms)

  pub gauge_id : (k : ℕ) (s : LiveSeries (Shared (Option PromGauge))) → get_elem? gauges k ≡ some s → get_elem? (ids_of e) (length counters + k) ≡ some s.id
  gauge_id = next_at its_id its_id counters gauges (map its_id histograms)

  pub histogram_id : (k : ℕ) (s : LiveSeries Sampled) → get_elem? histograms k ≡ some s → get_elem? (ids_of e) (length counters + (length gauges + k)) ≡ some s.id
  histogram_id = last_at its_id its_id its_id counters gauges histograms

  -- a counter under its index, a gauge, or a histogram
  abbrev CounterAt : ℕ → SeriesThing → Type 0
  CounterAt j t = (s : LiveSeries (Shared (Option PromCounter))) × (get_elem? counters j ≡ some s) × (counter_thing s ≡ t)

  abbrev GaugeAt : ℕ → SeriesThing → Type 0
  GaugeAt j t = (k : ℕ) × (j ≡ length counters + k) × ((s : LiveSeries (Shared (Option PromGauge))) × (get_elem? gauges k ≡ some s) × (gauge_thing s ≡ t))

  abbrev HistogramAt : ℕ → SeriesThing → Type 0
  HistogramAt j t = (k : ℕ) × (j ≡ length counters + (length gauges + k)) × ((s : LiveSeries Sampled) × (get_elem? histograms k ≡ some s) × (histogram_thing s ≡ t))

  -- a place behind the counters
  behind_counters : (k : ℕ) (t : SeriesThing) → get_elem? (map gauge_thing gauges ++ map histogram_thing histograms) k ≡ some t → (j : ℕ) → j ≡ length counters + k → GaugeAt j t ⊎ HistogramAt j t
  behind_counters k t at j is = ⊎_elim
      (λ (front : get_elem? (map gauge_thing gauges) k ≡ some t). inl (k, is, map_at gauge_thing gauges k t front))
      (λ (back : (n : ℕ) × (k ≡ length (map gauge_thing gauges) + n) × (get_elem? (map histogram_thing histograms) n ≡ some t)).
      inr (back.0, is ∙ ap (λ m. length counters + m) (back.1 ∙ ap (λ m. m + back.0) (length-map gauges gauge_thing)), map_at histogram_thing histograms back.0 t back.2))
      (front_or_behind (map gauge_thing gauges) (map histogram_thing histograms) k t at)

  thing_at : (j : ℕ) (t : SeriesThing) → get_elem? (things_of e) j ≡ some t → CounterAt j t ⊎ (GaugeAt j t ⊎ HistogramAt j t)
  thing_at j t at = ⊎_elim
      (λ (front : get_elem? (map counter_thing counters) j ≡ some t). inl (map_at counter_thing counters j t front))
      (λ (back : (k : ℕ) × (j ≡ length (map counter_thing counters) + k) × (get_elem? (map gauge_thing gauges ++ map histogram_thing histograms) k ≡ some t)).
      inr (behind_counters back.0 t back.2 j (back.1 ∙ ap (λ n. n + back.0) (length-map counters counter_thing))))
      (front_or_behind (map counter_thing counters) (map gauge_thing gauges ++ map histogram_thing histograms) j t at)

  module _ (P : SeriesThing → Type 0) (of_counter : (i : ℕ) (s : LiveSeries (Shared (Option PromCounter))) → get_elem? counters i ≡ some s → P (counter_thing s))
      (of_gauge : (i : ℕ) (s : LiveSeries (Shared (Option PromGauge))) → get_elem? gauges i ≡ some s → P (gauge_thing s))
      (of_histogram : (i : ℕ) (s : LiveSeries Sampled) → get_elem? histograms i ≡ some s → P (histogram_thing s)) where
    each_thing : (j : ℕ) (t : SeriesThing) → get_elem? (things_of e) j ≡ some t → P t
    each_thing j t at = ⊎_elim (λ (c : CounterAt j t). subst P c.2 (of_counter j c.0 c.1))
        (λ (others : GaugeAt j t ⊎ HistogramAt j t). ⊎_elim (λ (g : GaugeAt j t). subst P g.2.2 (of_gauge g.0 g.2.0 g.2.1)) (λ (h : HistogramAt j t). subst P h.2.2 (of_histogram h.0 h.2.0 h.2.1)) others) (thing_at j t at)

  -- ---- what lanes need

  pub rest_roots : AllRest e → Roots root_of (things_of e)
  rest_roots rest = each_thing (λ t. t.root.number ≡ 0) (λ i s at. (rest.counters i s at).home.0) (λ i s at. (rest.gauges i s at).home.0) (λ i s at. (rest.histograms i s at).home.0)

  pub rest_settled : AllRest e → AtRest root_of (things_of e)
  rest_settled rest = each_thing (λ t. (t.root.out ≡ 0) × Settled t.root)
      (λ i s at. ((rest.counters i s at).home.1, settled-mapped entries.Value s.cell.root (rest.counters i s at).settled))
      (λ i s at. ((rest.gauges i s at).home.1, settled-mapped entries.Value s.cell.root (rest.gauges i s at).settled))
      (λ i s at. ((rest.histograms i s at).home.1, settled-mapped entries.Queue s.cell.series.root (rest.histograms i s at).settled))

  takes_counter : (cell : Option PromCounter) (call : SeriesCall) → kinds.Counter ≡ kind_asked call → TakesCall (cells.Counter cell) call
  takes_counter cell (calls.Increment n) is = tt
  takes_counter cell (calls.Absolute n) is = tt
  takes_counter cell (calls.Add v) is = absurd (counter≢gauge is)
  takes_counter cell (calls.Subtract v) is = absurd (counter≢gauge is)
  takes_counter cell (calls.Set v) is = absurd (counter≢gauge is)
  takes_counter cell (calls.Record v moment count) is = absurd (counter≢histogram is)

  takes_gauge : (cell : Option PromGauge) (call : SeriesCall) → kinds.Gauge ≡ kind_asked call → TakesCall (cells.Gauge cell) call
  takes_gauge cell (calls.Increment n) is = absurd (counter≢gauge (sym is))
  takes_gauge cell (calls.Absolute n) is = absurd (counter≢gauge (sym is))
  takes_gauge cell (calls.Add v) is = tt
  takes_gauge cell (calls.Subtract v) is = tt
  takes_gauge cell (calls.Set v) is = tt
  takes_gauge cell (calls.Record v moment count) is = absurd (gauge≢histogram is)

  takes_histogram : (queue : TimedQueue) (call : SeriesCall) → kinds.Histogram ≡ kind_asked call → TakesCall (cells.Histogram queue) call
  takes_histogram queue (calls.Increment n) is = absurd (counter≢histogram (sym is))
  takes_histogram queue (calls.Absolute n) is = absurd (counter≢histogram (sym is))
  takes_histogram queue (calls.Add v) is = absurd (gauge≢histogram (sym is))
  takes_histogram queue (calls.Subtract v) is = absurd (gauge≢histogram (sym is))
  takes_histogram queue (calls.Set v) is = absurd (gauge≢histogram (sym is))
  takes_histogram queue (calls.Record v moment count) is = tt

  -- a call of a series' kind is one that the series takes
  pub takes_at : AllRest e → (j : ℕ) (t : SeriesThing) (call : SeriesCall) → get_elem? (things_of e) j ≡ some t → IsOfKind (ids_of e) j (kind_asked call) → TakesCall t.fixed call
  takes_at rest j t call at_thing asks =
      -- the series with this index has the kind of the call
      let asked_kind = λ (kind : MetricKind) (id : SeriesId) (at : get_elem? (ids_of e) j ≡ some id) (is : id.kind ≡ kind). sym is ∙ ap (λ (i : SeriesId). i.kind) (one_at (ids_of e) j id asks.0 at asks.1) ∙ asks.2 in
      ⊎_elim
      (λ (c : CounterAt j t). subst (λ (y : SeriesThing). TakesCall y.fixed call) c.2 (takes_counter c.0.cell.cell call (asked_kind kinds.Counter c.0.id (counter_id j c.0 c.1) (rest.counters j c.0 c.1).kind_is)))
      (λ (others : GaugeAt j t ⊎ HistogramAt j t). ⊎_elim
      (λ (g : GaugeAt j t).
      subst (λ (y : SeriesThing). TakesCall y.fixed call) g.2.2
      (takes_gauge g.2.0.cell.cell call (asked_kind kinds.Gauge g.2.0.id (subst (λ n. get_elem? (ids_of e) n ≡ some g.2.0.id) (sym g.1) (gauge_id g.0 g.2.0 g.2.1)) (rest.gauges g.0 g.2.0 g.2.1).kind_is)))
      (λ (h : HistogramAt j t).
      subst (λ (y : SeriesThing). TakesCall y.fixed call) h.2.2
      (takes_histogram h.2.0.cell.series.cell call (asked_kind kinds.Histogram h.2.0.id (subst (λ n. get_elem? (ids_of e) n ≡ some h.2.0.id) (sym h.1) (histogram_id h.0 h.2.0 h.2.1)) (rest.histograms h.0 h.2.0 h.2.1).kind_is)))
      others) (thing_at j t at_thing)

-- no pass of any cell is out
each_home : {X M : Type 0} (root : X → View M) (kind : MetricKind) (P : X → Type 0) → ((x : X) → ((root x).number ≡ 0) × ((root x).out ≡ 0) → P x) → (es : List (LiveSeries X)) → EachRests root kind es → All (λ (s : LiveSeries X). P s.cell) es
each_home root kind P is [] rest = All-nil _
each_home {X} root kind P is (e ∷ es) rest = All-cons (λ (s : LiveSeries X). P s.cell) e es (is e.cell (rest 0 e refl).home) (each_home root kind P is es (λ i s at. rest (suc i) s at))

pub rest_home : (e : Exporter) → AllRest e → AllHome e
rest_home e rest = (
  each_home value_root kinds.Counter _ (λ x home. home) e.series.counters rest.counters,
  each_home value_root kinds.Gauge _ (λ x home. home) e.series.gauges rest.gauges,
  each_home sample_root kinds.Histogram _ (λ x home. home) e.series.histograms rest.histograms,
)

pub when_ok : {T E : Type 0} {A B : Type 0} (r : Result T E) → OnOk r A → (A → B) → OnOk r B
when_ok (Ok v) a to = to a
when_ok (Err v) a to = tt

-- ---- what stays at rest

-- what a round leaves of a series
pub left_at : {X : Type 0} (left : LiveSeries X → LiveSeries X) (es fs : List (LiveSeries X)) → map left fs ≡ map left es → (i : ℕ) (t : LiveSeries X) → get_elem? fs i ≡ some t → (s : LiveSeries X) × (get_elem? es i ≡ some s) × (left s ≡ left t)
left_at left es fs same i t at = map_at left es i (left t) (subst (λ l. get_elem? l i ≡ some (left t)) same (at_map left fs i t at))

pub rest_after : (e f : Exporter) → frame_of f ≡ frame_of e → Roots root_of (things_of f) → AtRest root_of (things_of f) → AllRest e → AllRest f
rest_after e f frame roots settled rest = record {
  counters = λ i t at.
      let before = left_at unseen e.series.counters f.series.counters (ap (λ (x : Exporter). x.series.counters) frame) i t at in
      let here = counter_at f i t at in
      record {
        kind_is = ap (λ (s : LiveSeries (Shared (Option PromCounter))). s.id.kind) (sym before.2) ∙ (rest.counters i before.0 before.1).kind_is;
        home = (roots i (counter_thing t) here, (settled i (counter_thing t) here).0);
        settled = settled-back entries.Value value_once t.cell.root (settled i (counter_thing t) here).1;
      };
  gauges = λ i t at.
      let before = left_at unseen e.series.gauges f.series.gauges (ap (λ (x : Exporter). x.series.gauges) frame) i t at in
      let here = gauge_at f i t at in
      record {
        kind_is = ap (λ (s : LiveSeries (Shared (Option PromGauge))). s.id.kind) (sym before.2) ∙ (rest.gauges i before.0 before.1).kind_is;
        home = (roots _ (gauge_thing t) here, (settled _ (gauge_thing t) here).0);
        settled = settled-back entries.Value value_once t.cell.root (settled _ (gauge_thing t) here).1;
      };
  histograms = λ i t at.
      let before = left_at unheard_series e.series.histograms f.series.histograms (ap (λ (x : Exporter). x.series.histograms) frame) i t at in
      let here = histogram_at f i t at in
      record {
        kind_is = ap (λ (s : LiveSeries Sampled). s.id.kind) (sym before.2) ∙ (rest.histograms i before.0 before.1).kind_is;
        home = (roots _ (histogram_thing t) here, (settled _ (histogram_thing t) here).0);
        settled = settled-back entries.Queue queue_once t.cell.series.root (settled _ (histogram_thing t) here).1;
      };
}

settled_first : {C : Type 0} → Settled (first {C = C})
settled_first = record { own = refl; back = λ h among. absurd among; cover = λ t. inl refl; apart = ((λ is. is), tt) }

-- one more series, whose cell nobody has called
new_rests : {X M : Type 0} (root : X → View M) (kind : MetricKind) (es : List (LiveSeries X)) (number : ℕ) (key : KeyText) (cell : X) → root cell ≡ first → EachRests root kind es
    → EachRests root kind (es ++ record { id = record { kind = kind; number = number }; key = key; cell = cell } ∷ [])
new_rests {X} root kind es number key cell is_first rest i s at =
    let new : LiveSeries X = record { id = record { kind = kind; number = number }; key = key; cell = cell } in
    let rests : IsResting root kind new = record {
      kind_is = refl;
      home = (ap (λ v. v.number) is_first, ap (λ v. v.out) is_first);
      settled = subst Settled (sym is_first) settled_first;
    } in
    ⊎_elim (λ (old : get_elem? es i ≡ some s). rest i s old) (λ (is : new ≡ s). subst (IsResting root kind) is rests) (at_snoc es new s i at)

-- a state with the series of one that rests
rests_as : (e : Exporter) (cells : Cells) (f : Exporter) → f.series ≡ cells → AllRest (record e { series = cells }) → AllRest f
rests_as e cells f same rest = record {
  counters = subst (λ (c : Cells). EachRests value_root kinds.Counter c.counters) (sym same) rest.counters;
  gauges = subst (λ (c : Cells). EachRests value_root kinds.Gauge c.gauges) (sym same) rest.gauges;
  histograms = subst (λ (c : Cells). EachRests sample_root kinds.Histogram c.histograms) (sym same) rest.histograms;
}

pub counter_rests : (key : KeyText) (old new : Exporter) → (new.series ≡ old.series) ⊎ AddsCounter key old new → AllRest old → AllRest new
counter_rests key old new step rest = ⊎_elim
    (λ (same : new.series ≡ old.series). rests_as old old.series new same (record { counters = rest.counters; gauges = rest.gauges; histograms = rest.histograms }))
    (λ (adds : AddsCounter key old new). rests_as old _ new adds.1 (record { counters = new_rests value_root kinds.Counter old.series.counters old.series.made key (unused adds.0) refl rest.counters; gauges = rest.gauges; histograms = rest.histograms }))
    step

pub gauge_rests : (key : KeyText) (old new : Exporter) → (new.series ≡ old.series) ⊎ AddsGauge key old new → AllRest old → AllRest new
gauge_rests key old new step rest = ⊎_elim
    (λ (same : new.series ≡ old.series). rests_as old old.series new same (record { counters = rest.counters; gauges = rest.gauges; histograms = rest.histograms }))
    (λ (adds : AddsGauge key old new). rests_as old _ new adds.1 (record { counters = rest.counters; gauges = new_rests value_root kinds.Gauge old.series.gauges old.series.made key (unused adds.0) refl rest.gauges; histograms = rest.histograms }))
    step

pub histogram_rests : (key : KeyText) (old new : Exporter) → (new.series ≡ old.series) ⊎ AddsHistogram key old new → AllRest old → AllRest new
histogram_rests key old new step rest = ⊎_elim
    (λ (same : new.series ≡ old.series). rests_as old old.series new same (record { counters = rest.counters; gauges = rest.gauges; histograms = rest.histograms }))
    (λ (adds : AddsHistogram key old new). rests_as old _ new adds.1 (record { counters = rest.counters; gauges = rest.gauges; histograms = new_rests sample_root kinds.Histogram old.series.histograms old.series.made key _ refl rest.histograms }))
    step

-- an exporter without series
pub none_rest : (e : Exporter) → e.series ≡ no_cells → AllRest e
none_rest e none = record {
  counters = subst (λ (cells : Cells). EachRests value_root kinds.Counter cells.counters) (sym none) (λ i s at. absurd (some-ne-none s (sym at)));
  gauges = subst (λ (cells : Cells). EachRests value_root kinds.Gauge cells.gauges) (sym none) (λ i s at. absurd (some-ne-none s (sym at)));
  histograms = subst (λ (cells : Cells). EachRests sample_root kinds.Histogram cells.histograms) (sym none) (λ i s at. absurd (some-ne-none s (sym at)));
}

-- something was said of metrics, and nothing else happened
pub said_rests : (old new : Exporter) → new ≡ record old { said = new.said } → AllRest old → AllRest new
said_rests old new same rest = subst AllRest (sym same) (record { counters = rest.counters; gauges = rest.gauges; histograms = rest.histograms })

-- ---- what a page leaves

one_more_rests : {X M : Type 0} (root : X → View M) (kind : MetricKind) (b : Bool) (e : LiveSeries X) (es : List (LiveSeries X)) → IsResting root kind e → EachRests root kind es → EachRests root kind (cond b (e ∷ es) es)
one_more_rests root kind true e es own tail zero s at = subst (IsResting root kind) (some-injective e s at) own
one_more_rests root kind true e es own tail (suc i) s at = tail i s at
one_more_rests root kind false e es own tail i s at = tail i s at

-- counters and gauges are noted, and those that stay rest
module _ {F : Type 0} (idle : Option Idle) (moment : ℕ) (kind : MetricKind) where
  noted_one_rests : (e : LiveSeries (Shared F)) (stays : Bool) (cell : Shared F) → IsNoted idle moment kind e.cell stays cell → IsResting value_root kind e → IsResting value_root kind (record e { cell = cell })
  noted_one_rests e stays cell noted rest =
      let same : cell.root ≡ e.cell.root =
      ap (λ (c : Shared F). c.root) noted.left ∙ ap (λ (c : Shared F). c.root) (counts-home e.cell noted.seen noted.count rest.home noted.counts) in
      record {
        kind_is = rest.kind_is;
        home = (ap (λ (v : View SeriesCall). v.number) same ∙ rest.home.0, ap (λ (v : View SeriesCall). v.out) same ∙ rest.home.1);
        settled = subst (λ (v : View SeriesCall). Settled v) (sym same) rest.settled;
      }

  pub noted_rests : (es fs : List (LiveSeries (Shared F))) → EachRests value_root kind es → AreNoted idle moment kind es fs → EachRests value_root kind fs
  noted_rests [] fs rests noted = subst (EachRests value_root kind) (sym noted) rests
  noted_rests (e ∷ es) fs rests (stays, cell, rest, one, others, is) =
      subst (EachRests value_root kind) (sym is)
      (one_more_rests value_root kind stays (record e { cell = cell }) rest (noted_one_rests e stays cell one (rests 0 e refl)) (noted_rests es rest (λ i s at. rests (suc i) s at) others))

-- a root that takes entries out of a queue is at rest then too
taken_rests : (v w : View TimedCall) (es : List TimedEntry) → TakesOut v es w → v.number ≡ 0 → v.out ≡ 0 → Settled v → ((w.number ≡ 0) × (w.out ≡ 0)) × Settled w
taken_rests v w [] is number out settled = subst (λ (x : View TimedCall). ((x.number ≡ 0) × (x.out ≡ 0)) × Settled x) is ((number, out), settled)
taken_rests v w (e ∷ es) (m, one, others) number out settled =
    let (log, x, y, sees, runs, step, is) = one in
    let next = rests_after v m log _ sees is number out in
    taken_rests m w es others next.0 next.1 next.2

drained_one_rests : (s t : LiveSeries Sampled) → t.id ≡ s.id → DrainsInPart s.cell t.cell → IsResting sample_root kinds.Histogram s → IsResting sample_root kinds.Histogram t
drained_one_rests s t same drains rest =
    let next = taken_rests s.cell.series.root t.cell.series.root drains.drains.out drains.drains.taken rest.home.0 rest.home.1 rest.settled in
    record { kind_is = ap (λ (id : SeriesId). id.kind) same ∙ rest.kind_is; home = next.0; settled = next.1 }

pub drained_rests : (changes : Sampled → Sampled → Type 0) → ((s t : Sampled) → changes s t → DrainsInPart s t) → (es ds : List (LiveSeries Sampled)) → EachRests sample_root kinds.Histogram es → AreDrained changes es ds → EachRests sample_root kinds.Histogram ds
drained_rests changes to [] [] rests drained = λ i s at. absurd (some-ne-none s (sym at))
drained_rests changes to [] (d ∷ ds) rests drained = absurd drained
drained_rests changes to (e ∷ es) [] rests drained = absurd drained
drained_rests changes to (e ∷ es) (d ∷ ds) rests drained =
    one_more_rests sample_root kinds.Histogram true d ds (drained_one_rests e d drained.0.0 (to e.cell d.cell drained.0.2) (rests 0 e refl)) (drained_rests changes to es ds (λ i s at. rests (suc i) s at) drained.1)

counted_one_rests : (idle : Option Idle) (moment : ℕ) (e : LiveSeries Sampled) (stays : Bool) (cell : Sampled) → IsCounted idle moment e.cell stays cell → IsResting sample_root kinds.Histogram e → IsResting sample_root kinds.Histogram (record e { cell = cell })
counted_one_rests idle moment e stays cell counted rest =
    let same : cell.series.root ≡ e.cell.series.root = ap (λ (c : Sampled). c.series.root) counted.left in
    record {
      kind_is = rest.kind_is;
      home = (ap (λ (v : View TimedCall). v.number) same ∙ rest.home.0, ap (λ (v : View TimedCall). v.out) same ∙ rest.home.1);
      settled = subst (λ (v : View TimedCall). Settled v) (sym same) rest.settled;
    }

pub counted_rests : (idle : Option Idle) (moment : ℕ) (es fs : List (LiveSeries Sampled)) → EachRests sample_root kinds.Histogram es → AreCounted idle moment es fs → EachRests sample_root kinds.Histogram fs
counted_rests idle moment [] fs rests counted = subst (EachRests sample_root kinds.Histogram) (sym counted) rests
counted_rests idle moment (e ∷ es) fs rests (stays, cell, rest, one, others, is) =
    subst (EachRests sample_root kinds.Histogram) (sym is)
    (one_more_rests sample_root kinds.Histogram stays (record e { cell = cell }) rest (counted_one_rests idle moment e stays cell one (rests 0 e refl)) (counted_rests idle moment es rest (λ i s at. rests (suc i) s at) others))

page_rests : (moment : ℕ) (e f : Exporter) → Steps moment e f → AllRest e → AllRest f
page_rests moment e f steps rest = record {
  counters = noted_rests e.settings.idle moment kinds.Counter e.series.counters f.series.counters rest.counters steps.counters;
  gauges = noted_rests e.settings.idle moment kinds.Gauge e.series.gauges f.series.gauges rest.gauges steps.gauges;
  histograms = counted_rests e.settings.idle moment steps.drained f.series.histograms
      (drained_rests DrainsWhole (λ s t whole. whole.in_part) e.series.histograms steps.drained rest.histograms steps.drains) steps.histograms;
}

-- histograms were drained in part, and nothing else happened
upkeep_rests : (e f : Exporter) → DrainsEach DrainsInPart e f → AllRest e → AllRest f
upkeep_rests e f drains rest =
    subst AllRest (sym drains.1) (record { counters = rest.counters; gauges = rest.gauges; histograms = drained_rests DrainsInPart (λ s t part. part) e.series.histograms f.series.histograms rest.histograms drains.0 })

-- a page step was made, or histograms were drained
pub page_rests_on : (moment : ℕ) (e f : Exporter) → AllRest e → Steps moment e f → RestsOn e f
page_rests_on moment e f rest steps = record { rest = page_rests moment e f steps rest; settings = steps.settings }

pub upkeep_rests_on : (e f : Exporter) → AllRest e → DrainsEach DrainsInPart e f → RestsOn e f
upkeep_rests_on e f rest drains = record { rest = upkeep_rests e f drains rest; settings = ap (λ (x : Exporter). x.settings) drains.1 }

pub render_rests : {P Q : Type 0} (moment : ℕ) (e f : Exporter) → Steps moment e f ⊎ (P × DrainsEach DrainsInPart e f × Q) → AllRest e → RestsOn e f
render_rests {P} {Q} moment e f rendered rest = ⊎_elim (page_rests_on moment e f rest) (λ (drains : P × DrainsEach DrainsInPart e f × Q). upkeep_rests_on e f rest drains.1) rendered
