-- The exporter's series by their indices: counters, then gauges, then histograms.
use Rattle.std.proofs.Common.{◌≡◌, true, false, ℕ, zero, suc, ◌+◌, ◌-◌, ◌<◌, ◌≤◌, List, [], ◌∷◌, ◌++◌, length, map, set, Option, Some, None, refl, sym, ap, subst, ◌∙◌, ◌⊎◌, inl, inr, ⊎_elim, arith, length-append}
use Rattle.std.specs.Prelude.{option_map, slice_get, All}
use Rattle.std.specs.List.{list_any}
use Rattle.std.proofs.lemmas.Bool.{cases_lt, true≢false, or_parts}
use Rattle.std.proofs.lemmas.List.Elements.{All-nil, All-cons}
use Rattle.cell_lanes.specs.Lanes.{Roots, Home}
use Rattle.std.proofs.lemmas.Option.{same_Some}
use Rattle.std.proofs.lemmas.List.{length-map}
use mathlib.Core.Option.{some, some-ne-none, some-injective}
use lib.ListN.{get_elem?}
use Rattle.atomic_table.proofs.Lists.{at_longer}
use Rattle.legal_history.proofs.Steps.{one_at}
use Rattle.legal_history.specs.declared.history.View.{View}
use Rattle.legal_history.specs.History.{Settled, lender, child, taker, longer}
use Rattle.legal_history.specs.Mapped.{mapped_view}
use Rattle.legal_history.proofs.Mapped.{settled-mapped}
use Rattle.legal_history.proofs.Prefixes.{prefix_self}
use Rattle.cell_lanes.specs.Things.{Thing, TookBack, Lease, root_of}
use Rattle.cell_lanes.proofs.Mapped.{took_back-mapped}
use Rattle.metrics_core.specs.declared.kinds.SeriesId.{SeriesId}
use Rattle.metrics_registry.specs.Live.{LiveSeries, id_eq, has_id}
use Rattle.metrics_registry.proofs.IdTests.{id_eq-same, id_eq-refl}
use Rattle.metrics_registry.specs.Places.{with_cell_at}
use Rattle.metrics_core.specs.declared.calls.SeriesCall.{SeriesCall}
use Rattle.series_cells.specs.declared.counter.PromCounter.{PromCounter}
use Rattle.series_cells.specs.declared.gauge.PromGauge.{PromGauge}
use Rattle.histogram_series.specs.Entries.{TimedCall, TimedQueue}
use Rattle.histogram_series.specs.Series.{with_one_back}
use Rattle.prom_exporter.specs.declared.lanes.LanePass.{LanePass}
use Rattle.prom_exporter.specs.declared.lanes.LanePass.TheVariants as passes
use Rattle.prom_exporter.specs.declared.lanes.SeriesCell.{SeriesCell}
use Rattle.prom_exporter.specs.declared.lanes.SeriesCell.TheVariants as cells
use Rattle.prom_exporter.specs.declared.lanes.SeriesEntry.{SeriesEntry}
use Rattle.prom_exporter.specs.declared.lanes.SeriesEntry.TheVariants as entry
use Rattle.prom_exporter.specs.Shared.{Shared, Looks, TakesBack, Makes, unmade, with_lent}
use Rattle.prom_exporter.specs.Sampled.{Sampled, with_pass_out}
use Rattle.prom_exporter.specs.Exporter.{Exporter, AllHome, SharedCounter, SharedGauge}
use Rattle.prom_exporter.proofs.Home.{looks-home}
use Rattle.prom_exporter.specs.LanePasses.{IsPassOf, Lasts, lasts_on, of_counter, of_gauge, of_histogram, counter_thing, gauge_thing, histogram_thing, things_of, ids_of, pass_known, unheard, frame_of}

-- ---- lists, one behind the other

module _ {A : Type 0} where
  set_front : (xs ys : List A) (i : ℕ) (a : A) → i < length xs → set (xs ++ ys) i a ≡ set xs i a ++ ys
  set_front [] ys i a h = absurd (omega (arith, h))
  set_front (x ∷ xs) ys zero a h = refl
  set_front (x ∷ xs) ys (suc i) a h = ap (λ l. x ∷ l) (set_front xs ys i a (omega (arith, h)))

  set_behind : (xs ys : List A) (k : ℕ) (a : A) → set (xs ++ ys) (length xs + k) a ≡ xs ++ set ys k a
  set_behind [] ys k a = ap (λ n. set ys n a) (omega arith)
  set_behind (x ∷ xs) ys k a =
      let more : length (x ∷ xs) + k ≡ suc (length xs + k) = omega arith in
      ap (λ n. set (x ∷ (xs ++ ys)) n a) more ∙ ap (λ l. x ∷ l) (set_behind xs ys k a)

  pub at_behind : (xs ys : List A) (k : ℕ) (a : A) → get_elem? ys k ≡ some a → get_elem? (xs ++ ys) (length xs + k) ≡ some a
  at_behind [] ys k a e = subst (λ n. get_elem? ys n ≡ some a) (omega arith) e
  at_behind (x ∷ xs) ys k a e = let more : suc (length xs + k) ≡ length (x ∷ xs) + k = omega arith in subst (λ n. get_elem? (x ∷ (xs ++ ys)) n ≡ some a) more (at_behind xs ys k a e)

  front_or_back : (xs ys : List A) (j : ℕ) (a : A) → get_elem? (xs ++ ys) j ≡ some a → (get_elem? xs j ≡ some a) ⊎ ((k : ℕ) × (get_elem? ys k ≡ some a))
  front_or_back [] ys j a e = inr (j, e)
  front_or_back (x ∷ xs) ys zero a e = inl e
  front_or_back (x ∷ xs) ys (suc j) a e = front_or_back xs ys j a e

  -- what is got at an index stands there
  pub at_got : (xs : List A) (i : ℕ) (a : A) → slice_get xs i ≡ Some a → get_elem? xs i ≡ some a
  at_got [] i a e = absurd cc
  at_got (x ∷ xs) zero a e = ap some (same_Some x a e)
  at_got (x ∷ xs) (suc i) a e = at_got xs i a e

  -- what is got of the first of two lists, and of the second
  pub got_front : (xs ys : List A) (i : ℕ) → i < length xs → slice_get (xs ++ ys) i ≡ slice_get xs i
  got_front [] ys i h = absurd (omega (arith, h))
  got_front (x ∷ xs) ys zero h = refl
  got_front (x ∷ xs) ys (suc i) h = got_front xs ys i (omega (arith, h))

  pub got_behind : (xs ys : List A) (k : ℕ) → slice_get (xs ++ ys) (length xs + k) ≡ slice_get ys k
  got_behind [] ys k = ap (slice_get ys) (omega arith)
  got_behind (x ∷ xs) ys k =
      let more : length (x ∷ xs) + k ≡ suc (length xs + k) = omega arith in
      ap (slice_get (x ∷ (xs ++ ys))) more ∙ got_behind xs ys k

-- what is got of a list of images
got_map : {A B : Type 0} (f : A → B) (xs : List A) (i : ℕ) → slice_get (map f xs) i ≡ option_map f (slice_get xs i)
got_map f [] i = refl
got_map f (x ∷ xs) zero = refl
got_map f (x ∷ xs) (suc i) = got_map f xs i

-- ---- the series of one kind

module _ {X : Type 0} where
  abbrev pub Got : List (LiveSeries X) → ℕ → X → Type 0
  Got es i cell = option_map (λ (s : LiveSeries X). s.cell) (slice_get es i) ≡ Some cell

  found : (es : List (LiveSeries X)) (i : ℕ) → i < length es → (cell : X) × Got es i cell
  found [] i h = absurd (omega (arith, h))
  found (x ∷ es) zero h = (x.cell, refl)
  found (x ∷ es) (suc i) h = found es i (omega (arith, h))

  module _ {T : Type 0} (of : X → T) where
    abbrev thing : LiveSeries X → T
    thing series = of series.cell

    here : (es : List (LiveSeries X)) (i : ℕ) (cell : X) → Got es i cell → get_elem? (map thing es) i ≡ some (of cell)
    here [] i cell e = absurd cc
    here (x ∷ es) zero cell e = ap (λ c. some (of c)) (same_Some x.cell cell e)
    here (x ∷ es) (suc i) cell e = here es i cell e

    put : (es : List (LiveSeries X)) (i : ℕ) (cell : X) → map thing (with_cell_at es i cell) ≡ set (map thing es) i (of cell)
    put [] i cell = refl
    put (x ∷ es) zero cell = refl
    put (x ∷ es) (suc i) cell = ap (λ l. thing x ∷ l) (put es i cell)

  same : (es : List (LiveSeries X)) (i : ℕ) (cell : X) → Got es i cell → with_cell_at es i cell ≡ es
  same [] i cell e = refl
  same (x ∷ es) zero cell e = (λ j. record x { cell = sym (same_Some x.cell cell e) j } ∷ es)
  same (x ∷ es) (suc i) cell e = ap (λ l. x ∷ l) (same es i cell e)

  -- each cell as far as a round leaves it
  module _ (f : X → X) where
    abbrev but : LiveSeries X → LiveSeries X
    but series = record series { cell = f series.cell }

    but_put : (es : List (LiveSeries X)) (i : ℕ) (cell new : X) → Got es i cell → f new ≡ f cell → map but (with_cell_at es i new) ≡ map but es
    but_put [] i cell new e left = refl
    but_put (x ∷ es) zero cell new e left = (λ j. record x { cell = (left ∙ ap f (sym (same_Some x.cell cell e))) j } ∷ map but es)
    but_put (x ∷ es) (suc i) cell new e left = ap (λ l. but x ∷ l) (but_put es i cell new e left)

  -- each at home
  module _ {C : Type 0} (of : X → Thing C SeriesCell) where
    each_home : (es : List (LiveSeries X)) → ((j : ℕ) (cell : X) → Got es j cell → ((of cell).root.number ≡ 0) × ((of cell).root.out ≡ 0)) → All (λ (s : LiveSeries X). ((of s.cell).root.number ≡ 0) × ((of s.cell).root.out ≡ 0)) es
    each_home [] home = All-nil _
    each_home (x ∷ es) home = All-cons (λ (s : LiveSeries X). ((of s.cell).root.number ≡ 0) × ((of s.cell).root.out ≡ 0)) x es (home 0 x.cell refl) (each_home es (λ j cell got. home (suc j) cell got))

took_back : {F : Type 0} (s t : Shared F) (known : View SeriesCall) → TakesBack known s t → TookBack s.root known t.root × (t.cell ≡ s.cell) × (t.note ≡ s.note)
took_back s t known takes = (
  subst (λ (x : Shared _). TookBack s.root known x.root) (sym takes.2) (record { number = refl; mine = refl; joined = refl; seen = takes.1.begins; out = refl }),
  ap (λ (x : Shared _). x.cell) takes.2,
  ap (λ (x : Shared _). x.note) takes.2,
)

-- a cell that is made where there was none lasts
counter_owns : (made : Option PromCounter) (cell : PromCounter) → Makes made cell → (lent : LanePass) → IsPassOf (cells.Counter made) lent → IsPassOf (cells.Counter (Some cell)) lent
counter_owns None cell makes (passes.Counter lent) is = absurd (cc is)
counter_owns (Some made) cell makes (passes.Counter lent) is = ap Some makes ∙ is
counter_owns made cell makes (passes.Gauge lent) is = is
counter_owns made cell makes (passes.Histogram lent) is = is

gauge_owns : (made : Option PromGauge) (cell : PromGauge) → Makes made cell → (lent : LanePass) → IsPassOf (cells.Gauge made) lent → IsPassOf (cells.Gauge (Some cell)) lent
gauge_owns made cell makes (passes.Counter lent) is = is
gauge_owns None cell makes (passes.Gauge lent) is = absurd (cc is)
gauge_owns (Some made) cell makes (passes.Gauge lent) is = ap Some makes ∙ is
gauge_owns made cell makes (passes.Histogram lent) is = is

counter_lasts : (made : Option PromCounter) (cell : PromCounter) → Makes made cell → Lasts (cells.Counter made) (cells.Counter (Some cell))
counter_lasts made cell makes = (counter_owns made cell makes, λ call takes. takes)

gauge_lasts : (made : Option PromGauge) (cell : PromGauge) → Makes made cell → Lasts (cells.Gauge made) (cells.Gauge (Some cell))
gauge_lasts made cell makes = (gauge_owns made cell makes, λ call takes. takes)

-- ---- the series of an exporter

abbrev pub SeriesThing : Type 0
SeriesThing = Thing SeriesEntry SeriesCell

-- the exporter with another cell at a place
abbrev pub with_counter_at : Exporter → ℕ → SharedCounter → Exporter
with_counter_at e place cell = record e { series = record e.series { counters = with_cell_at e.series.counters place cell } }

abbrev pub with_gauge_at : Exporter → ℕ → SharedGauge → Exporter
with_gauge_at e place cell = record e { series = record e.series { gauges = with_cell_at e.series.gauges place cell } }

abbrev pub with_histogram_at : Exporter → ℕ → Sampled → Exporter
with_histogram_at e place cell = record e { series = record e.series { histograms = with_cell_at e.series.histograms place cell } }

module _ (e : Exporter) where
  abbrev counters : List SeriesThing
  counters = map counter_thing e.series.counters

  abbrev gauges : List SeriesThing
  gauges = map gauge_thing e.series.gauges

  abbrev histograms : List SeriesThing
  histograms = map histogram_thing e.series.histograms

  many_counters : length counters ≡ length e.series.counters
  many_counters = length-map e.series.counters counter_thing

  many_gauges : length gauges ≡ length e.series.gauges
  many_gauges = length-map e.series.gauges gauge_thing

  many_histograms : length histograms ≡ length e.series.histograms
  many_histograms = length-map e.series.histograms histogram_thing

  pub many_things : length (things_of e) ≡ length e.series.counters + (length e.series.gauges + length e.series.histograms)
  many_things =
      length-append counters (gauges ++ histograms)
      ∙ (λ i. many_counters i + (length-append gauges histograms ∙ (λ j. many_gauges j + many_histograms j)) i)

  -- ---- what has an index

  pub counter_here : (i place : ℕ) (cell : SharedCounter) → i ≡ place → Got e.series.counters place cell → get_elem? (things_of e) i ≡ some (of_counter cell)
  counter_here i place cell at got =
      subst (λ n. get_elem? (things_of e) n ≡ some (of_counter cell)) (sym at) (at_longer counters (gauges ++ histograms) place (of_counter cell) (here of_counter e.series.counters place cell got))

  pub gauge_here : (i place : ℕ) (cell : SharedGauge) → i ≡ length e.series.counters + place → Got e.series.gauges place cell → get_elem? (things_of e) i ≡ some (of_gauge cell)
  gauge_here i place cell at got =
      subst (λ n. get_elem? (things_of e) n ≡ some (of_gauge cell)) (ap (λ n. n + place) many_counters ∙ sym at)
      (at_behind counters (gauges ++ histograms) place (of_gauge cell) (at_longer gauges histograms place (of_gauge cell) (here of_gauge e.series.gauges place cell got)))

  pub histogram_here : (i place : ℕ) (cell : Sampled) → i ≡ length e.series.counters + (length e.series.gauges + place) → Got e.series.histograms place cell → get_elem? (things_of e) i ≡ some (of_histogram cell)
  histogram_here i place cell at got =
      subst (λ n. get_elem? (things_of e) n ≡ some (of_histogram cell)) ((λ j. many_counters j + (many_gauges j + place)) ∙ sym at)
      (at_behind counters (gauges ++ histograms) (length gauges + place) (of_histogram cell)
      (at_behind gauges histograms place (of_histogram cell) (here of_histogram e.series.histograms place cell got)))

  -- what holds of what has an index holds of whatever has it
  pub of_each : (P : SeriesThing → Type 0) (i : ℕ) (s t : SeriesThing) → get_elem? (things_of e) i ≡ some s → P s → get_elem? (things_of e) i ≡ some t → P t
  of_each P i s t at holds also = subst P (one_at (things_of e) i s t at also) holds

  -- ---- where an index is

  abbrev pub CounterAt : ℕ → Type 0
  CounterAt i = i < length e.series.counters

  abbrev pub GaugeAt : ℕ → Type 0
  GaugeAt i = (length e.series.counters ≤ i) × (i - length e.series.counters < length e.series.gauges)

  abbrev pub HistogramAt : ℕ → Type 0
  HistogramAt i = (length e.series.counters + length e.series.gauges ≤ i) × (i - (length e.series.counters + length e.series.gauges) < length e.series.histograms)

  where_at : (i : ℕ) → i < length (things_of e) → CounterAt i ⊎ (GaugeAt i ⊎ HistogramAt i)
  where_at i below = ⊎_elim
      (λ (front : i < length e.series.counters). inl front)
      (λ (past : length e.series.counters ≤ i). inr (⊎_elim
      (λ (middle : i < length e.series.counters + length e.series.gauges). inl (past, omega (arith, past, middle)))
      (λ (back : length e.series.counters + length e.series.gauges ≤ i). inr (back, omega (arith, back, below, many_things)))
      (cases_lt i (length e.series.counters + length e.series.gauges))))
      (cases_lt i (length e.series.counters))

  abbrev pub IsPassHere : LanePass → ℕ → Type 0
  IsPassHere lent i = (t : SeriesThing) → get_elem? (things_of e) i ≡ some t → IsPassOf t.fixed lent

  -- where a pass of a kind is one of what has an index, a series of the kind has it
  pub counter_place : (i : ℕ) (lent : Lease SeriesCall PromCounter) → i < length (things_of e) → IsPassHere (passes.Counter lent) i → CounterAt i
  counter_place i lent below owned = ⊎_elim (λ (c : CounterAt i). c)
      (⊎_elim
      (λ (g : GaugeAt i). let cell = found e.series.gauges (i - length e.series.counters) g.1 in absurd (owned (of_gauge cell.0) (gauge_here i (i - length e.series.counters) cell.0 (let least = g.0 in omega (arith, least)) cell.1)))
      (λ (h : HistogramAt i).
      let place = i - (length e.series.counters + length e.series.gauges) in
      let cell = found e.series.histograms place h.1 in
      absurd (owned (of_histogram cell.0) (histogram_here i place cell.0 (let least = h.0 in omega (arith, least)) cell.1))))
      (where_at i below)

  pub gauge_place : (i : ℕ) (lent : Lease SeriesCall PromGauge) → i < length (things_of e) → IsPassHere (passes.Gauge lent) i → GaugeAt i
  gauge_place i lent below owned = ⊎_elim (λ (c : CounterAt i). let cell = found e.series.counters i c in absurd (owned (of_counter cell.0) (counter_here i i cell.0 refl cell.1)))
      (⊎_elim
      (λ (g : GaugeAt i). g)
      (λ (h : HistogramAt i).
      let place = i - (length e.series.counters + length e.series.gauges) in
      let cell = found e.series.histograms place h.1 in
      absurd (owned (of_histogram cell.0) (histogram_here i place cell.0 (let least = h.0 in omega (arith, least)) cell.1))))
      (where_at i below)

  pub histogram_place : (i : ℕ) (lent : Lease TimedCall TimedQueue) → i < length (things_of e) → IsPassHere (passes.Histogram lent) i → HistogramAt i
  histogram_place i lent below owned = ⊎_elim (λ (c : CounterAt i). let cell = found e.series.counters i c in absurd (owned (of_counter cell.0) (counter_here i i cell.0 refl cell.1)))
      (⊎_elim
      (λ (g : GaugeAt i). let cell = found e.series.gauges (i - length e.series.counters) g.1 in absurd (owned (of_gauge cell.0) (gauge_here i (i - length e.series.counters) cell.0 (let least = g.0 in omega (arith, least)) cell.1)))
      (λ (h : HistogramAt i). h))
      (where_at i below)

  -- its place, by the counts of series
  pub gauge_counted : (i n : ℕ) → n ≡ length e.series.counters → GaugeAt i → (n ≤ i) × (i ≡ length e.series.counters + (i - n)) × (i - n < length e.series.gauges)
  gauge_counted i n is at =
      let least = at.0 in
      let below = at.1 in
      (omega (arith, is, least), omega (arith, is, least), subst (λ m. i - m < length e.series.gauges) (sym is) below)

  pub histogram_counted : (i n m : ℕ) → n ≡ length e.series.counters → m ≡ length e.series.gauges → HistogramAt i
      → (n + m ≤ i) × (i ≡ length e.series.counters + (length e.series.gauges + (i - (n + m)))) × (i - (n + m) < length e.series.histograms)
  histogram_counted i n m is also at =
      let least = at.0 in
      let below = at.1 in
      let both : n + m ≡ length e.series.counters + length e.series.gauges = omega (arith, is, also) in
      (omega (arith, is, also, least), omega (arith, is, also, least), subst (λ k. i - k < length e.series.histograms) (sym both) below)

  -- ---- another cell at an index

  counter_put : (i place : ℕ) (cell : SharedCounter) → i ≡ place → place < length e.series.counters → things_of (with_counter_at e place cell) ≡ set (things_of e) i (of_counter cell)
  counter_put i place cell at below =
      ap (λ l. l ++ (gauges ++ histograms)) (put of_counter e.series.counters place cell)
      ∙ sym (set_front counters (gauges ++ histograms) place (of_counter cell) (subst (λ n. place < n) (sym many_counters) below))
      ∙ ap (λ n. set (things_of e) n (of_counter cell)) (sym at)

  gauge_put : (i place : ℕ) (cell : SharedGauge) → i ≡ length e.series.counters + place → place < length e.series.gauges → things_of (with_gauge_at e place cell) ≡ set (things_of e) i (of_gauge cell)
  gauge_put i place cell at below =
      ap (λ l. counters ++ (l ++ histograms)) (put of_gauge e.series.gauges place cell)
      ∙ ap (λ l. counters ++ l) (sym (set_front gauges histograms place (of_gauge cell) (subst (λ n. place < n) (sym many_gauges) below)))
      ∙ sym (set_behind counters (gauges ++ histograms) place (of_gauge cell))
      ∙ ap (λ n. set (things_of e) n (of_gauge cell)) (ap (λ n. n + place) many_counters ∙ sym at)

  histogram_put : (i place : ℕ) (cell : Sampled) → i ≡ length e.series.counters + (length e.series.gauges + place) → things_of (with_histogram_at e place cell) ≡ set (things_of e) i (of_histogram cell)
  histogram_put i place cell at =
      ap (λ l. counters ++ (gauges ++ l)) (put of_histogram e.series.histograms place cell)
      ∙ ap (λ l. counters ++ l) (sym (set_behind gauges histograms place (of_histogram cell)))
      ∙ sym (set_behind counters (gauges ++ histograms) (length gauges + place) (of_histogram cell))
      ∙ ap (λ n. set (things_of e) n (of_histogram cell)) ((λ j. many_counters j + (many_gauges j + place)) ∙ sym at)

  -- the same cell
  pub counter_kept : (place : ℕ) (cell new : SharedCounter) → Got e.series.counters place cell → new ≡ cell → with_counter_at e place new ≡ e
  counter_kept place cell new got is = ap (with_counter_at e place) is ∙ ap (λ l. record e { series = record e.series { counters = l } }) (same e.series.counters place cell got)

  pub gauge_kept : (place : ℕ) (cell new : SharedGauge) → Got e.series.gauges place cell → new ≡ cell → with_gauge_at e place new ≡ e
  gauge_kept place cell new got is = ap (with_gauge_at e place) is ∙ ap (λ l. record e { series = record e.series { gauges = l } }) (same e.series.gauges place cell got)

  pub histogram_kept : (place : ℕ) (cell new : Sampled) → Got e.series.histograms place cell → new ≡ cell → with_histogram_at e place new ≡ e
  histogram_kept place cell new got is = ap (with_histogram_at e place) is ∙ ap (λ l. record e { series = record e.series { histograms = l } }) (same e.series.histograms place cell got)

  -- ---- what lanes leave as it is

  abbrev but_known : {F : Type 0} → Shared (Option F) → Shared (Option F)
  but_known s = record unmade { note = s.note }

  counter_frame : (place : ℕ) (cell new : SharedCounter) → Got e.series.counters place cell → but_known new ≡ but_known cell → frame_of (with_counter_at e place new) ≡ frame_of e
  counter_frame place cell new got left = ap (λ l. record (frame_of e) { series = record (frame_of e).series { counters = l } }) (but_put but_known e.series.counters place cell new got left)

  gauge_frame : (place : ℕ) (cell new : SharedGauge) → Got e.series.gauges place cell → but_known new ≡ but_known cell → frame_of (with_gauge_at e place new) ≡ frame_of e
  gauge_frame place cell new got left = ap (λ l. record (frame_of e) { series = record (frame_of e).series { gauges = l } }) (but_put but_known e.series.gauges place cell new got left)

  histogram_frame : (place : ℕ) (cell new : Sampled) → Got e.series.histograms place cell → unheard new ≡ unheard cell → frame_of (with_histogram_at e place new) ≡ frame_of e
  histogram_frame place cell new got left = ap (λ l. record (frame_of e) { series = record (frame_of e).series { histograms = l } }) (but_put unheard e.series.histograms place cell new got left)

  -- ---- lending

  -- a pass was lent of a thing that has an index, and one more is out; the thing lasts
  abbrev LendsOf : ℕ → LanePass → Exporter → SeriesThing → Type 0
  LendsOf i lent new t =
      (u : SeriesThing) × (u.root ≡ lender t.root) × Lasts t.fixed u.fixed × IsPassOf u.fixed lent × (pass_known lent ≡ child t.root) × (things_of new ≡ set (things_of e) i u)

  abbrev pub LendsAt : ℕ → LanePass → Exporter → Type 0
  LendsAt i lent new = ((t : SeriesThing) → get_elem? (things_of e) i ≡ some t → LendsOf i lent new t) × (frame_of new ≡ frame_of e)

  lends_at : (i : ℕ) (lent : LanePass) (new : Exporter) (s : SeriesThing) → get_elem? (things_of e) i ≡ some s → LendsOf i lent new s → frame_of new ≡ frame_of e → LendsAt i lent new
  lends_at i lent new s at lends frame = ((λ t also. of_each (LendsOf i lent new) i s t at lends also), frame)

  pub counter_lends : (i place : ℕ) (cell new : SharedCounter) (lent : Lease SeriesCall PromCounter) → (i ≡ place) × (place < length e.series.counters) → Got e.series.counters place cell
      → Makes cell.cell lent.cell × (lent.knows ≡ child cell.root) → new ≡ with_lent lent.cell cell → LendsAt i (passes.Counter lent) (with_counter_at e place new)
  counter_lends i place cell new lent at got lends out =
      let left = with_lent lent.cell cell in
      lends_at i (passes.Counter lent) (with_counter_at e place new) (of_counter cell) (counter_here i place cell at.0 got)
      (of_counter left, refl, counter_lasts cell.cell lent.cell lends.0, refl, ap (mapped_view entry.Value) lends.1, ap (λ x. things_of (with_counter_at e place x)) out ∙ counter_put i place left at.0 at.1)
      (counter_frame place cell new got (ap but_known out))

  pub gauge_lends : (i place : ℕ) (cell new : SharedGauge) (lent : Lease SeriesCall PromGauge) → (i ≡ length e.series.counters + place) × (place < length e.series.gauges) → Got e.series.gauges place cell
      → Makes cell.cell lent.cell × (lent.knows ≡ child cell.root) → new ≡ with_lent lent.cell cell → LendsAt i (passes.Gauge lent) (with_gauge_at e place new)
  gauge_lends i place cell new lent at got lends out =
      let left = with_lent lent.cell cell in
      lends_at i (passes.Gauge lent) (with_gauge_at e place new) (of_gauge cell) (gauge_here i place cell at.0 got)
      (of_gauge left, refl, gauge_lasts cell.cell lent.cell lends.0, refl, ap (mapped_view entry.Value) lends.1, ap (λ x. things_of (with_gauge_at e place x)) out ∙ gauge_put i place left at.0 at.1)
      (gauge_frame place cell new got (ap but_known out))

  pub histogram_lends : (i place : ℕ) (cell new : Sampled) (lent : Lease TimedCall TimedQueue) → i ≡ length e.series.counters + (length e.series.gauges + place) → Got e.series.histograms place cell
      → (lent.cell ≡ cell.series.cell) × (lent.knows ≡ child cell.series.root) → new ≡ with_pass_out cell → LendsAt i (passes.Histogram lent) (with_histogram_at e place new)
  histogram_lends i place cell new lent at got lends out = lends_at i (passes.Histogram lent) (with_histogram_at e place new) (of_histogram cell) (histogram_here i place cell at got)
      (of_histogram (with_pass_out cell), refl, lasts_on (cells.Histogram cell.series.cell), lends.0, ap (mapped_view entry.Queue) lends.1, ap (λ x. things_of (with_histogram_at e place x)) out ∙ histogram_put i place (with_pass_out cell) at)
      (histogram_frame place cell new got (ap unheard out))

  -- ---- taking back

  -- a pass was taken back of what has an index
  abbrev pub TakesAt : ℕ → LanePass → Exporter → Type 0
  TakesAt i lent new =
      ((t : SeriesThing) → get_elem? (things_of e) i ≡ some t → (u : SeriesThing) × TookBack t.root (pass_known lent) u.root × (u.fixed ≡ t.fixed) × (things_of new ≡ set (things_of e) i u))
      × (frame_of new ≡ frame_of e)

  takes_at : (i : ℕ) (lent : LanePass) (new : Exporter) (s u : SeriesThing) → get_elem? (things_of e) i ≡ some s → TookBack s.root (pass_known lent) u.root → u.fixed ≡ s.fixed
      → things_of new ≡ set (things_of e) i u → frame_of new ≡ frame_of e → TakesAt i lent new
  takes_at i lent new s u at took fixed puts frame = (
    (λ t also. of_each (λ x. (y : SeriesThing) × TookBack x.root (pass_known lent) y.root × (y.fixed ≡ x.fixed) × (things_of new ≡ set (things_of e) i y)) i s t at (u, took, fixed, puts) also),
    frame,
  )

  pub counter_takes_back : (i place : ℕ) (cell new : SharedCounter) (lent : Lease SeriesCall PromCounter) → (i ≡ place) × (place < length e.series.counters) → Got e.series.counters place cell
      → TakesBack lent.knows cell new → TakesAt i (passes.Counter lent) (with_counter_at e place new)
  counter_takes_back i place cell new lent at got takes =
      let took = took_back cell new lent.knows takes in
      takes_at i (passes.Counter lent) (with_counter_at e place new) (of_counter cell) (of_counter new) (counter_here i place cell at.0 got)
      (took_back-mapped entry.Value cell.root lent.knows new.root took.0) (ap cells.Counter took.1)
      (counter_put i place new at.0 at.1)
      (counter_frame place cell new got (ap (λ n. record unmade { note = n }) took.2))

  pub gauge_takes_back : (i place : ℕ) (cell new : SharedGauge) (lent : Lease SeriesCall PromGauge) → (i ≡ length e.series.counters + place) × (place < length e.series.gauges) → Got e.series.gauges place cell
      → TakesBack lent.knows cell new → TakesAt i (passes.Gauge lent) (with_gauge_at e place new)
  gauge_takes_back i place cell new lent at got takes =
      let took = took_back cell new lent.knows takes in
      takes_at i (passes.Gauge lent) (with_gauge_at e place new) (of_gauge cell) (of_gauge new) (gauge_here i place cell at.0 got)
      (took_back-mapped entry.Value cell.root lent.knows new.root took.0) (ap cells.Gauge took.1)
      (gauge_put i place new at.0 at.1)
      (gauge_frame place cell new got (ap (λ n. record unmade { note = n }) took.2))

  pub histogram_takes_back : (i place : ℕ) (cell new : Sampled) (lent : Lease TimedCall TimedQueue) → i ≡ length e.series.counters + (length e.series.gauges + place) → Got e.series.histograms place cell
      → new ≡ record cell { series = with_one_back lent.knows cell.series } → TakesAt i (passes.Histogram lent) (with_histogram_at e place new)
  histogram_takes_back i place cell new lent at got takes =
      takes_at i (passes.Histogram lent) (with_histogram_at e place new) (of_histogram cell) (of_histogram new) (histogram_here i place cell at got)
      (subst (λ (x : Sampled). TookBack (mapped_view entry.Queue cell.series.root) (mapped_view entry.Queue lent.knows) (mapped_view entry.Queue x.series.root)) (sym takes)
      (took_back-mapped entry.Queue cell.series.root lent.knows (taker cell.series.root lent.knows) (record { number = refl; mine = refl; joined = refl; seen = prefix_self (longer cell.series.root.seen lent.knows.seen); out = refl })))
      (ap (λ (x : Sampled). cells.Histogram x.series.cell) takes)
      (histogram_put i place new at)
      (histogram_frame place cell new got (ap unheard takes))

  -- ---- reading

  -- what has an index was found settled, and nothing changed
  abbrev pub SettlesAt : ℕ → Exporter → Type 0
  SettlesAt i new = (new ≡ e) × ((t : SeriesThing) → get_elem? (things_of e) i ≡ some t → Settled t.root)

  -- no pass of what has an index is out
  abbrev pub HomeAt : ℕ → Type 0
  HomeAt i = (t : SeriesThing) → get_elem? (things_of e) i ≡ some t → (t.root.number ≡ 0) × (t.root.out ≡ 0)

  pub counter_reads : (i place : ℕ) (cell new : SharedCounter) → i ≡ place → Got e.series.counters place cell → HomeAt i → Looks cell new → SettlesAt i (with_counter_at e place new)
  counter_reads i place cell new at got home looks =
      let own = counter_here i place cell at got in
      let back = home (of_counter cell) own in (
        counter_kept place cell new got (looks-home cell new back looks),
        (λ t also. of_each (λ (u : SeriesThing). Settled u.root) i (of_counter cell) t own (settled-mapped entry.Value cell.root (looks.1.whole back.0 back.1).1) also),
      )

  pub gauge_reads : (i place : ℕ) (cell new : SharedGauge) → i ≡ length e.series.counters + place → Got e.series.gauges place cell → HomeAt i → Looks cell new → SettlesAt i (with_gauge_at e place new)
  gauge_reads i place cell new at got home looks =
      let own = gauge_here i place cell at got in
      let back = home (of_gauge cell) own in (
        gauge_kept place cell new got (looks-home cell new back looks),
        (λ t also. of_each (λ (u : SeriesThing). Settled u.root) i (of_gauge cell) t own (settled-mapped entry.Value cell.root (looks.1.whole back.0 back.1).1) also),
      )

  pub histogram_settles : (i place : ℕ) (cell new : Sampled) → i ≡ length e.series.counters + (length e.series.gauges + place) → Got e.series.histograms place cell → new ≡ cell → Settled cell.series.root
      → SettlesAt i (with_histogram_at e place new)
  histogram_settles i place cell new at got is settled = (
    histogram_kept place cell new got is,
    (λ t also. of_each (λ (u : SeriesThing). Settled u.root) i (of_histogram cell) t (histogram_here i place cell at got) (settled-mapped entry.Queue cell.series.root settled) also),
  )

  -- ---- all at home

  pub all_home : Roots root_of (things_of e) → Home root_of (things_of e) → AllHome e
  all_home roots home = (
    each_home of_counter e.series.counters
        (λ j cell got. let at = counter_here j j cell refl got in (roots j (of_counter cell) at, home j (of_counter cell) at)),
    each_home of_gauge e.series.gauges
        (λ j cell got. let at = gauge_here (length e.series.counters + j) j cell refl got in (roots _ (of_gauge cell) at, home _ (of_gauge cell) at)),
    each_home of_histogram e.series.histograms
        (λ j cell got. let at = histogram_here (length e.series.counters + (length e.series.gauges + j)) j cell refl got in (roots _ (of_histogram cell) at, home _ (of_histogram cell) at)),
  )

-- ---- ids

module _ {X : Type 0} (id : SeriesId) where
  abbrev its_id : LiveSeries X → SeriesId
  its_id series = series.id

  pub id_here : (es : List (LiveSeries X)) (i : ℕ) → option_map (has_id id) (slice_get es i) ≡ Some true → get_elem? (map its_id es) i ≡ some id
  id_here [] i e = absurd cc
  id_here (x ∷ es) zero e = ap some (id_eq-same x.id id (same_Some (has_id id x) true e))
  id_here (x ∷ es) (suc i) e = id_here es i e

  pub id_within : (es : List (LiveSeries X)) (i : ℕ) → option_map (has_id id) (slice_get es i) ≡ Some true → i < length es
  id_within [] i e = absurd cc
  id_within (x ∷ es) zero e = omega arith
  id_within (x ∷ es) (suc i) e = (let h = id_within es i e in omega (arith, h))

  pub id_nowhere : (es : List (LiveSeries X)) → list_any (has_id id) es ≡ false → (i : ℕ) → get_elem? (map its_id es) i ≡ some id → ⊥
  id_nowhere [] none i e = some-ne-none id (sym e)
  id_nowhere (x ∷ es) none zero e = true≢false (sym (id_eq-refl id) ∙ ap (λ a. id_eq a id) (sym (some-injective x.id id e)) ∙ (or_parts (has_id id x) (list_any (has_id id) es) none).0)
  id_nowhere (x ∷ es) none (suc i) e = id_nowhere es (or_parts (has_id id x) (list_any (has_id id) es) none).1 i e

module _ (id : SeriesId) (e : Exporter) where
  abbrev counter_ids : List SeriesId
  counter_ids = map (its_id id) e.series.counters

  abbrev gauge_ids : List SeriesId
  gauge_ids = map (its_id id) e.series.gauges

  abbrev histogram_ids : List SeriesId
  histogram_ids = map (its_id id) e.series.histograms

  pub counter_index : (i : ℕ) → option_map (has_id id) (slice_get e.series.counters i) ≡ Some true → get_elem? (ids_of e) i ≡ some id
  counter_index i got = at_longer counter_ids (gauge_ids ++ histogram_ids) i id (id_here id e.series.counters i got)

  pub gauge_index : (n i : ℕ) → n ≡ length e.series.counters → option_map (has_id id) (slice_get e.series.gauges i) ≡ Some true → get_elem? (ids_of e) (n + i) ≡ some id
  gauge_index n i is got =
      subst (λ m. get_elem? (ids_of e) (m + i) ≡ some id) (length-map e.series.counters (its_id id) ∙ sym is)
      (at_behind counter_ids (gauge_ids ++ histogram_ids) i id (at_longer gauge_ids histogram_ids i id (id_here id e.series.gauges i got)))

  pub histogram_index : (n m i : ℕ) → n ≡ length e.series.counters → m ≡ length e.series.gauges → option_map (has_id id) (slice_get e.series.histograms i) ≡ Some true → get_elem? (ids_of e) (n + (m + i)) ≡ some id
  histogram_index n m i counters_are gauges_are got =
      subst (λ k. get_elem? (ids_of e) k ≡ some id)
      (λ j. (length-map e.series.counters (its_id id) ∙ sym counters_are) j + ((length-map e.series.gauges (its_id id) ∙ sym gauges_are) j + i))
      (at_behind counter_ids (gauge_ids ++ histogram_ids) (length gauge_ids + i) id (at_behind gauge_ids histogram_ids i id (id_here id e.series.histograms i got)))

  pub no_index : list_any (has_id id) e.series.counters ≡ false → list_any (has_id id) e.series.gauges ≡ false → list_any (has_id id) e.series.histograms ≡ false → (i : ℕ) → get_elem? (ids_of e) i ≡ some id → ⊥
  no_index no_counter no_gauge no_histogram i at = ⊎_elim
      (λ (front : get_elem? counter_ids i ≡ some id). id_nowhere id e.series.counters no_counter i front)
      (λ (rest : (k : ℕ) × (get_elem? (gauge_ids ++ histogram_ids) k ≡ some id)). ⊎_elim
      (λ (middle : get_elem? gauge_ids rest.0 ≡ some id). id_nowhere id e.series.gauges no_gauge rest.0 middle)
      (λ (back : (k : ℕ) × (get_elem? histogram_ids k ≡ some id)). id_nowhere id e.series.histograms no_histogram back.0 back.1)
      (front_or_back gauge_ids histogram_ids rest.0 id rest.1))
      (front_or_back counter_ids (gauge_ids ++ histogram_ids) i id at)

-- what is got of the ids at the index of a place
module _ (e : Exporter) (i place : ℕ) where
  abbrev id_of_counter : LiveSeries SharedCounter → SeriesId
  id_of_counter series = series.id

  abbrev id_of_gauge : LiveSeries SharedGauge → SeriesId
  id_of_gauge series = series.id

  abbrev id_of_histogram : LiveSeries Sampled → SeriesId
  id_of_histogram series = series.id

  pub counter_id_got : (i ≡ place) × (place < length e.series.counters) → option_map id_of_counter (slice_get e.series.counters place) ≡ slice_get (ids_of e) i
  counter_id_got at =
      sym (got_map id_of_counter e.series.counters place)
      ∙ sym (got_front (map id_of_counter e.series.counters) (map id_of_gauge e.series.gauges ++ map id_of_histogram e.series.histograms) place (subst (λ n. place < n) (sym (length-map e.series.counters id_of_counter)) at.1))
      ∙ ap (slice_get (ids_of e)) (sym at.0)

  pub gauge_id_got : (i ≡ length e.series.counters + place) × (place < length e.series.gauges) → option_map id_of_gauge (slice_get e.series.gauges place) ≡ slice_get (ids_of e) i
  gauge_id_got at =
      sym (got_map id_of_gauge e.series.gauges place)
      ∙ sym (got_front (map id_of_gauge e.series.gauges) (map id_of_histogram e.series.histograms) place (subst (λ n. place < n) (sym (length-map e.series.gauges id_of_gauge)) at.1))
      ∙ sym (got_behind (map id_of_counter e.series.counters) (map id_of_gauge e.series.gauges ++ map id_of_histogram e.series.histograms) place)
      ∙ ap (slice_get (ids_of e)) (ap (λ n. n + place) (length-map e.series.counters id_of_counter) ∙ sym at.0)

  pub histogram_id_got : i ≡ length e.series.counters + (length e.series.gauges + place) → option_map id_of_histogram (slice_get e.series.histograms place) ≡ slice_get (ids_of e) i
  histogram_id_got at =
      sym (got_map id_of_histogram e.series.histograms place)
      ∙ sym (got_behind (map id_of_gauge e.series.gauges) (map id_of_histogram e.series.histograms) place)
      ∙ sym (got_behind (map id_of_counter e.series.counters) (map id_of_gauge e.series.gauges ++ map id_of_histogram e.series.histograms) (length (map id_of_gauge e.series.gauges) + place))
      ∙ ap (slice_get (ids_of e)) ((λ j. length-map e.series.counters id_of_counter j + (length-map e.series.gauges id_of_gauge j + place)) ∙ sym at)
