-- What one more line adds to a lane, and where the series of handles stand.
use Rattle.std.proofs.Common.{◌≡◌, ◌≢◌, ℕ, zero, suc, ◌+◌, ◌<◌, ◌≤◌, ◌⊎◌, Bool, true, false, cond, List, [], ◌∷◌, ◌++◌, length, map, refl, sym, ap, subst, ◌∙◌, inl, inr, ⊎_elim, append-nil, arith, length-append}
use Rattle.std.specs.Prelude.{◌==◌, ◌&&◌, flat_map, Result, Ok, Err, IfOk, OnOk, Option, Some, None, IfSome, if◌then◌else◌, not, option_map, unwrap_or, set, slice_get, slice_index, filter}
use Rattle.std.proofs.lemmas.Option.{IfSome_then}
use Rattle.std.specs.List.{list_any, IsDistinct, AllByRecursion}
use Rattle.std.proofs.lemmas.Bool.{true≢false, eq-eqb, ne_eqb}
use Rattle.std.proofs.lemmas.List.Elements.{filter-append}
use Rattle.std.proofs.lemmas.List.{length-map, map-append}
use mathlib.Core.Option.{some, some-injective, some-ne-none}
use mathlib.Core.Logic.{dite}
use native.Mathlib.Decide.{ℕ_discrete}
use lib.ListN.{get_elem?}
use Rattle.atomic_table.proofs.Lists.{at_longer, at_map, at_set}
use Rattle.legal_history.specs.History.{Distinct, In, keep}
use Rattle.legal_history.proofs.Steps.{at_snoc_index, one_at, some_below}
use Rattle.cell_lanes.specs.declared.lane.Line.{Line}
use Rattle.cell_lanes.specs.Lanes.{HasSlot, LineFit, cell_calls, is_on}
use Rattle.indexmap.specs.IndexSet.{insert_key}
use Rattle.metrics_core.specs.declared.calls.SeriesCall.{SeriesCall}
use Rattle.metrics_core.specs.declared.kinds.SeriesId.{SeriesId}
use Rattle.metrics_core.specs.declared.kinds.MetricKind.{MetricKind}
use Rattle.metrics_core.specs.declared.kinds.MetricKind.TheVariants as kinds
use Rattle.metrics_core.specs.Kinds.{kind_eq}
use Rattle.metrics_registry.specs.Live.{LiveSeries, RegistryText, IsBelowAll, Rises, AreOf, IsNumbered, id_eq}
use Rattle.metrics_registry.proofs.IdTests.{id_eq-same, id_eq-refl}
use Rattle.prom_exporter.specs.Exporter.{Exporter as PrometheusExporter}
use Rattle.prom_exporter.specs.LanePasses as P
use Rattle.dsd_exporter.specs.Exporter.{Exporter as DogStatsDExporter}
use Rattle.dsd_exporter.specs.LanePasses as D
use Rattle.exporter_lanes.specs.declared.exporters.Exporters.{Exporters}
use Rattle.exporter_lanes.specs.declared.exporters.ExporterCall.{ExporterCall}
use Rattle.exporter_lanes.specs.declared.exporters.ExporterCall.TheVariants as exporter
use Rattle.exporter_lanes.specs.ExporterLanes.{dogstatsd_thing, prometheus_thing, things_of}
use Rattle.drive_script.specs.Script.{kind_of}
use Rattle.drive_script.specs.Texts.{act_of}
use Rattle.drive_script.specs.declared.script.CallLine.{CallLine}
use Rattle.drive_script.specs.declared.script.Act.{Act}
use Rattle.drive_script.specs.declared.script.Act.TheVariants as acts
use Rattle.script_player.specs.declared.lanes.Places.{Places}
use Rattle.script_player.specs.LaneCalls.{AllAsked, AsksKind, HasLane, PlacesAsk, SeriesIds, IsOfKind, asked, both_at, call_asked, calls_at, count_of, ids_of, kind_asked, id_at, is_at, is_place, lane_asks, on_both}

pub counter≢gauge : kinds.Counter ≡ kinds.Gauge → ⊥
counter≢gauge e = true≢false (ap (λ k. kind_eq k kinds.Counter) e)

pub counter≢histogram : kinds.Counter ≡ kinds.Histogram → ⊥
counter≢histogram e = true≢false (ap (λ k. kind_eq k kinds.Counter) e)

pub gauge≢histogram : kinds.Gauge ≡ kinds.Histogram → ⊥
gauge≢histogram e = true≢false (ap (λ k. kind_eq k kinds.Gauge) e)

-- ---- calls on a cell

index_front : (cs ds : List ℕ) (s : ℕ) → s < length cs → slice_index (cs ++ ds) s ≡ slice_index cs s
index_front [] ds s h = absurd (omega (arith, h))
index_front (c ∷ cs) ds zero h = refl
index_front (c ∷ cs) ds (suc s) h = index_front cs ds s (omega (arith, h))

keep_first : {K : Type 0} (b : Bool) (x : K) (xs ys : List K) → keep b x (xs ++ ys) ≡ keep b x xs ++ ys
keep_first true x xs ys = refl
keep_first false x xs ys = refl

module _ {K : Type 0} where
  calls_longer : (j : ℕ) (cs ds : List ℕ) (lines : List (Line K)) → LineFit (length cs) lines → cell_calls j (cs ++ ds) lines ≡ cell_calls j cs lines
  calls_longer j cs ds [] fit = refl
  calls_longer j cs ds (x ∷ xs) fit = (λ i. keep (same x.slot (fit 0 x refl) i) x.call (calls_longer j cs ds xs (λ k y e. fit (suc k) y e) i))
    where
      same : (slot : Option ℕ) → IfSome slot (λ s. s < length cs) → is_on j (cs ++ ds) slot ≡ is_on j cs slot
      same None h = refl
      same (Some s) h = ap (λ c. c == j) (index_front cs ds s h)

  pub calls_last : (j : ℕ) (cs : List ℕ) (xs : List (Line K)) (x : Line K) → cell_calls j cs (xs ++ x ∷ []) ≡ cell_calls j cs xs ++ keep (is_on j cs x.slot) x.call []
  calls_last j cs [] x = refl
  calls_last j cs (y ∷ ys) x =
      ap (keep (is_on j cs y.slot) y.call) (calls_last j cs ys x)
      ∙ keep_first (is_on j cs y.slot) y.call (cell_calls j cs ys) (keep (is_on j cs x.slot) x.call [])

  pub fit_last : (n m : ℕ) (xs : List (Line K)) (x : Line K) → n ≤ m → HasSlot m x → LineFit n xs → LineFit m (xs ++ x ∷ [])
  fit_last n m xs x more own fit k y e = ⊎_elim
      (λ (old : get_elem? xs k ≡ some y). IfSome_then y.slot (fit k y old) (λ s below. let most : s < m = omega (arith, below, more) in most))
      (λ (new : (k ≡ length xs) × (x ≡ y)). subst (HasSlot m) new.1 own)
      (at_snoc_index xs x y k e)

-- one more key stands behind the others, or was there
more_keys : (eq : ℕ → ℕ → Bool) (ks : List ℕ) (k : ℕ) → (ds : List ℕ) × (insert_key eq ks k ≡ ks ++ ds) × ((ds ≡ []) ⊎ (ds ≡ k ∷ []))
more_keys eq ks k =
    elim (list_any (eq k) ks) as (λ b. (ds : List ℕ) × (cond b ks (ks ++ k ∷ []) ≡ ks ++ ds) × ((ds ≡ []) ⊎ (ds ≡ k ∷ []))) [
      | true ↦ ([], sym (append-nil ks), inl refl)
      | false ↦ (k ∷ [], refl, inr refl)
    ]

index_found : (cs : List ℕ) (s j : ℕ) → get_elem? cs s ≡ some j → slice_index cs s ≡ j
index_found [] s j e = absurd (some-ne-none j (sym e))
index_found (c ∷ cs) zero j e = some-injective c j e
index_found (c ∷ cs) (suc s) j e = index_found cs s j e

pub found_of : (cs : List ℕ) (s j : ℕ) → slice_get cs s ≡ Some j → get_elem? cs s ≡ some j
found_of [] s j e = absurd cc
found_of (c ∷ cs) zero j e = ap some (Rattle.std.proofs.lemmas.Option.same_Some c j e)
found_of (c ∷ cs) (suc s) j e = found_of cs s j e

-- ---- one more call: its slot has its cell

pub grown_keys : (eq : ℕ → ℕ → Bool) (old new : List ℕ) (k : ℕ) → new ≡ insert_key eq old k → (ds : List ℕ) × (new ≡ old ++ ds) × ((ds ≡ []) ⊎ (ds ≡ k ∷ []))
grown_keys eq old new k keys = let more = more_keys eq old k in (more.0, keys ∙ more.1, more.2)

asks_below : (ids : SeriesIds) (index : ℕ) (call : ExporterCall) → AsksKind ids index call → index < count_of ids
asks_below ids index (exporter.DogStatsD call) (id, at, is) = let below = some_below ids.dogstatsd index id at in omega (arith, below)
asks_below ids index (exporter.Prometheus call) (k, past, (id, at, is)) = let below = some_below ids.prometheus k id at in omega (arith, below, past)

module _ (old new : List ℕ) (lines after : List (Line ExporterCall)) (index slot : ℕ) (call : ExporterCall)
    (more : (ds : List ℕ) × (new ≡ old ++ ds) × ((ds ≡ []) ⊎ (ds ≡ index ∷ []))) (stored : slice_get new slot ≡ Some index) (pushed : after ≡ lines ++ record { slot = Some slot; call = call } ∷ []) (fit : LineFit (length old) lines) where
  abbrev line : Line ExporterCall
  line = record { slot = Some slot; call = call }

  at_slot : get_elem? new slot ≡ some index
  at_slot = found_of new slot index stored

  pub pushed_fit : LineFit (length new) after
  pushed_fit = subst (LineFit (length new)) (sym pushed)
      (fit_last (length old) (length new) lines line (let n = ap length more.1 in omega (arith, n, length-append old more.0)) (some_below new slot index at_slot) fit)

  pub pushed_calls : (j : ℕ) → cell_calls j new after ≡ cell_calls j old lines ++ keep (index == j) call []
  pushed_calls j =
      ap (cell_calls j new) pushed ∙ calls_last j new lines line
      ∙ (λ i. (ap (λ cs. cell_calls j cs lines) more.1 ∙ calls_longer j old more.0 lines fit) i ++ keep (index_found new slot index at_slot i == j) call [])

  cells_asked : (ids : SeriesIds) → AsksKind ids index call → ((s j : ℕ) → get_elem? old s ≡ some j → j < count_of ids) → (s j : ℕ) → get_elem? new s ≡ some j → j < count_of ids
  cells_asked ids asks below s j e = ⊎_elim
      (λ (none : more.0 ≡ []). below s j (subst (λ cs. get_elem? cs s ≡ some j) (more.1 ∙ ap (λ l. old ++ l) none ∙ append-nil old) e))
      (λ (one : more.0 ≡ index ∷ []). ⊎_elim (λ (before : get_elem? old s ≡ some j). below s j before)
      (λ (last : (s ≡ length old) × (index ≡ j)). subst (λ n. n < count_of ids) last.1 (asks_below ids index call asks))
      (at_snoc_index old index j s (subst (λ cs. get_elem? cs s ≡ some j) (more.1 ∙ ap (λ l. old ++ l) one) e)))
      more.2

  old_slot : (s j : ℕ) → s < length old → get_elem? new s ≡ some j → get_elem? old s ≡ some j
  old_slot s j within e =
      let own = Rattle.cell_lanes.proofs.Lists.below_some old s within in
      own.1 ∙ ap some (one_at new s own.0 j (subst (λ cs. get_elem? cs s ≡ some own.0) (sym more.1) (at_longer old more.0 s own.0 own.1)) e)

  pub pushed_asked : (ids : SeriesIds) → AsksKind ids index call → AllAsked ids old lines → AllAsked ids new after
  pushed_asked ids asks all = (
    cells_asked ids asks all.0,
    (λ k x e. ⊎_elim
        (λ (before : get_elem? lines k ≡ some x). still x.call x.slot (fit k x before) (all.1 k x before))
        (λ (last : (k ≡ length lines) × (line ≡ x)).
        subst (λ (y : Line ExporterCall). IfSome y.slot (λ s. (j : ℕ) → get_elem? new s ≡ some j → AsksKind ids j y.call)) last.1
        (λ j f. subst (λ n. AsksKind ids n call) (one_at new slot index j at_slot f) asks))
        (at_snoc_index lines line x k (subst (λ xs. get_elem? xs k ≡ some x) pushed e))),
  )
    where
      still : (call : ExporterCall) (on : Option ℕ) → IfSome on (λ s. s < length old) → IfSome on (λ s. (j : ℕ) → get_elem? old s ≡ some j → AsksKind ids j call)
          → IfSome on (λ s. (j : ℕ) → get_elem? new s ≡ some j → AsksKind ids j call)
      still call None within asks = tt
      still call (Some s) within asks = λ j f. asks j (old_slot s j within f)

-- one more call that is on no series
module _ (cells : List ℕ) (lines after : List (Line ExporterCall)) (call : ExporterCall) (pushed : after ≡ lines ++ record { slot = None; call = call } ∷ []) where
  abbrev past_line : Line ExporterCall
  past_line = record { slot = None; call = call }

  pub past_fit : LineFit (length cells) lines → LineFit (length cells) after
  past_fit fit = subst (LineFit (length cells)) (sym pushed) (fit_last (length cells) (length cells) lines past_line (omega arith) tt fit)

  pub past_calls : (j : ℕ) → cell_calls j cells after ≡ cell_calls j cells lines ++ []
  past_calls j = ap (cell_calls j cells) pushed ∙ calls_last j cells lines past_line

  pub past_asked : (ids : SeriesIds) → AllAsked ids cells lines → AllAsked ids cells after
  past_asked ids all = (
    all.0,
    (λ k x e. ⊎_elim
        (λ (before : get_elem? lines k ≡ some x). all.1 k x before)
        (λ (last : (k ≡ length lines) × (past_line ≡ x)). subst (λ (y : Line ExporterCall). IfSome y.slot (λ s. (j : ℕ) → get_elem? cells s ≡ some j → AsksKind ids j y.call)) last.1 tt)
        (at_snoc_index lines past_line x k (subst (λ xs. get_elem? xs k ≡ some x) pushed e))),
  )

pub lines_last : (lines after : List (Line ExporterCall)) (line : Line ExporterCall) → after ≡ lines ++ line ∷ [] → map call_asked after ≡ map call_asked lines ++ line.call ∷ []
lines_last lines after line pushed = ap (map call_asked) pushed ∙ map-append call_asked lines (line ∷ [])

-- ---- keys of a set are distinct

never_in : (eq : ℕ → ℕ → Bool) → ((a b : ℕ) → a ≡ b → eq a b ≡ true) → (x : ℕ) (xs : List ℕ) → AllByRecursion (λ y. eq x y ≡ false) xs → In x xs → ⊥
never_in eq same x [] all is = is
never_in eq same x (y ∷ ys) all is = ⊎_elim (λ (e : x ≡ y). true≢false (sym (same x y e) ∙ all.0)) (λ (r : In x ys). never_in eq same x ys all.1 r) is

pub distinct_keys : (eq : ℕ → ℕ → Bool) → ((a b : ℕ) → a ≡ b → eq a b ≡ true) → (ks : List ℕ) → IsDistinct eq ks → Distinct ks
unfolding IsDistinct
distinct_keys eq same [] all = tt
distinct_keys eq same (k ∷ ks) all = ((λ is. never_in eq same k ks all.0 is), distinct_keys eq same ks all.1)

-- ---- the series that a handle names

module _ {X : Type 0} where
  abbrev pub its_id : LiveSeries X → SeriesId
  its_id series = series.id

  above : (n : ℕ) (es : List (LiveSeries X)) → IsBelowAll n es → (i : ℕ) (a : SeriesId) → get_elem? (map its_id es) i ≡ some a → n < a.number
  above n [] below i a e = absurd (some-ne-none a (sym e))
  above n (x ∷ es) below zero a e = subst (λ (id : SeriesId). n < id.number) (some-injective x.id a e) below.0
  above n (x ∷ es) below (suc i) a e = above n es below.1 i a e

  rise_apart : (es : List (LiveSeries X)) → Rises es → (i j : ℕ) (a : SeriesId) → get_elem? (map its_id es) i ≡ some a → get_elem? (map its_id es) j ≡ some a → i ≡ j
  rise_apart [] rises i j a e f = absurd (some-ne-none a (sym e))
  rise_apart (x ∷ es) rises zero zero a e f = refl
  rise_apart (x ∷ es) rises zero (suc j) a e f = absurd (let h = above x.id.number es rises.0 j a f in let same = ap (λ (id : SeriesId). id.number) (some-injective x.id a e) in omega (arith, h, same))
  rise_apart (x ∷ es) rises (suc i) zero a e f = absurd (let h = above x.id.number es rises.0 i a e in let same = ap (λ (id : SeriesId). id.number) (some-injective x.id a f) in omega (arith, h, same))
  rise_apart (x ∷ es) rises (suc i) (suc j) a e f = ap suc (rise_apart es rises.1 i j a e f)

  pub kind_at : (kind : MetricKind) (n : ℕ) (es : List (LiveSeries X)) → AreOf kind n es → (i : ℕ) (a : SeriesId) → get_elem? (map its_id es) i ≡ some a → a.kind ≡ kind
  kind_at kind n [] are i a e = absurd (some-ne-none a (sym e))
  kind_at kind n (x ∷ es) are zero a e = ap (λ (id : SeriesId). id.kind) (sym (some-injective x.id a e)) ∙ are.0
  kind_at kind n (x ∷ es) are (suc i) a e = kind_at kind n es are.2 i a e

pub front_or_behind : {A : Type 0} (xs ys : List A) (i : ℕ) (a : A) → get_elem? (xs ++ ys) i ≡ some a → (get_elem? xs i ≡ some a) ⊎ ((k : ℕ) × (i ≡ length xs + k) × (get_elem? ys k ≡ some a))
front_or_behind [] ys i a e = inr (i, omega arith, e)
front_or_behind (x ∷ xs) ys zero a e = inl e
front_or_behind (x ∷ xs) ys (suc i) a e = ⊎_elim (λ (front : get_elem? xs i ≡ some a). inl front) (λ (back : (k : ℕ) × (i ≡ length xs + k) × (get_elem? ys k ≡ some a)). inr (back.0, (let h = back.1 in omega (arith, h)), back.2)) (front_or_behind xs ys i a e)

-- no id stands at two indices
abbrev StandOnce : List SeriesId → Type 0
StandOnce ids = (i j : ℕ) (a : SeriesId) → get_elem? ids i ≡ some a → get_elem? ids j ≡ some a → i ≡ j

once_behind : (xs ys : List SeriesId) → StandOnce xs → StandOnce ys → ((k l : ℕ) (a : SeriesId) → get_elem? xs k ≡ some a → get_elem? ys l ≡ some a → ⊥) → StandOnce (xs ++ ys)
once_behind xs ys once once' not_both i j a e f =
    ⊎_elim (λ (p : get_elem? xs i ≡ some a). ⊎_elim (λ (q : get_elem? xs j ≡ some a). once i j a p q) (λ (q : (k : ℕ) × (j ≡ length xs + k) × (get_elem? ys k ≡ some a)). absurd (not_both i q.0 a p q.2)) (front_or_behind xs ys j a f))
    (λ (p : (k : ℕ) × (i ≡ length xs + k) × (get_elem? ys k ≡ some a)). ⊎_elim (λ (q : get_elem? xs j ≡ some a). absurd (not_both j p.0 a q p.2))
    (λ (q : (k : ℕ) × (j ≡ length xs + k) × (get_elem? ys k ≡ some a)). p.1 ∙ ap (λ n. length xs + n) (once' p.0 q.0 a p.2 q.2) ∙ sym q.1) (front_or_behind xs ys j a f))
    (front_or_behind xs ys i a e)

-- each id stands at one index
pub ids_apart : {X Y Z : Type 0} (series : RegistryText X Y Z) → IsNumbered series → StandOnce (map its_id series.counters ++ (map its_id series.gauges ++ map its_id series.histograms))
ids_apart series numbered =
    let counters = map its_id series.counters in
    let gauges = map its_id series.gauges in
    let histograms = map its_id series.histograms in
    let of_counter = λ (k : ℕ) (a : SeriesId) (p : get_elem? counters k ≡ some a). kind_at kinds.Counter _ series.counters numbered.counters.1 k a p in
    let of_gauge = λ (k : ℕ) (a : SeriesId) (p : get_elem? gauges k ≡ some a). kind_at kinds.Gauge _ series.gauges numbered.gauges.1 k a p in
    let of_histogram = λ (k : ℕ) (a : SeriesId) (p : get_elem? histograms k ≡ some a). kind_at kinds.Histogram _ series.histograms numbered.histograms.1 k a p in
    once_behind counters (gauges ++ histograms) (rise_apart series.counters numbered.counters.0)
    (once_behind gauges histograms (rise_apart series.gauges numbered.gauges.0) (rise_apart series.histograms numbered.histograms.0) (λ k l a p q. gauge≢histogram (sym (of_gauge k a p) ∙ of_histogram l a q)))
    (λ k l a p q. ⊎_elim (λ (g : get_elem? gauges l ≡ some a). counter≢gauge (sym (of_counter k a p) ∙ of_gauge l a g))
    (λ (h : (n : ℕ) × (l ≡ length gauges + n) × (get_elem? histograms n ≡ some a)). counter≢histogram (sym (of_counter k a p) ∙ of_histogram h.0 a h.2)) (front_or_behind gauges histograms l a q))

-- as many ids as things
pub ids_things : {X Y Z T : Type 0} (f : LiveSeries X → T) (g : LiveSeries Y → T) (h : LiveSeries Z → T) (series : RegistryText X Y Z)
    → length (map its_id series.counters ++ (map its_id series.gauges ++ map its_id series.histograms)) ≡ length (map f series.counters ++ (map g series.gauges ++ map h series.histograms))
ids_things f g h series =
    let cs = series.counters in
    let gs = series.gauges in
    let hs = series.histograms in
    let c = length-map cs its_id ∙ sym (length-map cs f) in
    let e = length-map gs its_id ∙ sym (length-map gs g) in
    let d = length-map hs its_id ∙ sym (length-map hs h) in
    length-append (map its_id cs) (map its_id gs ++ map its_id hs)
    ∙ (λ i. c i + (length-append (map its_id gs) (map its_id hs) ∙ (λ j. e j + d j) ∙ sym (length-append (map g gs) (map h hs))) i)
    ∙ sym (length-append (map f cs) (map g gs ++ map h hs))

pub dogstatsd_many : (e : DogStatsDExporter) → length (D.ids_of e) ≡ length (D.things_of e)
dogstatsd_many e = ids_things D.counter_thing D.gauge_thing D.histogram_thing e.series

pub prometheus_many : (e : PrometheusExporter) → length (P.ids_of e) ≡ length (P.things_of e)
prometheus_many e = ids_things P.counter_thing P.gauge_thing P.histogram_thing e.series

pub both_many : (both : Exporters) → count_of (ids_of both) ≡ length (things_of both)
both_many both =
    let front = D.things_of both.dogstatsd in
    let back = P.things_of both.prometheus in
    (λ i. (dogstatsd_many both.dogstatsd ∙ sym (length-map front dogstatsd_thing)) i + (prometheus_many both.prometheus ∙ sym (length-map back prometheus_thing)) i)
    ∙ sym (length-append (map dogstatsd_thing front) (map prometheus_thing back))

-- ---- whether an index is that of an id

pub get_of : {A : Type 0} (xs : List A) (i : ℕ) (a : A) → get_elem? xs i ≡ some a → slice_get xs i ≡ Some a
get_of [] i a e = absurd (some-ne-none a (sym e))
get_of (x ∷ xs) zero a e = ap Some (some-injective x a e)
get_of (x ∷ xs) (suc i) a e = get_of xs i a e

pub id_at_true : (ids : List SeriesId) (j : ℕ) (id : SeriesId) → id_at ids j id ≡ true → get_elem? ids j ≡ some id
id_at_true [] j id e = absurd (true≢false (sym e))
id_at_true (x ∷ ids) zero id e = ap some (id_eq-same x id e)
id_at_true (x ∷ ids) (suc j) id e = id_at_true ids j id e

pub id_at_none : (ids : List SeriesId) (j : ℕ) (id : SeriesId) → ((i : ℕ) → get_elem? ids i ≡ some id → ⊥) → id_at ids j id ≡ false
id_at_none ids j id none = by (id_at ids j id) refl
  where
    by : (b : Bool) → id_at ids j id ≡ b → b ≡ false
    by true is = absurd (none j (id_at_true ids j id is))
    by false is = refl

pub id_at_index : (ids : List SeriesId) (index j : ℕ) (id : SeriesId) → ((i k : ℕ) → get_elem? ids i ≡ some id → get_elem? ids k ≡ some id → i ≡ k) → get_elem? ids index ≡ some id → id_at ids j id ≡ (index == j)
id_at_index ids index j id apart at = dite (ℕ_discrete index j)
    (λ (same : index ≡ j). let here = get_of ids j id (subst (λ n. get_elem? ids n ≡ some id) same at) in ap (λ o. unwrap_or (option_map (λ (own : SeriesId). id_eq own id) o) false) here ∙ id_eq-refl id ∙ sym (eq-eqb index j same))
    (λ (ne : ¬ (index ≡ j)). by (id_at ids j id) refl ne ∙ sym (ne_eqb index j ne))
  where
    by : (b : Bool) → id_at ids j id ≡ b → ¬ (index ≡ j) → b ≡ false
    by true is ne = absurd (ne (apart index j at (id_at_true ids j id is)))
    by false is ne = refl

-- the index that was found for an id in an exporter, if any
pub prometheus_place : (e : PrometheusExporter) (id : SeriesId) (found : Option ℕ) → IsNumbered e.series → P.IsIndex id e found → (j : ℕ) → id_at (P.ids_of e) j id ≡ is_place j found
prometheus_place e id None numbered none j = id_at_none (P.ids_of e) j id none
prometheus_place e id (Some index) numbered at j = id_at_index (P.ids_of e) index j id (λ i k. ids_apart e.series numbered i k id) at

pub dogstatsd_place : (e : DogStatsDExporter) (id : SeriesId) (found : Option ℕ) → IsNumbered e.series → D.IsIndex id e found → (j : ℕ) → id_at (D.ids_of e) j id ≡ is_place j found
dogstatsd_place e id None numbered none j = id_at_none (D.ids_of e) j id none
dogstatsd_place e id (Some index) numbered at j = id_at_index (D.ids_of e) index j id (λ i k. ids_apart e.series numbered i k id) at

-- ---- an index among the series of both exporters

abbrev behind : ℕ → Option ℕ → Option ℕ
behind first found = option_map (λ k. first + k) found

behind_place : (first j : ℕ) (found : Option ℕ) → is_place (first + j) (behind first found) ≡ is_place j found
behind_place first j None = refl
behind_place first j (Some k) = dite (ℕ_discrete k j)
    (λ (same : k ≡ j). eq-eqb (first + k) (first + j) (ap (λ n. first + n) same) ∙ sym (eq-eqb k j same))
    (λ (ne : ¬ (k ≡ j)). ne_eqb (first + k) (first + j) (λ e. ne (omega (arith, e))) ∙ sym (ne_eqb k j ne))

before_place : (first j : ℕ) (found : Option ℕ) → j < first → is_place j (behind first found) ≡ false
before_place first j None below = refl
before_place first j (Some k) below = ne_eqb (first + k) j (λ e. absurd (omega (arith, e, below)))

past_place : (first j : ℕ) (found : Option ℕ) → IfSome found (λ k. k < first) → is_place (first + j) found ≡ false
past_place first j None below = refl
past_place first j (Some k) below = ne_eqb k (first + j) (λ e. absurd (omega (arith, e, below)))

-- what a call line asks for on a Prometheus series is for the Prometheus exporter, and the same of a DogStatsD series
module _ (first : ℕ) (found other : Option ℕ) (within : IfSome other (λ k. k < first)) (places : Places) (at : places.prometheus ≡ behind first found) (at_other : places.dogstatsd ≡ other) (b : Bool) (call : SeriesCall) where
  pub prometheus_step : (j : ℕ) (t : Bool) → t ≡ is_place j found → (if b then both_at (first + j) places call else []) ≡ map exporter.Prometheus (keep (b && t) call [])
  prometheus_step j t is =
      (λ i. if b then keep ((ap (is_place (first + j)) at ∙ behind_place first j found ∙ sym is) i) (exporter.Prometheus call) [] ++ keep ((ap (is_place (first + j)) at_other ∙ past_place first j other within) i) (exporter.DogStatsD call) [] else [])
      ∙ by b t
    where
      by : (b t : Bool) → (if b then keep t (exporter.Prometheus call) [] ++ [] else []) ≡ map exporter.Prometheus (keep (b && t) call [])
      by true true = refl
      by true false = refl
      by false t = refl

  pub dogstatsd_step : (j : ℕ) (t : Bool) → j < first → t ≡ is_place j other → (if b then both_at j places call else []) ≡ map exporter.DogStatsD (keep (b && t) call [])
  dogstatsd_step j t below is =
      (λ i. if b then keep ((ap (is_place j) at ∙ before_place first j found below) i) (exporter.Prometheus call) [] ++ keep ((ap (is_place j) at_other ∙ sym is) i) (exporter.DogStatsD call) [] else [])
      ∙ by b t
    where
      by : (b t : Bool) → (if b then keep t (exporter.DogStatsD call) [] else []) ≡ map exporter.DogStatsD (keep (b && t) call [])
      by true true = refl
      by true false = refl
      by false t = refl

pub lines_step : (b : Bool) (call : SeriesCall) → (if b then on_both call else []) ≡ flat_map on_both (keep b call [])
lines_step true call = refl
lines_step false call = refl

-- a call line's call is one for the series at its places
pub places_ask : (ids : SeriesIds) (first : ℕ) (found other : Option ℕ) (places : Places) (call : SeriesCall) → length ids.dogstatsd ≡ first → places.prometheus ≡ behind first found → places.dogstatsd ≡ other
    → IfSome found (λ k. IsOfKind ids.prometheus k (kind_asked call)) → IfSome other (λ k. IsOfKind ids.dogstatsd k (kind_asked call)) → PlacesAsk ids places call
places_ask ids first found other places call count at at_other is is_other = (
  subst (λ o. IfSome o (λ index. AsksKind ids index (exporter.Prometheus call))) (sym at) (prometheus found is),
  subst (λ o. IfSome o (λ index. AsksKind ids index (exporter.DogStatsD call))) (sym at_other) (dogstatsd other is_other),
)
  where
    prometheus : (found : Option ℕ) → IfSome found (λ k. IsOfKind ids.prometheus k (kind_asked call)) → IfSome (behind first found) (λ index. AsksKind ids index (exporter.Prometheus call))
    prometheus None is = tt
    prometheus (Some k) is = (k, ap (λ n. n + k) (sym count), is)

    dogstatsd : (other : Option ℕ) → IfSome other (λ k. IsOfKind ids.dogstatsd k (kind_asked call)) → IfSome other (λ index. AsksKind ids index (exporter.DogStatsD call))
    dogstatsd None is = tt
    dogstatsd (Some k) is = is

pub kinds_below : (ids : List SeriesId) (kind : MetricKind) (found : Option ℕ) → IfSome found (λ k. IsOfKind ids k kind) → IfSome found (λ k. k < length ids)
kinds_below ids kind None is = tt
kinds_below ids kind (Some k) (id, at, is) = some_below ids k id at

pub kind_of_asked : (moment : ℕ) (act : Act) → kind_of (act_of act) ≡ kind_asked (asked moment act)
kind_of_asked moment (acts.Inc n) = refl
kind_of_asked moment (acts.Abs n) = refl
kind_of_asked moment (acts.Add v) = refl
kind_of_asked moment (acts.Sub v) = refl
kind_of_asked moment (acts.Set v) = refl
kind_of_asked moment (acts.Rec v) = refl
kind_of_asked moment (acts.RecN v n) = refl

-- ---- the calls of a lane, call line by call line

module _ (moment : ℕ) where
  abbrev call_made : CallLine → SeriesCall
  call_made line = asked moment line.act

  one_of : (x : CallLine) (b : Bool) → map call_made (cond b (x ∷ []) []) ≡ keep b (call_made x) []
  one_of x true = refl
  one_of x false = refl

  module _ (ids handles : List SeriesId) (l j : ℕ) where
    abbrev mine : CallLine → Bool
    mine line = HasLane l line && is_at ids handles j line

    pub calls_at-last : (xs : List CallLine) (x : CallLine) → calls_at moment ids handles l j (xs ++ x ∷ []) ≡ calls_at moment ids handles l j xs ++ keep (mine x) (call_made x) []
    calls_at-last xs x =
        ap (map call_made) (filter-append mine xs (x ∷ []))
        ∙ map-append call_made (filter mine xs) (cond (mine x) (x ∷ []) [])
        ∙ ap (λ cs. calls_at moment ids handles l j xs ++ cs) (one_of x (mine x))

  pub lane_asks-last : (l : ℕ) (xs : List CallLine) (x : CallLine) → lane_asks moment l (xs ++ x ∷ []) ≡ lane_asks moment l xs ++ keep (HasLane l x) (call_made x) []
  lane_asks-last l xs x =
      ap (map call_made) (filter-append (HasLane l) xs (x ∷ []))
      ∙ map-append call_made (filter (HasLane l) xs) (cond (HasLane l x) (x ∷ []) [])
      ∙ ap (λ cs. lane_asks moment l xs ++ cs) (one_of x (HasLane l x))

-- ---- what stands in a list that is mapped

pub map_at : {A B : Type 0} (f : A → B) (xs : List A) (i : ℕ) (b : B) → get_elem? (map f xs) i ≡ some b → (a : A) × (get_elem? xs i ≡ some a) × (f a ≡ b)
map_at f [] i b e = absurd (some-ne-none b (sym e))
map_at f (x ∷ xs) zero b e = (x, refl, some-injective (f x) b e)
map_at f (x ∷ xs) (suc i) b e = map_at f xs i b e

-- ---- answers

pub on_ok_known : {T E P : Type 0} (r : Result T E) → P → OnOk r P
on_ok_known (Ok x) p = p
on_ok_known (Err e) p = tt

pub on_ok_both : {T E : Type 0} (r : Result T E) (P Q : Type 0) → OnOk r P → OnOk r Q → OnOk r (P × Q)
on_ok_both (Ok x) P Q p q = (p, q)
on_ok_both (Err e) P Q p q = tt

pub if_ok_both : {T E : Type 0} (r : Result T E) (P Q : T → Type 0) → IfOk r P → IfOk r Q → IfOk r (λ x. P x × Q x)
if_ok_both (Ok x) P Q p q = (p, q)
if_ok_both (Err e) P Q p q = tt

pub if_ok_all : {T E : Type 0} (r : Result T E) (P Q R : T → Type 0) → IfOk r P → IfOk r Q → IfOk r R → IfOk r (λ x. P x × Q x × R x)
if_ok_all (Ok x) P Q R p q s = (p, q, s)
if_ok_all (Err e) P Q R p q s = tt
