-- The state that a registry makes: what registering does to it, and a cell that is put back.
use Rattle.std.proofs.Common.{◌≡◌, ◌≢◌, ℕ, ◌+◌, Bool, true, false, cond, ◌&&◌, List, [], ◌∷◌, ◌++◌, map, Option, None, Some, refl, sym, ap, subst, ◌∙◌, arith}
use Rattle.std.specs.Prelude.{◌==◌, All, find, unwrap_or, option_map, is_some}
use Rattle.std.proofs.lemmas.Bool.{ne_eqb, eq-eqb, eqb-true}
use Rattle.std.proofs.lemmas.Option.{same_Some}
use Rattle.std.proofs.lemmas.List.Elements.{All-head, All-tail, All-cons}
use Rattle.metrics_core.specs.declared.kinds.MetricKind.{MetricKind}
use Rattle.metrics_core.specs.declared.kinds.MetricKind.TheVariants as kinds
use Rattle.metrics_core.specs.declared.kinds.SeriesId.{SeriesId}
use Rattle.metrics_core.specs.Kinds.{kind_eq}
use Rattle.metrics_core.proofs.KindTests.{kind_eq-refl}
use Rattle.metrics_core.specs.Keys.{KeyText, key_eq}
use Rattle.metrics_registry.specs.Live.{LiveSeries, RegistryText, has_id, has_key, id_of_key, cell_of, with_cell, IsBelowAll, Rises, AreOf}
use Rattle.prom_exporter.specs.State.{Series, PrometheusState, live, with_live, no_series, live_series, number_of, with_series}
use Rattle.prom_exporter.specs.Exporter.{Exporter, with_rest}
use Rattle.prom_exporter.specs.Values.{SeenCell, series_of, state_of}

abbrev Cell : Type 0
Cell = SeenCell

abbrev has_equal_key : KeyText → Series → Bool
has_equal_key key series = key_eq series.key key

-- ---- registering

pub found_number : (key : KeyText) (es : List (LiveSeries Cell)) → option_map (λ (series : Series). series.number) (find (has_equal_key key) (map series_of es)) ≡ option_map (λ (id : SeriesId). id.number) (id_of_key key es)
found_number key [] = refl
found_number key (e ∷ es) = by (key_eq e.key key) refl (found_number key es)
  where
    by : (b : Bool) → key_eq e.key key ≡ b → option_map (λ (series : Series). series.number) (find (has_equal_key key) (map series_of es)) ≡ option_map (λ (id : SeriesId). id.number) (id_of_key key es)
        → option_map (λ (series : Series). series.number) (cond b (Some (series_of e)) (find (has_equal_key key) (map series_of es))) ≡ option_map (λ (id : SeriesId). id.number) (option_map (λ (s : LiveSeries Cell). s.id) (cond b (Some e) (find (has_key key) es)))
    by true is rest = refl
    by false is rest = rest

is_some_mapped : {X Y : Type 0} (f : X → Y) (o : Option X) → is_some (option_map f o) ≡ is_some o
is_some_mapped f None = refl
is_some_mapped f (Some x) = refl

none_mapped : {X Y : Type 0} (f : X → Y) (o : Option X) → option_map f o ≡ None → o ≡ None
none_mapped f None is = refl
none_mapped f (Some x) is = absurd cc

pub found_some : (key : KeyText) (es : List (LiveSeries Cell)) → is_some (find (has_equal_key key) (map series_of es)) ≡ is_some (id_of_key key es)
found_some key es =
    sym (is_some_mapped (λ (series : Series). series.number) (find (has_equal_key key) (map series_of es))) ∙ ap is_some (found_number key es)
    ∙ is_some_mapped (λ (id : SeriesId). id.number) (id_of_key key es)

-- the ids of a list are of its kind
pub kind_of_id : (kind : MetricKind) (n : ℕ) (key : KeyText) (es : List (LiveSeries Cell)) (id : SeriesId) → AreOf kind n es → id_of_key key es ≡ Some id → id.kind ≡ kind
kind_of_id kind n key [] id are found = absurd cc
kind_of_id kind n key (e ∷ es) id are found = by (key_eq e.key key) found (kind_of_id kind n key es id are.2)
  where
    by : (b : Bool) → option_map (λ (s : LiveSeries Cell). s.id) (cond b (Some e) (find (has_key key) es)) ≡ Some id → (id_of_key key es ≡ Some id → id.kind ≡ kind) → id.kind ≡ kind
    by true f rest = ap (λ (i : SeriesId). i.kind) (sym (same_Some e.id id f)) ∙ are.0
    by false f rest = rest f

-- ---- registering, as a whole

abbrev Registry : Type 0
Registry = RegistryText Cell Cell Cell

abbrev new_id : MetricKind → ℕ → SeriesId
new_id kind number = record { kind = kind; number = number }

abbrev pub new_series : MetricKind → ℕ → KeyText → LiveSeries Cell
new_series kind number key = record { id = new_id kind number; key = key; cell = record { calls = []; note = None } }

-- the series of a kind
abbrev of_kind : MetricKind → Registry → List (LiveSeries Cell)
of_kind kinds.Counter registry = registry.counters
of_kind kinds.Gauge registry = registry.gauges
of_kind kinds.Histogram registry = registry.histograms

live_is : (kind : MetricKind) (registry : Registry) → live kind (state_of registry) ≡ map series_of (of_kind kind registry)
live_is kinds.Counter registry = refl
live_is kinds.Gauge registry = refl
live_is kinds.Histogram registry = refl

module _ (kind : MetricKind) (key : KeyText) (registry : Registry) where
  number_found : option_map (λ (series : Series). series.number) (live_series kind key (state_of registry)) ≡ option_map (λ (id : SeriesId). id.number) (id_of_key key (of_kind kind registry))
  number_found = ap (λ es. option_map (λ (series : Series). series.number) (find (has_equal_key key) es)) (live_is kind registry) ∙ found_number key (of_kind kind registry)

  pub some_found : is_some (live_series kind key (state_of registry)) ≡ is_some (id_of_key key (of_kind kind registry))
  some_found = ap (λ es. is_some (find (has_equal_key key) es)) (live_is kind registry) ∙ found_some key (of_kind kind registry)

  -- a series with an equal key is live
  pub with_series-live : (id : SeriesId) → id_of_key key (of_kind kind registry) ≡ Some id → with_series kind key (state_of registry) ≡ state_of registry
  with_series-live id found = ap (λ b. cond b (state_of registry) (registered_else)) (some_found ∙ ap is_some found)
    where
      registered_else : PrometheusState
      registered_else = cond (registry.made == no_series) (state_of registry) (record (with_live kind (live kind (state_of registry) ++ record { number = registry.made; key = key; calls = []; note = None } ∷ []) (state_of registry)) { made = registry.made + 1 })

  pub id-live : (n : ℕ) (id : SeriesId) → AreOf kind n (of_kind kind registry) → id_of_key key (of_kind kind registry) ≡ Some id → id ≡ new_id kind (number_of kind key (state_of registry))
  id-live n id are found =
      let given : number_of kind key (state_of registry) ≡ id.number = ap (λ o. unwrap_or o registry.made) (number_found ∙ ap (option_map (λ (i : SeriesId). i.number)) found) in
      (λ j. new_id (kind_of_id kind n key (of_kind kind registry) id are found j) (sym given j))

  -- none is live
  pub live-none : id_of_key key (of_kind kind registry) ≡ None → live_series kind key (state_of registry) ≡ None
  live-none none = none_mapped (λ (series : Series). series.number) (live_series kind key (state_of registry)) (number_found ∙ ap (option_map (λ (i : SeriesId). i.number)) none)

  pub number-new : id_of_key key (of_kind kind registry) ≡ None → number_of kind key (state_of registry) ≡ registry.made
  number-new none = ap (λ o. unwrap_or o registry.made) (number_found ∙ ap (option_map (λ (i : SeriesId). i.number)) none)

  pub with_series-full : id_of_key key (of_kind kind registry) ≡ None → registry.made ≡ no_series → with_series kind key (state_of registry) ≡ state_of registry
  with_series-full none full = rw (some_found, none, eq-eqb registry.made no_series full) refl

  pub with_series-new : id_of_key key (of_kind kind registry) ≡ None → registry.made ≢ no_series
      → with_series kind key (state_of registry) ≡ record (with_live kind (live kind (state_of registry) ++ series_of (new_series kind registry.made key) ∷ []) (state_of registry)) { made = registry.made + 1 }
  with_series-new none room = rw (some_found, none, ne_eqb registry.made no_series room) refl

-- what else an exporter has takes no part in it
with_series-rest : (kind : MetricKind) (key : KeyText) (e : Exporter) (s : PrometheusState) → with_rest e (with_series kind key s) ≡ with_series kind key (with_rest e s)
with_series-rest kind key e s = of_kind_rest kind
  where
    by : (b c : Bool) (new : PrometheusState) → with_rest e (cond b s (cond c s new)) ≡ cond b (with_rest e s) (cond c (with_rest e s) (with_rest e new))
    by true c new = refl
    by false true new = refl
    by false false new = refl

    of_kind_rest : (k : MetricKind) → with_rest e (with_series k key s) ≡ with_series k key (with_rest e s)
    of_kind_rest kinds.Counter = by (is_some (live_series kinds.Counter key s)) (s.made == no_series) _
    of_kind_rest kinds.Gauge = by (is_some (live_series kinds.Gauge key s)) (s.made == no_series) _
    of_kind_rest kinds.Histogram = by (is_some (live_series kinds.Histogram key s)) (s.made == no_series) _

pub put_rest : (kind : MetricKind) (key : KeyText) (e : Exporter) (old new : PrometheusState) → new ≡ with_series kind key old → with_rest e new ≡ with_series kind key (with_rest e old)
put_rest kind key e old new is = ap (with_rest e) is ∙ with_series-rest kind key e old

-- ---- a cell that is put back

module _ (id : SeriesId) where
  same_id : {X : Type 0} (e : LiveSeries X) → e.id.kind ≡ id.kind → has_id id e ≡ (e.id.number == id.number)
  same_id e kind = ap (λ k. kind_eq k id.kind && (e.id.number == id.number)) kind ∙ ap (λ b. b && (e.id.number == id.number)) (kind_eq-refl id.kind)

  above_keep : {X : Type 0} (cell : X) (es : List (LiveSeries X)) (n : ℕ) → AreOf id.kind n es → IsBelowAll id.number es → with_cell id es cell ≡ es
  above_keep cell [] n are below = refl
  above_keep cell (e ∷ es) n are below =
      let other : has_id id e ≡ false = same_id e are.0 ∙ ne_eqb e.id.number id.number (λ same. absurd (omega (arith, same, below.0))) in
      (λ j. cond (other j) (record e { cell = cell }) e ∷ above_keep cell es n are.2 below.1 j)

pub kept : {X : Type 0} (id : SeriesId) (es : List (LiveSeries X)) (n : ℕ) (cell : X) → Rises es → AreOf id.kind n es → cell_of id es ≡ Some cell → with_cell id es cell ≡ es
kept id [] n cell rises are found = absurd cc
kept {X} id (e ∷ es) n cell rises are found = by (e.id.number == id.number) refl (kept id es n cell rises.1 are.2)
  where
    by : (b : Bool) → (e.id.number == id.number) ≡ b → (cell_of id es ≡ Some cell → with_cell id es cell ≡ es) → with_cell id (e ∷ es) cell ≡ e ∷ es
    by true is rest =
        let has : has_id id e ≡ true = same_id id e are.0 ∙ is in
        let here : e.cell ≡ cell = same_Some e.cell cell (sym (ap (λ b. option_map (λ (s : LiveSeries X). s.cell) (cond b (Some e) (find (has_id id) es))) has) ∙ found) in
        let number : e.id.number ≡ id.number = eqb-true e.id.number id.number is in
        (λ j. cond (has j) (record e { cell = sym here j }) e ∷ above_keep id cell es n are.2 (subst (λ m. IsBelowAll m es) number rises.0) j)
    by false is rest =
        let has : has_id id e ≡ false = same_id id e are.0 ∙ is in
        let later : cell_of id es ≡ Some cell = sym (ap (λ b. option_map (λ (s : LiveSeries X). s.cell) (cond b (Some e) (find (has_id id) es))) has) ∙ found in
        (λ j. cond (has j) (record e { cell = cell }) e ∷ rest later j)

-- what holds of each series, where the cell with an id is replaced
pub all-with_cell : {X : Type 0} (P : LiveSeries X → Type 0) (id : SeriesId) (es : List (LiveSeries X)) (n : ℕ) (cell left : X) → Rises es → AreOf id.kind n es → cell_of id es ≡ Some cell
    → ((s : LiveSeries X) → s.cell ≡ cell → P s → P (record s { cell = left })) → All P es → All P (with_cell id es left)
all-with_cell P id [] n cell left rises are found each all = all
all-with_cell {X} P id (e ∷ es) n cell left rises are found each all = by (e.id.number == id.number) refl (λ later. all-with_cell P id es n cell left rises.1 are.2 later each (All-tail P e es all))
  where
    by : (b : Bool) → (e.id.number == id.number) ≡ b → (cell_of id es ≡ Some cell → All P (with_cell id es left)) → All P (with_cell id (e ∷ es) left)
    by true is rest =
        let has : has_id id e ≡ true = same_id id e are.0 ∙ is in
        let here : e.cell ≡ cell = same_Some e.cell cell (sym (ap (λ b. option_map (λ (s : LiveSeries X). s.cell) (cond b (Some e) (find (has_id id) es))) has) ∙ found) in
        let number : e.id.number ≡ id.number = eqb-true e.id.number id.number is in
        let others : with_cell id es left ≡ es = above_keep id left es n are.2 (subst (λ m. IsBelowAll m es) number rises.0) in
        subst (All P) (λ j. cond (sym has j) (record e { cell = left }) e ∷ sym others j) (All-cons P (record e { cell = left }) es (each e here (All-head P e es all)) (All-tail P e es all))
    by false is rest =
        let has : has_id id e ≡ false = same_id id e are.0 ∙ is in
        let later : cell_of id es ≡ Some cell = sym (ap (λ b. option_map (λ (s : LiveSeries X). s.cell) (cond b (Some e) (find (has_id id) es))) has) ∙ found in
        subst (All P) (λ j. cond (sym has j) (record e { cell = left }) e ∷ with_cell id es left) (All-cons P e (with_cell id es left) (All-head P e es all) (rest later))
