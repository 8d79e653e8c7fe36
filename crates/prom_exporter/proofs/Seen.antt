-- A registry of shared cells, and that of the calls that the exporter has seen of them.
use Rattle.std.proofs.Common.{◌≡◌, ℕ, Bool, true, false, cond, List, [], ◌∷◌, map, Some, refl, sym, subst, ◌∙◌}
use Rattle.std.specs.Prelude.{◌==◌, find, option_map}
use Rattle.metrics_core.specs.declared.kinds.MetricKind.{MetricKind}
use Rattle.metrics_core.specs.declared.kinds.MetricKind.TheVariants as kinds
use Rattle.metrics_core.specs.declared.kinds.SeriesId.{SeriesId}
use Rattle.metrics_core.specs.Kinds.{kind_eq}
use Rattle.metrics_core.proofs.KindTests.{kind_eq-same}
use Rattle.std.proofs.lemmas.Bool.{and_parts}
use Rattle.metrics_core.specs.Keys.{KeyText, key_eq}
use Rattle.metrics_registry.specs.Live.{LiveSeries, RegistryText, has_id, has_key, id_of_key, cell_of, IsBelowAll, Rises, AreOf, IsNumbered}
use Rattle.prom_exporter.specs.Shared.{Shared}
use Rattle.metrics_core.specs.Calls.{Call}
use Rattle.prom_exporter.specs.Sampled.{Sampled}
use Rattle.prom_exporter.specs.Values.{SeenCell, seen_cell, seen_series, sampled_series, seen_registry}

-- series with other cells, which keep their ids and keys
module _ {X Y : Type 0} (g : X → Y) where
  abbrev pub changed : LiveSeries X → LiveSeries Y
  changed series = record { id = series.id; key = series.key; cell = g series.cell }

  id_of_key-changed : (key : KeyText) (es : List (LiveSeries X)) → id_of_key key (map changed es) ≡ id_of_key key es
  id_of_key-changed key [] = refl
  id_of_key-changed key (e ∷ es) =
      elim (key_eq e.key key) as (λ b. option_map (λ (s : LiveSeries Y). s.id) (cond b (Some (changed e)) (find (has_key key) (map changed es))) ≡ option_map (λ (s : LiveSeries X). s.id) (cond b (Some e) (find (has_key key) es))) [
        | true ↦ refl
        | false ↦ id_of_key-changed key es
      ]

  is_below_all-changed : (n : ℕ) (es : List (LiveSeries X)) → IsBelowAll n es → IsBelowAll n (map changed es)
  is_below_all-changed n [] h = tt
  is_below_all-changed n (e ∷ es) h = (h.0, is_below_all-changed n es h.1)

  rises-changed : (es : List (LiveSeries X)) → Rises es → Rises (map changed es)
  rises-changed [] h = tt
  rises-changed (e ∷ es) h = (is_below_all-changed e.id.number es h.0, rises-changed es h.1)

  are_of-changed : (kind : MetricKind) (n : ℕ) (es : List (LiveSeries X)) → AreOf kind n es → AreOf kind n (map changed es)
  are_of-changed kind n [] h = tt
  are_of-changed kind n (e ∷ es) h = (h.0, h.1, are_of-changed kind n es h.2)

pub id_of_key-seen : {F : Type 0} (key : KeyText) (es : List (LiveSeries (Shared F))) → id_of_key key (map seen_series es) ≡ id_of_key key es
id_of_key-seen key es = id_of_key-changed seen_cell key es

-- a histogram as a state sees it, where these are the calls on it
abbrev pub sampled_cell : (Sampled → List Call) → Sampled → SeenCell
sampled_cell calls s = record { calls = calls s; note = s.note }

pub id_of_key-sampled : (calls : Sampled → List Call) (key : KeyText) (es : List (LiveSeries Sampled)) → id_of_key key (map (sampled_series calls) es) ≡ id_of_key key es
id_of_key-sampled calls key es = id_of_key-changed (sampled_cell calls) key es

-- the id under which a cell is found has the kind of the list
of_found : {F : Type 0} (kind : MetricKind) (id : SeriesId) (cell : F) (es : List (LiveSeries F)) (n : ℕ) → AreOf kind n es → cell_of id es ≡ Some cell → id.kind ≡ kind
of_found kind id cell [] n are found = absurd cc
of_found kind id cell (e ∷ es) n are found = by (has_id id e) refl found (of_found kind id cell es n are.2)
  where
    by : (b : Bool) → has_id id e ≡ b → option_map (λ (s : LiveSeries _). s.cell) (cond b (Some e) (find (has_id id) es)) ≡ Some cell → (cell_of id es ≡ Some cell → id.kind ≡ kind) → id.kind ≡ kind
    by true has f rest = sym (kind_eq-same e.id.kind id.kind (and_parts (kind_eq e.id.kind id.kind) (e.id.number == id.number) has).0) ∙ are.0
    by false has f rest = rest f

pub of_counters : {F : Type 0} (id : SeriesId) (cell : F) (es : List (LiveSeries F)) (n : ℕ) → AreOf kinds.Counter n es → cell_of id es ≡ Some cell → AreOf id.kind n es
of_counters id cell es n are found = subst (λ kind. AreOf kind n es) (sym (of_found kinds.Counter id cell es n are found)) are

pub of_gauges : {F : Type 0} (id : SeriesId) (cell : F) (es : List (LiveSeries F)) (n : ℕ) → AreOf kinds.Gauge n es → cell_of id es ≡ Some cell → AreOf id.kind n es
of_gauges id cell es n are found = subst (λ kind. AreOf kind n es) (sym (of_found kinds.Gauge id cell es n are found)) are

pub of_histograms : {F : Type 0} (id : SeriesId) (cell : F) (es : List (LiveSeries F)) (n : ℕ) → AreOf kinds.Histogram n es → cell_of id es ≡ Some cell → AreOf id.kind n es
of_histograms id cell es n are found = subst (λ kind. AreOf kind n es) (sym (of_found kinds.Histogram id cell es n are found)) are

pub is_numbered-seen : {C G : Type 0} (calls : Sampled → List Call) (registry : RegistryText (Shared C) (Shared G) Sampled) → IsNumbered registry → IsNumbered (seen_registry calls registry)
is_numbered-seen calls registry h = record {
  counters = (rises-changed seen_cell registry.counters h.counters.0, are_of-changed seen_cell _ _ registry.counters h.counters.1);
  gauges = (rises-changed seen_cell registry.gauges h.gauges.0, are_of-changed seen_cell _ _ registry.gauges h.gauges.1);
  histograms = (rises-changed (sampled_cell calls) registry.histograms h.histograms.0, are_of-changed (sampled_cell calls) _ _ registry.histograms h.histograms.1);
}
