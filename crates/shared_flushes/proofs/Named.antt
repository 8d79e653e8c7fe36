-- The series of a kind, by their ids and keys alone.
use Rattle.std.proofs.Common.{◌≡◌, ℕ, ◌+◌, ◌==◌, ◌&&◌, ◌⊎◌, Bool, true, false, cond, List, [], ◌∷◌, ◌++◌, None, Some, refl, sym, ap, ◌∙◌, inl, inr, ⊎_elim, eq-eqb, true≢false}
use Rattle.std.specs.Prelude.{find, option_map}
use Rattle.std.proofs.lemmas.Option.{same_Some}
use Rattle.std.proofs.lemmas.List.{map_push}
use Rattle.metrics_core.specs.Keys.{KeyText, key_eq}
use Rattle.metrics_core.specs.KeyLaws.{key_eq_laws}
use Rattle.metrics_core.specs.Kinds.{kind_eq}
use Rattle.metrics_core.specs.declared.kinds.MetricKind.{MetricKind}
use Rattle.metrics_core.specs.declared.kinds.MetricKind.TheVariants as kinds
use Rattle.metrics_core.specs.declared.kinds.SeriesId.{SeriesId}
use Rattle.metrics_registry.specs.Live.{LiveSeries, has_id, has_key, id_of_key, cell_of, AreOf}
use Rattle.dsd_exporter.specs.State.{SeriesStates, with_new, with_cell_of}
use Rattle.shared_flushes.specs.declared.entries.StateEntry.{StateEntry}
use Rattle.shared_flushes.specs.declared.entries.StateEntry.TheVariants.{Register}
use Rattle.shared_flushes.specs.Registrations.{AreApart, AreRegistered, Called, Named, NoneHas, of_kind}

abbrev pub id_for : MetricKind → ℕ → SeriesId
id_for kind number = record { kind = kind; number = number }

abbrev pub new_named : MetricKind → ℕ → KeyText → Named
new_named kind number key = record { id = id_for kind number; key = key; cell = tt }

-- ---- finding a key

kind_same : (k : MetricKind) → (kind_eq k k && true) ≡ true
kind_same kinds.Counter = refl
kind_same kinds.Gauge = refl
kind_same kinds.Histogram = refl

module _ {X : Type 0} where
  -- the ids of a list are of its kind
  pub kind_found : (kind : MetricKind) (n : ℕ) (key : KeyText) (es : List (LiveSeries X)) (id : SeriesId) → AreOf kind n es → id_of_key key es ≡ Some id → id.kind ≡ kind
  kind_found kind n key [] id are found = absurd cc
  kind_found kind n key (e ∷ es) id are found = by (key_eq e.key key) found (kind_found kind n key es id are.2)
    where
      by : (b : Bool) → option_map (λ (s : LiveSeries X). s.id) (cond b (Some e) (find (has_key key) es)) ≡ Some id → (id_of_key key es ≡ Some id → id.kind ≡ kind) → id.kind ≡ kind
      by true f rest = ap (λ (i : SeriesId). i.kind) (sym (same_Some e.id id f)) ∙ are.0
      by false f rest = rest f

  -- a key that is found stays found
  pub found_more : (key : KeyText) (es : List (LiveSeries X)) (t : LiveSeries X) (id : SeriesId) → id_of_key key es ≡ Some id → id_of_key key (es ++ t ∷ []) ≡ Some id
  found_more key [] t id found = absurd cc
  found_more key (e ∷ es) t id found = by (key_eq e.key key) found (found_more key es t id)
    where
      by : (b : Bool) → option_map (λ (s : LiveSeries X). s.id) (cond b (Some e) (find (has_key key) es)) ≡ Some id → (id_of_key key es ≡ Some id → id_of_key key (es ++ t ∷ []) ≡ Some id)
          → option_map (λ (s : LiveSeries X). s.id) (cond b (Some e) (find (has_key key) (es ++ t ∷ []))) ≡ Some id
      by true f rest = f
      by false f rest = rest f

  -- and one that isn't is then that of the last one
  pub found_last : (key : KeyText) (es : List (LiveSeries X)) (t : LiveSeries X) → key_eq t.key key ≡ true → id_of_key key es ≡ None → id_of_key key (es ++ t ∷ []) ≡ Some t.id
  found_last key [] t same none = ap (λ b. option_map (λ (s : LiveSeries X). s.id) (cond b (Some t) None)) same
  found_last key (e ∷ es) t same none = by (key_eq e.key key) none (found_last key es t same)
    where
      by : (b : Bool) → option_map (λ (s : LiveSeries X). s.id) (cond b (Some e) (find (has_key key) es)) ≡ None → (id_of_key key es ≡ None → id_of_key key (es ++ t ∷ []) ≡ Some t.id)
          → option_map (λ (s : LiveSeries X). s.id) (cond b (Some e) (find (has_key key) (es ++ t ∷ []))) ≡ Some t.id
      by true n rest = absurd cc
      by false n rest = rest n

  -- equal keys are found at one place
  pub found_same : (a b : KeyText) (es : List (LiveSeries X)) → key_eq a b ≡ true → id_of_key a es ≡ id_of_key b es
  found_same a b es same = ap (option_map (λ (s : LiveSeries X). s.id)) (finds es)
    where
      finds : (es : List (LiveSeries X)) → find (has_key a) es ≡ find (has_key b) es
      finds [] = refl
      finds (e ∷ es) =
          let one : key_eq e.key a ≡ key_eq e.key b = key_eq_laws.symm e.key a ∙ (key_eq_laws.congr a b e.key same ∙ key_eq_laws.symm b e.key) in
          λ j. cond (one j) (Some e) (finds es j)

  has_own : (id : SeriesId) (e : LiveSeries X) → e.id ≡ id → has_id id e ≡ true
  has_own id e same =
      ap (λ (i : SeriesId). kind_eq i.kind id.kind && (i.number == id.number)) same
      ∙ (ap (λ b. kind_eq id.kind id.kind && b) (eq-eqb id.number id.number refl) ∙ kind_same id.kind)

  -- a series that is found has a cell
  pub found_cell : (key : KeyText) (id : SeriesId) (es : List (LiveSeries X)) → id_of_key key es ≡ Some id → ¬ (cell_of id es ≡ None)
  found_cell key id [] found none = absurd cc
  found_cell key id (e ∷ es) found none = by (key_eq e.key key) (has_id id e) refl found none (found_cell key id es)
    where
      by : (b c : Bool) → has_id id e ≡ c → option_map (λ (s : LiveSeries X). s.id) (cond b (Some e) (find (has_key key) es)) ≡ Some id → option_map (λ (s : LiveSeries X). s.cell) (cond c (Some e) (find (has_id id) es)) ≡ None
          → (id_of_key key es ≡ Some id → cell_of id es ≡ None → ⊥) → ⊥
      by b true is f n rest = absurd cc
      by true false is f n rest = true≢false (sym (has_own id e (same_Some e.id id f)) ∙ is)
      by false false is f n rest = rest f n

-- ---- the series of a kind after one more

pub new_last : (kind : MetricKind) (key : KeyText) (s : SeriesStates) → of_kind kind (with_new kind key s) ≡ of_kind kind s ++ new_named kind s.made key ∷ []
new_last kinds.Counter key s = map_push (with_cell_of (λ _. tt)) s.counters _
new_last kinds.Gauge key s = map_push (with_cell_of (λ _. tt)) s.gauges _
new_last kinds.Histogram key s = map_push (with_cell_of (λ _. tt)) s.histograms _

pub new_or_not : (kind other : MetricKind) (key : KeyText) (s : SeriesStates) → (of_kind kind (with_new other key s) ≡ of_kind kind s) ⊎ (kind ≡ other)
new_or_not kinds.Counter kinds.Counter key s = inr refl
new_or_not kinds.Counter kinds.Gauge key s = inl refl
new_or_not kinds.Counter kinds.Histogram key s = inl refl
new_or_not kinds.Gauge kinds.Counter key s = inl refl
new_or_not kinds.Gauge kinds.Gauge key s = inr refl
new_or_not kinds.Gauge kinds.Histogram key s = inl refl
new_or_not kinds.Histogram kinds.Counter key s = inl refl
new_or_not kinds.Histogram kinds.Gauge key s = inl refl
new_or_not kinds.Histogram kinds.Histogram key s = inr refl

pub made_more : (kind : MetricKind) (key : KeyText) (s : SeriesStates) → (with_new kind key s).made ≡ s.made + 1
made_more kinds.Counter key s = refl
made_more kinds.Gauge key s = refl
made_more kinds.Histogram key s = refl

-- ---- entries

pub called_front : (c : StateEntry) (cs ds : List StateEntry) → Called c cs → Called c (cs ++ ds)
called_front c [] ds q = absurd q
called_front c (e ∷ cs) ds q = ⊎_elim (λ (z : c ≡ e). inl z) (λ (later : Called c cs). inr (called_front c cs ds later)) q

pub called_last : (c : StateEntry) (cs : List StateEntry) → Called c (cs ++ c ∷ [])
called_last c [] = inl refl
called_last c (d ∷ ds) = inr (called_last c ds)

-- an entry of the longer list is one of the shorter or the last one
pub called_either : (c d : StateEntry) (cs : List StateEntry) → Called c (cs ++ d ∷ []) → Called c cs ⊎ (c ≡ d)
called_either c d [] q = ⊎_elim (λ (z : c ≡ d). inr z) (λ (no : Called c []). absurd no) q
called_either c d (e ∷ cs) q = ⊎_elim
    (λ (z : c ≡ e). inl (inl z))
    (λ (later : Called c (cs ++ d ∷ [])). ⊎_elim (λ (in_front : Called c cs). inl (inr in_front)) (λ (z : c ≡ d). inr z) (called_either c d cs later))
    q

-- ---- registered, each once

pub registered_front : (kind : MetricKind) (cs ds : List StateEntry) (es : List Named) → AreRegistered kind cs es → AreRegistered kind (cs ++ ds) es
registered_front kind cs ds [] are = tt
registered_front kind cs ds (e ∷ es) are = (called_front (Register kind e.key e.id.number) cs ds are.0, registered_front kind cs ds es are.1)

pub registered_behind : (kind : MetricKind) (c : StateEntry) (cs : List StateEntry) (es : List Named) → AreRegistered kind cs es → AreRegistered kind (c ∷ cs) es
registered_behind kind c cs [] are = tt
registered_behind kind c cs (e ∷ es) are = (inr are.0, registered_behind kind c cs es are.1)

pub registered_last : (kind : MetricKind) (cs : List StateEntry) (es : List Named) (t : Named) → AreRegistered kind cs es → Called (Register kind t.key t.id.number) cs → AreRegistered kind cs (es ++ t ∷ [])
registered_last kind cs [] t are called = (called, tt)
registered_last kind cs (e ∷ es) t are called = (are.0, registered_last kind cs es t are.1 called)

none_last : (s t : Named) (es : List Named) → NoneHas s es → key_eq s.key t.key ≡ false → NoneHas s (es ++ t ∷ [])
none_last s t [] none other = (other, tt)
none_last s t (e ∷ es) none other = (none.0, none_last s t es none.1 other)

pub apart_last : (es : List Named) (t : Named) → AreApart es → id_of_key t.key es ≡ None → AreApart (es ++ t ∷ [])
apart_last [] t apart none = (tt, tt)
apart_last (e ∷ es) t apart none = by (key_eq e.key t.key) refl none (apart_last es t apart.1)
  where
    by : (b : Bool) → key_eq e.key t.key ≡ b → option_map (λ (s : Named). s.id) (cond b (Some e) (find (has_key t.key) es)) ≡ None → (id_of_key t.key es ≡ None → AreApart (es ++ t ∷ [])) → NoneHas e (es ++ t ∷ []) × AreApart (es ++ t ∷ [])
    by true is n rest = absurd cc
    by false is n rest = (none_last e t es apart.0 is, rest n)
