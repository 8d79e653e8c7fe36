-- A cell that is put back where it was.
use Rattle.std.proofs.Common.{◌≡◌, ℕ, Bool, true, false, cond, ◌&&◌, List, [], ◌∷◌, Some, refl, sym, ap, subst, ◌∙◌, arith}
use Rattle.std.specs.Prelude.{◌==◌, find, option_map}
use Rattle.std.proofs.lemmas.Bool.{ne_eqb, eqb-true, and_parts}
use Rattle.std.proofs.lemmas.Option.{same_Some}
use Rattle.metrics_core.specs.declared.kinds.MetricKind.{MetricKind}
use Rattle.metrics_core.specs.declared.kinds.SeriesId.{SeriesId}
use Rattle.metrics_core.specs.Kinds.{kind_eq}
use Rattle.metrics_core.proofs.KindTests.{kind_eq-refl, kind_eq-same}
use Rattle.metrics_registry.specs.Live.{LiveSeries, has_id, cell_of, with_cell, IsBelowAll, Rises, AreOf}

module _ {X : Type 0} (id : SeriesId) where
  -- the id under which a cell is found has the kind of the list
  kind_found : (kind : MetricKind) (cell : X) (es : List (LiveSeries X)) (n : ℕ) → AreOf kind n es → cell_of id es ≡ Some cell → id.kind ≡ kind
  kind_found kind cell [] n are found = absurd cc
  kind_found kind cell (e ∷ es) n are found = by (has_id id e) refl found (kind_found kind cell es n are.2)
    where
      by : (b : Bool) → has_id id e ≡ b → option_map (λ (s : LiveSeries X). s.cell) (cond b (Some e) (find (has_id id) es)) ≡ Some cell → (cell_of id es ≡ Some cell → id.kind ≡ kind) → id.kind ≡ kind
      by true has f rest = sym (kind_eq-same e.id.kind id.kind (and_parts (kind_eq e.id.kind id.kind) (e.id.number == id.number) has).0) ∙ are.0
      by false has f rest = rest f

  same_id : (e : LiveSeries X) → e.id.kind ≡ id.kind → has_id id e ≡ (e.id.number == id.number)
  same_id e kind = ap (λ k. kind_eq k id.kind && (e.id.number == id.number)) kind ∙ ap (λ b. b && (e.id.number == id.number)) (kind_eq-refl id.kind)

  above_keep : (cell : X) (es : List (LiveSeries X)) (n : ℕ) → AreOf id.kind n es → IsBelowAll id.number es → with_cell id es cell ≡ es
  above_keep cell [] n are below = refl
  above_keep cell (e ∷ es) n are below =
      let other : has_id id e ≡ false = same_id e are.0 ∙ ne_eqb e.id.number id.number (λ same. absurd (omega (arith, same, below.0))) in
      (λ j. cond (other j) (record e { cell = cell }) e ∷ above_keep cell es n are.2 below.1 j)

  kept : (es : List (LiveSeries X)) (n : ℕ) (cell : X) → Rises es → AreOf id.kind n es → cell_of id es ≡ Some cell → with_cell id es cell ≡ es
  kept [] n cell rises are found = absurd cc
  kept (e ∷ es) n cell rises are found = by (e.id.number == id.number) refl (kept es n cell rises.1 are.2)
    where
      by : (b : Bool) → (e.id.number == id.number) ≡ b → (cell_of id es ≡ Some cell → with_cell id es cell ≡ es) → with_cell id (e ∷ es) cell ≡ e ∷ es
      by true is rest =
          let has : has_id id e ≡ true = same_id e are.0 ∙ is in
          let here : e.cell ≡ cell = same_Some e.cell cell (sym (ap (λ b. option_map (λ (s : LiveSeries X). s.cell) (cond b (Some e) (find (has_id id) es))) has) ∙ found) in
          let number : e.id.number ≡ id.number = eqb-true e.id.number id.number is in
          (λ j. cond (has j) (record e { cell = sym here j }) e ∷ above_keep cell es n are.2 (subst (λ m. IsBelowAll m es) number rises.0) j)
      by false is rest =
          let has : has_id id e ≡ false = same_id e are.0 ∙ is in
          let later : cell_of id es ≡ Some cell = sym (ap (λ b. option_map (λ (s : LiveSeries X). s.cell) (cond b (Some e) (find (has_id id) es))) has) ∙ found in
          (λ j. cond (has j) (record e { cell = cell }) e ∷ rest later j)

  -- the cell that stands at an id, put there again
  pub put_back : (kind : MetricKind) (es : List (LiveSeries X)) (n : ℕ) (cell : X) → Rises es × AreOf kind n es → cell_of id es ≡ Some cell → with_cell id es cell ≡ es
  put_back kind es n cell numbered found = kept es n cell numbered.0 (subst (λ k. AreOf k n es) (sym (kind_found kind cell es n numbered.1 found)) numbered.1) found
