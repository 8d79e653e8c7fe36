-- A series that is found by its id or its key, and what stays of the others.
use Rattle.std.proofs.Common.{◌≡◌, ℕ, zero, suc, ◌+◌, ◌<◌, ◌≤◌, true, false, cond, not, List, [], ◌∷◌, ◌++◌, Option, None, Some, refl, sym, ap, subst, ◌∙◌, arith}
use Rattle.std.specs.Prelude.{find, slice_get, remove, option_map}
use Rattle.std.specs.List.{All}
use Rattle.std.specs.Prelude.{◌||◌}
use Rattle.std.proofs.lemmas.Bool.{eqb-true, ne_eqb, and_parts, and_right, or_parts}
use Rattle.std.proofs.lemmas.List.Elements.{All-head, All-tail, All-nil, All-cons}
use Rattle.metrics_core.specs.declared.kinds.MetricKind.{MetricKind}
use Rattle.metrics_core.specs.declared.kinds.SeriesId.{SeriesId}
use Rattle.metrics_registry.specs.Live.{LiveSeries, has_id, cell_of, is_live, with_cell, without, IsBelowAll, Rises, AreOf}
use Rattle.metrics_registry.specs.Places.{with_cell_at, IsPlace}

module _ {X : Type 0} where
  -- ---- by number

  number_of_id : (id : SeriesId) (s : LiveSeries X) → has_id id s ≡ true → s.id.number ≡ id.number
  number_of_id id s h = eqb-true s.id.number id.number (and_parts _ _ h).1

  pub other_number : (id : SeriesId) (s : LiveSeries X) → (s.id.number ≡ id.number → ⊥) → has_id id s ≡ false
  other_number id s differ = and_right _ _ (ne_eqb s.id.number id.number differ)

  -- no later series has the number, or a lesser one
  none_above : (id : SeriesId) (n : ℕ) (live : List (LiveSeries X)) → IsBelowAll n live → id.number ≤ n → is_live id live ≡ false
  none_above id n [] below le = refl
  none_above id n (s ∷ live) below le =
      rw (other_number id s (λ same. omega (arith, below.0))) (none_above id n live below.1 le)

  pub above_at : (n : ℕ) (live : List (LiveSeries X)) (i : ℕ) (s : LiveSeries X) → IsBelowAll n live → slice_get live i ≡ Some s → n < s.id.number
  above_at n [] i s below at = cc
  above_at n (x ∷ live) zero s below at = let is : x ≡ s = cc in subst (λ y. n < y.id.number) is below.0
  above_at n (x ∷ live) (suc i) s below at = above_at n live i s below.1 at

  -- ---- where none has the id

  pub without-none : (id : SeriesId) (live : List (LiveSeries X)) → is_live id live ≡ false → without id live ≡ live
  without-none id [] none = refl
  without-none id (s ∷ live) none =
      let parts = or_parts (has_id id s) (is_live id live) none in
      rw parts.0 (ap (λ l. s ∷ l) (without-none id live parts.1))

  pub with_cell-none : (id : SeriesId) (w : X) (live : List (LiveSeries X)) → is_live id live ≡ false → with_cell id live w ≡ live
  with_cell-none id w [] none = refl
  with_cell-none id w (s ∷ live) none =
      let parts = or_parts (has_id id s) (is_live id live) none in
      rw parts.0 (ap (λ l. s ∷ l) (with_cell-none id w live parts.1))

  pub find-none : (id : SeriesId) (live : List (LiveSeries X)) → is_live id live ≡ false → find (has_id id) live ≡ None
  find-none id [] none = refl
  find-none id (s ∷ live) none =
      let parts = or_parts (has_id id s) (is_live id live) none in
      rw parts.0 (find-none id live parts.1)

  -- ---- where the series at a place has it

  pub find-at : (id : SeriesId) (live : List (LiveSeries X)) (i : ℕ) (s : LiveSeries X) → Rises live → slice_get live i ≡ Some s → has_id id s ≡ true → find (has_id id) live ≡ Some s
  find-at id [] i s rises at has = cc
  find-at id (x ∷ live) zero s rises at has =
      let is : x ≡ s = cc in
      let own : has_id id x ≡ true = ap (has_id id) is ∙ has in
      rw own at
  find-at id (x ∷ live) (suc i) s rises at has =
      let above : x.id.number < s.id.number = above_at x.id.number live i s rises.0 at in
      rw (other_number id x (λ same. omega (arith, above, number_of_id id s has))) (find-at id live i s rises.1 at has)

  pub is_live-at : (id : SeriesId) (live : List (LiveSeries X)) (i : ℕ) (s : LiveSeries X) → slice_get live i ≡ Some s → has_id id s ≡ true → is_live id live ≡ true
  is_live-at id [] i s at has = cc
  is_live-at id (x ∷ live) zero s at has =
      let is : x ≡ s = cc in
      let own : has_id id x ≡ true = ap (has_id id) is ∙ has in
      rw own refl
  is_live-at id (x ∷ live) (suc i) s at has =
      rw (is_live-at id live i s at has) (elim (has_id id x) as (λ b. (b || true) ≡ true) [ true ↦ refl | false ↦ refl ])

  pub with_cell-at : (id : SeriesId) (w : X) (live : List (LiveSeries X)) (i : ℕ) (s : LiveSeries X) → Rises live → slice_get live i ≡ Some s → has_id id s ≡ true → with_cell_at live i w ≡ with_cell id live w
  with_cell-at id w [] i s rises at has = refl
  with_cell-at id w (x ∷ live) zero s rises at has =
      let is : x ≡ s = cc in
      let own : has_id id x ≡ true = ap (has_id id) is ∙ has in
      let none : is_live id live ≡ false = none_above id x.id.number live rises.0 (omega (arith, number_of_id id x own)) in
      rw own (ap (λ l. record x { cell = w } ∷ l) (sym (with_cell-none id w live none)))
  with_cell-at id w (x ∷ live) (suc i) s rises at has =
      let above : x.id.number < s.id.number = above_at x.id.number live i s rises.0 at in
      rw (other_number id x (λ same. omega (arith, above, number_of_id id s has))) (ap (λ l. x ∷ l) (with_cell-at id w live i s rises.1 at has))

  pub without-at : (id : SeriesId) (live : List (LiveSeries X)) (i : ℕ) (s : LiveSeries X) → Rises live → slice_get live i ≡ Some s → has_id id s ≡ true → remove live i ≡ without id live
  without-at id [] i s rises at has = cc
  without-at id (x ∷ live) zero s rises at has =
      let is : x ≡ s = cc in
      let own : has_id id x ≡ true = ap (has_id id) is ∙ has in
      let none : is_live id live ≡ false = none_above id x.id.number live rises.0 (omega (arith, number_of_id id x own)) in
      rw own (sym (without-none id live none))
  without-at id (x ∷ live) (suc i) s rises at has =
      let above : x.id.number < s.id.number = above_at x.id.number live i s rises.0 at in
      rw (other_number id x (λ same. omega (arith, above, number_of_id id s has))) (ap (λ l. x ∷ l) (without-at id live i s rises.1 at has))

  -- ---- a series with the number but another id is the only one with the number

  pub none-beside : (id : SeriesId) (live : List (LiveSeries X)) (i : ℕ) (s : LiveSeries X) → Rises live → slice_get live i ≡ Some s → s.id.number ≡ id.number → has_id id s ≡ false → is_live id live ≡ false
  none-beside id [] i s rises at same not_own = refl
  none-beside id (x ∷ live) zero s rises at same not_own =
      let is : x ≡ s = cc in
      let own : has_id id x ≡ false = ap (has_id id) is ∙ not_own in
      let number : x.id.number ≡ id.number = ap (λ y. y.id.number) is ∙ same in
      rw own (none_above id x.id.number live rises.0 (omega (arith, number)))
  none-beside id (x ∷ live) (suc i) s rises at same not_own =
      let above : x.id.number < s.id.number = above_at x.id.number live i s rises.0 at in
      rw (other_number id x (λ e. omega (arith, above, same))) (none-beside id live i s rises.1 at same not_own)

  pub none-anywhere : (id : SeriesId) (live : List (LiveSeries X)) → ((i : ℕ) (s : LiveSeries X) → slice_get live i ≡ Some s → s.id.number ≡ id.number → ⊥) → is_live id live ≡ false
  none-anywhere id [] differ = refl
  none-anywhere id (x ∷ live) differ =
      rw (other_number id x (differ 0 x refl)) (none-anywhere id live (λ i s at. differ (suc i) s at))

  -- ---- the numbers go on rising

  below_all-push : (n : ℕ) (live : List (LiveSeries X)) (s : LiveSeries X) → IsBelowAll n live → n < s.id.number → IsBelowAll n (live ++ s ∷ [])
  below_all-push n [] s below lt = (lt, tt)
  below_all-push n (x ∷ live) s below lt = (below.0, below_all-push n live s below.1 lt)

  pub rises-push : (live : List (LiveSeries X)) (s : LiveSeries X) → Rises live → All (λ other. other.id.number < s.id.number) live → Rises (live ++ s ∷ [])
  rises-push [] s rises above = (tt, tt)
  rises-push (x ∷ live) s rises above = (
    below_all-push x.id.number live s rises.0 (All-head (λ other. other.id.number < s.id.number) x live above),
    rises-push live s rises.1 (All-tail (λ other. other.id.number < s.id.number) x live above),
  )

  below_all-with_cell_at : (n : ℕ) (live : List (LiveSeries X)) (i : ℕ) (w : X) → IsBelowAll n live → IsBelowAll n (with_cell_at live i w)
  below_all-with_cell_at n [] i w below = tt
  below_all-with_cell_at n (x ∷ live) zero w below = below
  below_all-with_cell_at n (x ∷ live) (suc i) w below = (below.0, below_all-with_cell_at n live i w below.1)

  pub rises-with_cell_at : (live : List (LiveSeries X)) (i : ℕ) (w : X) → Rises live → Rises (with_cell_at live i w)
  rises-with_cell_at [] i w rises = tt
  rises-with_cell_at (x ∷ live) zero w rises = rises
  rises-with_cell_at (x ∷ live) (suc i) w rises = (below_all-with_cell_at x.id.number live i w rises.0, rises-with_cell_at live i w rises.1)

  below_all-without : (id : SeriesId) (n : ℕ) (live : List (LiveSeries X)) → IsBelowAll n live → IsBelowAll n (without id live)
  below_all-without id n [] below = tt
  below_all-without id n (x ∷ live) below =
      elim (has_id id x) as (λ b. IsBelowAll n (cond (not b) (x ∷ without id live) (without id live))) [
        | true ↦ below_all-without id n live below.1
        | false ↦ (below.0, below_all-without id n live below.1)
      ]

  pub rises-without : (id : SeriesId) (live : List (LiveSeries X)) → Rises live → Rises (without id live)
  rises-without id [] rises = tt
  rises-without id (x ∷ live) rises =
      elim (has_id id x) as (λ b. Rises (cond (not b) (x ∷ without id live) (without id live))) [
        | true ↦ rises-without id live rises.1
        | false ↦ (below_all-without id x.id.number live rises.0, rises-without id live rises.1)
      ]

  -- ---- by a place

  -- the series at a place has the id
  pub record HasIdAt (id : SeriesId) (live : List (LiveSeries X)) (i : ℕ) : Type 0 where
    pub series : LiveSeries X
    pub at : slice_get live i ≡ Some series
    pub has : has_id id series ≡ true

  pub has_id_at : (id : SeriesId) (live : List (LiveSeries X)) (i : ℕ) → IsPlace id live (Some i) → HasIdAt id live i
  has_id_at id live i place = by (slice_get live i) refl
    where
      by : (o : Option (LiveSeries X)) → slice_get live i ≡ o → HasIdAt id live i
      by None e = cc (place, ap (option_map (has_id id)) e)
      by (Some series) e = record { series = series; at = e; has = cc (place, ap (option_map (has_id id)) e) }

  pub cell_of-place : (id : SeriesId) (live : List (LiveSeries X)) (i : ℕ) → Rises live → IsPlace id live (Some i) → cell_of id live ≡ option_map (λ series. series.cell) (slice_get live i)
  cell_of-place id live i rises place =
      let own = has_id_at id live i place in
      ap (option_map (λ series. series.cell)) (find-at id live i own.series rises own.at own.has ∙ sym own.at)

  pub cell_of-none : (id : SeriesId) (live : List (LiveSeries X)) → IsPlace id live None → cell_of id live ≡ None
  cell_of-none id live none = ap (option_map (λ series. series.cell)) (find-none id live none)

  pub is_live-place : (id : SeriesId) (live : List (LiveSeries X)) (i : ℕ) → IsPlace id live (Some i) → is_live id live ≡ true
  is_live-place id live i place = let own = has_id_at id live i place in is_live-at id live i own.series own.at own.has

  pub without-place : (id : SeriesId) (live : List (LiveSeries X)) (i : ℕ) → Rises live → IsPlace id live (Some i) → remove live i ≡ without id live
  without-place id live i rises place = let own = has_id_at id live i place in without-at id live i own.series rises own.at own.has

  pub with_cell-place : (id : SeriesId) (live : List (LiveSeries X)) (i : ℕ) → Rises live → IsPlace id live (Some i) → with_cell_at live i ≡ with_cell id live
  with_cell-place id live i rises place =
      let own = has_id_at id live i place in
      λ j w. with_cell-at id w live i own.series rises own.at own.has j

  -- ---- kinds, and numbers below the number of series made

  pub all_below : (kind : MetricKind) (n : ℕ) (live : List (LiveSeries X)) → AreOf kind n live → All (λ series. series.id.number < n) live
  all_below kind n [] of = All-nil (λ series. series.id.number < n)
  all_below kind n (s ∷ live) of = All-cons (λ series. series.id.number < n) s live of.1 (all_below kind n live of.2)

  pub are_of-made : (kind : MetricKind) (n : ℕ) (live : List (LiveSeries X)) (s : LiveSeries X) → AreOf kind n live → s.id.kind ≡ kind → s.id.number ≡ n → AreOf kind (n + 1) (live ++ s ∷ [])
  are_of-made kind n [] s of own number = (own, omega arith, tt)
  are_of-made kind n (x ∷ live) s of own number = (of.0, omega (arith, of.1), are_of-made kind n live s of.2 own number)

  pub are_of-more : (kind : MetricKind) (n : ℕ) (live : List (LiveSeries X)) → AreOf kind n live → AreOf kind (n + 1) live
  are_of-more kind n [] of = tt
  are_of-more kind n (x ∷ live) of = (of.0, omega (arith, of.1), are_of-more kind n live of.2)

  pub are_of-with_cell_at : (kind : MetricKind) (n : ℕ) (live : List (LiveSeries X)) (i : ℕ) (w : X) → AreOf kind n live → AreOf kind n (with_cell_at live i w)
  are_of-with_cell_at kind n [] i w of = tt
  are_of-with_cell_at kind n (x ∷ live) zero w of = of
  are_of-with_cell_at kind n (x ∷ live) (suc i) w of = (of.0, of.1, are_of-with_cell_at kind n live i w of.2)

  pub are_of-without : (id : SeriesId) (kind : MetricKind) (n : ℕ) (live : List (LiveSeries X)) → AreOf kind n live → AreOf kind n (without id live)
  are_of-without id kind n [] of = tt
  are_of-without id kind n (x ∷ live) of =
      elim (has_id id x) as (λ b. AreOf kind n (cond (not b) (x ∷ without id live) (without id live))) [
        | true ↦ are_of-without id kind n live of.2
        | false ↦ (of.0, of.1, are_of-without id kind n live of.2)
      ]
