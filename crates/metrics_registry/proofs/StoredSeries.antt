-- The live series that keys and what is stored beside them make.
use Rattle.std.proofs.Common.{◌≡◌, ℕ, zero, suc, ◌+◌, ◌<◌, ◌≤◌, Bool, true, false, cond, not, List, [], ◌∷◌, ◌++◌, length, get_or, Option, None, Some, refl, sym, ap, subst, ◌∙◌, arith}
use Rattle.std.specs.Prelude.{find, is_some, slice_get, slice_set, remove, option_map, position, nat_lt, Ok, Err}
use Rattle.std.specs.List.{list_any, position_or_len, All}
use Rattle.std.proofs.Common.{length-append, ◌-◌, take, length-take}
use Rattle.std.specs.Prelude.{min}
use Rattle.std.proofs.Math.Seq.{take-append_seam}
use Rattle.std.proofs.Math.ListN.{length-set}
use Rattle.std.specs.List.Sorted.{IsBinarySearchResult}
use Rattle.std.specs.Ordering.{nat_cmp}
use Rattle.std.specs.Prelude.{◌||◌}
use Rattle.std.proofs.Common.{inl, inr}
use Rattle.std.proofs.lemmas.Bool.{cases_lt}
use Rattle.std.proofs.lemmas.Bool.Decides.{nat_tests}
use Rattle.std.proofs.lemmas.Option.{slice_get-get_or, slice_get_past, slice_get_read, slice_get_within}
use Rattle.std.proofs.lemmas.List.Folds.{find_at}
use denote.Enum.Bare.{sameb}
use Rattle.metrics_core.specs.contracts.kinds.MetricKind.{the_type}
use Rattle.metrics_core.specs.declared.kinds.MetricKind.{MetricKind}
use Rattle.metrics_core.specs.declared.kinds.MetricKind.TheVariants.{Counter, Gauge, Histogram}
use Rattle.metrics_core.specs.Kinds.{kind_eq}
use Rattle.metrics_core.specs.declared.kinds.SeriesId.{SeriesId}
use Rattle.metrics_core.specs.Keys.{KeyText, key_eq}
use Rattle.metrics_registry.specs.Live.{LiveSeries, has_id, has_key, id_eq, id_of_key, is_live, IsBelowAll, Rises}
use Rattle.metrics_registry.specs.Places.{with_cell_at, IsPlace}
use Rattle.metrics_registry.specs.Stored.{live_of, AreStored}
use Rattle.metrics_registry.specs.declared.columns.Series.{Series}
use Rattle.metrics_registry.proofs.Searched.{compared, equal_number, greater_number, less_number}
use Rattle.metrics_registry.proofs.Found.{above_at, none-anywhere, none-beside, has_id_at, rises-with_cell_at, rises-without, rises-push, without-place}

-- the derived comparison of kinds
pub same_kind : (a b : MetricKind) → sameb the_type a b ≡ kind_eq a b
same_kind Counter Counter = refl
same_kind Counter Gauge = refl
same_kind Counter Histogram = refl
same_kind Gauge Counter = refl
same_kind Gauge Gauge = refl
same_kind Gauge Histogram = refl
same_kind Histogram Counter = refl
same_kind Histogram Gauge = refl
same_kind Histogram Histogram = refl

none_of : {A : Type 0} (o : Option A) → is_some o ≡ false → o ≡ None
none_of None e = refl
none_of (Some x) e = cc

module _ {X : Type 0} where
  pub length-live_of : (ks : List KeyText) (ss : List (Series X)) → length ks ≡ length ss → length (live_of ks ss) ≡ length ss
  length-live_of [] [] long = refl
  length-live_of [] (s ∷ ss) long = cc
  length-live_of (k ∷ ks) [] long = cc
  length-live_of (k ∷ ks) (s ∷ ss) long = ap suc (length-live_of ks ss (omega arith))

  -- the live series at a place
  pub record IsLiveAt (live : List (LiveSeries X)) (i : ℕ) (s : Series X) : Type 0 where
    pub series : LiveSeries X
    pub at : slice_get live i ≡ Some series
    pub id : series.id ≡ s.id
    pub cell : series.cell ≡ s.cell

  pub live_at : (ks : List KeyText) (ss : List (Series X)) (i : ℕ) (s : Series X) → length ks ≡ length ss → slice_get ss i ≡ Some s → IsLiveAt (live_of ks ss) i s
  live_at ks [] i s long at = cc
  live_at [] (x ∷ ss) i s long at = cc
  live_at (k ∷ ks) (x ∷ ss) zero s long at =
      let is : x ≡ s = cc in
      record { series = record { id = x.id; key = k; cell = x.cell }; at = refl; id = ap (λ y. y.id) is; cell = ap (λ y. y.cell) is }
  live_at (k ∷ ks) (x ∷ ss) (suc i) s long at =
      let rest = live_at ks ss i s (omega arith) at in
      record { series = rest.series; at = rest.at; id = rest.id; cell = rest.cell }

  pub live_of-push : (ks : List KeyText) (ss : List (Series X)) (k : KeyText) (s : Series X) → length ks ≡ length ss
      → live_of (ks ++ k ∷ []) (ss ++ s ∷ []) ≡ live_of ks ss ++ record { id = s.id; key = k; cell = s.cell } ∷ []
  live_of-push [] [] k s long = refl
  live_of-push [] (x ∷ ss) k s long = cc
  live_of-push (l ∷ ks) [] k s long = cc
  live_of-push (l ∷ ks) (x ∷ ss) k s long = ap (λ r. record { id = x.id; key = l; cell = x.cell } ∷ r) (live_of-push ks ss k s (omega arith))

  pub live_of-remove : (ks : List KeyText) (ss : List (Series X)) (i : ℕ) → length ks ≡ length ss → live_of (remove ks i) (remove ss i) ≡ remove (live_of ks ss) i
  live_of-remove [] [] zero long = refl
  live_of-remove [] [] (suc i) long = refl
  live_of-remove [] (x ∷ ss) i long = cc
  live_of-remove (k ∷ ks) [] i long = cc
  live_of-remove (k ∷ ks) (x ∷ ss) zero long = refl
  live_of-remove (k ∷ ks) (x ∷ ss) (suc i) long = ap (λ r. record { id = x.id; key = k; cell = x.cell } ∷ r) (live_of-remove ks ss i (omega arith))

  length-removed : (ks : List KeyText) (ss : List (Series X)) (i : ℕ) → length ks ≡ length ss → length (remove ks i) ≡ length (remove ss i)
  length-removed [] [] zero long = refl
  length-removed [] [] (suc i) long = refl
  length-removed [] (x ∷ ss) i long = cc
  length-removed (k ∷ ks) [] i long = cc
  length-removed (k ∷ ks) (x ∷ ss) zero long = let rest : length ks ≡ length ss = omega arith in rest
  length-removed (k ∷ ks) (x ∷ ss) (suc i) long = ap suc (length-removed ks ss i (omega arith))

  pub live_of-cell : (ks : List KeyText) (ss : List (Series X)) (i : ℕ) (s : Series X) (w : X) → length ks ≡ length ss → slice_get ss i ≡ Some s
      → live_of ks (slice_set ss i (record s { cell = w })) ≡ with_cell_at (live_of ks ss) i w
  live_of-cell ks [] i s w long at = cc
  live_of-cell [] (x ∷ ss) i s w long at = cc
  live_of-cell (k ∷ ks) (x ∷ ss) zero s w long at =
      let is : x ≡ s = cc in ap (λ y. record { id = y.id; key = k; cell = w } ∷ live_of ks ss) (sym is)
  live_of-cell (k ∷ ks) (x ∷ ss) (suc i) s w long at =
      ap (λ r. record { id = x.id; key = k; cell = x.cell } ∷ r) (live_of-cell ks ss i s w (omega arith) at)

  -- ---- look-up by a key

  module _ (symm : (a b : KeyText) → key_eq a b ≡ key_eq b a) (key : KeyText) where
    first_place : (ks : List KeyText) (ss : List (Series X)) → length ks ≡ length ss → position_or_len (has_key key) (live_of ks ss) ≡ position_or_len (key_eq key) ks
    first_place [] ss long = refl
    first_place (k ∷ ks) [] long = cc
    first_place (k ∷ ks) (s ∷ ss) long =
        rw (symm k key) (ap (λ n. cond (not (key_eq key k)) (1 + n) 0) (first_place ks ss (omega arith)))

    -- some key is equal where a series is found
    pub is_some-id_of_key : (ks : List KeyText) (ss : List (Series X)) → length ks ≡ length ss → is_some (id_of_key key (live_of ks ss)) ≡ list_any (key_eq key) ks
    is_some-id_of_key [] ss long = refl
    is_some-id_of_key (k ∷ ks) [] long = cc
    is_some-id_of_key (k ∷ ks) (s ∷ ss) long =
        let rest = is_some-id_of_key ks ss (omega arith) in
        rw (symm k key) (elim (key_eq key k) as (λ b. is_some (option_map (λ series. series.id) (cond b (Some (record { id = s.id; key = k; cell = s.cell })) (find (has_key key) (live_of ks ss)))) ≡ (b || list_any (key_eq key) ks)) [
          | true ↦ refl
          | false ↦ rest
        ])

    pub id_of_key-none : (ks : List KeyText) (ss : List (Series X)) → length ks ≡ length ss → list_any (key_eq key) ks ≡ false → id_of_key key (live_of ks ss) ≡ None
    id_of_key-none ks ss long none = none_of (id_of_key key (live_of ks ss)) (is_some-id_of_key ks ss long ∙ none)

    -- where the key at a place is the first that is equal
    pub id_of_key-at : (ks : List KeyText) (ss : List (Series X)) (i : ℕ) (s : Series X) → length ks ≡ length ss → position (key_eq key) ks ≡ Some i → slice_get ss i ≡ Some s
        → id_of_key key (live_of ks ss) ≡ Some s.id
    id_of_key-at ks ss i s long found at =
        let is : position_or_len (key_eq key) ks ≡ i = place_of (nat_lt (position_or_len (key_eq key) ks) (length ks)) (position_or_len (key_eq key) ks) i found in
        let own = live_at ks ss i s long at in
        ap (option_map (λ series. series.id))
        (find_at (has_key key) (live_of ks ss) ∙ ap (slice_get (live_of ks ss)) (first_place ks ss long ∙ is) ∙ own.at)
        ∙ ap Some own.id
      where
        place_of : (b : Bool) (n i : ℕ) → cond b (Some n) None ≡ Some i → n ≡ i
        place_of true n i e = cc
        place_of false n i e = cc

  -- ---- look-up by a number

  rises_to : (live : List (LiveSeries X)) (i j : ℕ) (a b : LiveSeries X) → Rises live → slice_get live i ≡ Some a → slice_get live j ≡ Some b → i ≤ j → a.id.number ≤ b.id.number
  rises_to [] i j a b rises at_i at_j le = cc
  rises_to (x ∷ live) zero zero a b rises at_i at_j le =
      let same : a ≡ b = cc in omega (arith, ap (λ y. y.id.number) same)
  rises_to (x ∷ live) zero (suc j) a b rises at_i at_j le =
      let is : x ≡ a = cc in
      omega (arith, above_at x.id.number live j b rises.0 at_j, ap (λ y. y.id.number) is)
  rises_to (x ∷ live) (suc i) zero a b rises at_i at_j le = absurd (omega arith)
  rises_to (x ∷ live) (suc i) (suc j) a b rises at_i at_j le = rises_to live i j a b rises.1 at_i at_j (omega arith)

  rises_stored : (ks : List KeyText) (ss : List (Series X)) → length ks ≡ length ss → Rises (live_of ks ss) → (i j : ℕ) (d : Series X) → i ≤ j → j < length ss → (get_or ss i d).id.number ≤ (get_or ss j d).id.number
  rises_stored ks ss long rises i j d le within =
      let one = live_at ks ss i (get_or ss i d) long (slice_get-get_or ss i d (omega arith)) in
      let other = live_at ks ss j (get_or ss j d) long (slice_get-get_or ss j d within) in
      omega (arith, rises_to (live_of ks ss) i j one.series other.series rises one.at other.at le, ap (λ id. id.number) one.id, ap (λ id. id.number) other.id)

  stored_id : (ks : List KeyText) (ss : List (Series X)) (i : ℕ) (d : Series X) (l : LiveSeries X) → length ks ≡ length ss → slice_get (live_of ks ss) i ≡ Some l → i < length ss → (get_or ss i d).id ≡ l.id
  stored_id ks ss i d l long at within =
      let own = live_at ks ss i (get_or ss i d) long (slice_get-get_or ss i d within) in
      let same : own.series ≡ l = cc (own.at, at) in
      sym own.id ∙ ap (λ series. series.id) same

  -- a search that misses: no series has the number
  pub none-searched : (ks : List KeyText) (ss : List (Series X)) (id : SeriesId) (i : ℕ) → length ks ≡ length ss → Rises (live_of ks ss)
      → IsBinarySearchResult (λ s. nat_cmp s.id.number id.number) ss (Err i) → is_live id (live_of ks ss) ≡ false
  none-searched ks ss id i long rises searched =
      let parted = searched (λ a b d le within. compared id.number (get_or ss a d).id.number (get_or ss b d).id.number (rises_stored ks ss long rises a b d le within)) in
      none-anywhere id (live_of ks ss) (λ k l at same.
      let within : k < length ss = subst (λ n. k < n) (length-live_of ks ss long) (slice_get_within (live_of ks ss) k l at) in
      let d : Series X = record { id = l.id; cell = l.cell } in
      let number : (get_or ss k d).id.number ≡ id.number = ap (λ id'. id'.number) (stored_id ks ss k d l long at within) ∙ same in
      elim (cases_lt k i) as (λ _. ⊥) [
        | inl before ↦ less_number (get_or ss k d).id.number id.number (parted.0 k d (omega arith) before) number
        | inr behind ↦ greater_number (get_or ss k d).id.number id.number (parted.1 k d behind within) number
      ])

  -- a search that hits: the series there has the number
  pub searched-number : (ss : List (Series X)) (i n : ℕ) (s : Series X) → IsBinarySearchResult (λ s'. nat_cmp s'.id.number n) ss (Ok i) → s ≡ get_or ss i s → s.id.number ≡ n
  searched-number ss i n s searched read = ap (λ s'. s'.id.number) read ∙ equal_number (get_or ss i s).id.number n (searched s)

  -- ---- a stored

  -- what is stored at a place of the live series
  pub stored_within : (ks : List KeyText) (ss : List (Series X)) (i : ℕ) → length ks ≡ length ss → i < length (live_of ks ss) → i < length ss
  stored_within ks ss i long within = subst (λ n. i < n) (length-live_of ks ss long) within

  pub place_within : (ks : List KeyText) (ss : List (Series X)) (id : SeriesId) (i : ℕ) → length ks ≡ length ss → IsPlace id (live_of ks ss) (Some i) → i < length ss
  place_within ks ss id i long place =
      let own = has_id_at id (live_of ks ss) i place in
      stored_within ks ss i long (slice_get_within (live_of ks ss) i own.series own.at)

  pub cell-at : (ks : List KeyText) (ss : List (Series X)) (i : ℕ) (s : Series X) → length ks ≡ length ss → slice_get ss i ≡ Some s → option_map (λ series. series.cell) (slice_get (live_of ks ss) i) ≡ Some s.cell
  cell-at ks ss i s long at =
      let own = live_at ks ss i s long at in
      ap (option_map (λ series. series.cell)) own.at ∙ ap Some own.cell

  pub record IsStoredAt (ss : List (Series X)) (i : ℕ) (held : X) : Type 0 where
    pub series : Series X
    pub at : slice_get ss i ≡ Some series
    pub cell : series.cell ≡ held

  pub stored_cell : (ss : List (Series X)) (i : ℕ) (cell : X) → option_map (λ series. series.cell) (slice_get ss i) ≡ Some cell → IsStoredAt ss i cell
  stored_cell ss i cell has = by (slice_get ss i) refl
    where
      by : (o : Option (Series X)) → slice_get ss i ≡ o → IsStoredAt ss i cell
      by None e = cc (has, ap (option_map (λ series. series.cell)) e)
      by (Some series) e = record { series = series; at = e; cell = cc (has, ap (option_map (λ series. series.cell)) e) }

  -- a search that hits: the series has the id where its own is that, and otherwise none has
  pub place-hit : (ks : List KeyText) (ss : List (Series X)) (id : SeriesId) (i : ℕ) (s : Series X) → length ks ≡ length ss → i < length ss → s ≡ get_or ss i s → id_eq s.id id ≡ true → IsPlace id (live_of ks ss) (Some i)
  place-hit ks ss id i s long within read own =
      let here = live_at ks ss i s long (slice_get_read ss (length ss) i s refl within read) in
      ap (option_map (has_id id)) here.at ∙ ap Some (ap (λ id'. id_eq id' id) here.id ∙ own)

  pub none-hit : (ks : List KeyText) (ss : List (Series X)) (id : SeriesId) (i : ℕ) (s : Series X) → AreStored ks ss → i < length ss
      → IsBinarySearchResult (λ s'. nat_cmp s'.id.number id.number) ss (Ok i) → s ≡ get_or ss i s → id_eq s.id id ≡ false → is_live id (live_of ks ss) ≡ false
  none-hit ks ss id i s stored within searched read other =
      let here = live_at ks ss i s stored.beside (slice_get_read ss (length ss) i s refl within read) in
      none-beside id (live_of ks ss) i here.series stored.rises here.at
      (ap (λ id'. id'.number) here.id ∙ searched-number ss i id.number s searched read)
      (ap (λ id'. id_eq id' id) here.id ∙ other)

  pub stored-cell : (ks : List KeyText) (ss : List (Series X)) (i : ℕ) (s : Series X) (w : X) → AreStored ks ss → slice_get ss i ≡ Some s → AreStored ks (slice_set ss i (record s { cell = w }))
  stored-cell ks ss i s w stored at = record {
    beside = stored.beside ∙ sym (length-set ss i (record s { cell = w }));
    rises = subst Rises (sym (live_of-cell ks ss i s w stored.beside at)) (rises-with_cell_at (live_of ks ss) i w stored.rises);
  }

  pub stored-remove : (ks : List KeyText) (ss : List (Series X)) (id : SeriesId) (i : ℕ) → AreStored ks ss → IsPlace id (live_of ks ss) (Some i) → AreStored (remove ks i) (remove ss i)
  stored-remove ks ss id i stored place = record {
    beside = length-removed ks ss i stored.beside;
    rises = subst Rises (sym (live_of-remove ks ss i stored.beside ∙ without-place id (live_of ks ss) i stored.rises place)) (rises-without id (live_of ks ss) stored.rises);
  }

  pub stored-push : (ks : List KeyText) (ss : List (Series X)) (k : KeyText) (s : Series X) → AreStored ks ss → All (λ other. other.id.number < s.id.number) (live_of ks ss) → AreStored (ks ++ k ∷ []) (ss ++ s ∷ [])
  stored-push ks ss k s stored above = record {
    beside = omega (arith, stored.beside, length-append ks (k ∷ []), length-append ss (s ∷ []));
    rises = subst Rises (sym (live_of-push ks ss k s stored.beside)) (rises-push (live_of ks ss) (record { id = s.id; key = k; cell = s.cell }) stored.rises above);
  }

  -- ---- the series but the last

  pub live_of-take : (ks : List KeyText) (ss : List (Series X)) (n : ℕ) → live_of (take n ks) (take n ss) ≡ take n (live_of ks ss)
  live_of-take [] [] zero = refl
  live_of-take [] [] (suc n) = refl
  live_of-take [] (s ∷ ss) zero = refl
  live_of-take [] (s ∷ ss) (suc n) = refl
  live_of-take (k ∷ ks) [] zero = refl
  live_of-take (k ∷ ks) [] (suc n) = refl
  live_of-take (k ∷ ks) (s ∷ ss) zero = refl
  live_of-take (k ∷ ks) (s ∷ ss) (suc n) = ap (λ r. record { id = s.id; key = k; cell = s.cell } ∷ r) (live_of-take ks ss n)

  below-take : (m : ℕ) (live : List (LiveSeries X)) (n : ℕ) → IsBelowAll m live → IsBelowAll m (take n live)
  below-take m [] zero below = tt
  below-take m [] (suc n) below = tt
  below-take m (s ∷ live) zero below = tt
  below-take m (s ∷ live) (suc n) below = (below.0, below-take m live n below.1)

  rises-take : (live : List (LiveSeries X)) (n : ℕ) → Rises live → Rises (take n live)
  rises-take [] zero rises = tt
  rises-take [] (suc n) rises = tt
  rises-take (s ∷ live) zero rises = tt
  rises-take (s ∷ live) (suc n) rises = (below-take s.id.number live n rises.0, rises-take live n rises.1)

  pub stored-take : (ks : List KeyText) (ss : List (Series X)) (n : ℕ) → AreStored ks ss → AreStored (take n ks) (take n ss)
  stored-take ks ss n stored = record {
    beside = length-take n ks ∙ ap (min n) stored.beside ∙ sym (length-take n ss);
    rises = subst Rises (sym (live_of-take ks ss n)) (rises-take (live_of ks ss) n stored.rises);
  }

  pub live_of-others : (ks : List KeyText) (ss : List (Series X)) (before : List (LiveSeries X)) (last : LiveSeries X) → length ks ≡ length ss → live_of ks ss ≡ before ++ last ∷ []
      → live_of (take (length ss - 1) ks) (take (length ss - 1) ss) ≡ before
  live_of-others ks ss before last beside is =
      let long : length ss - 1 ≡ length before = omega (arith, length-live_of ks ss beside, ap length is, length-append before (last ∷ [])) in
      live_of-take ks ss (length ss - 1)
      ∙ (λ j. take (long j) (is j))
      ∙ take-append_seam before (last ∷ [])

  -- ---- the series at a place

  pub series-no_key : (ks : List KeyText) (ss : List (Series X)) (i : ℕ) → slice_get ks i ≡ None → slice_get (live_of ks ss) i ≡ None
  series-no_key [] ss zero none = refl
  series-no_key [] ss (suc i) none = refl
  series-no_key (k ∷ ks) [] zero none = refl
  series-no_key (k ∷ ks) [] (suc i) none = refl
  series-no_key (k ∷ ks) (s ∷ ss) zero none = cc
  series-no_key (k ∷ ks) (s ∷ ss) (suc i) none = series-no_key ks ss i none

  pub series-no_cell : (ks : List KeyText) (ss : List (Series X)) (i : ℕ) → slice_get ss i ≡ None → slice_get (live_of ks ss) i ≡ None
  series-no_cell [] ss zero none = refl
  series-no_cell [] ss (suc i) none = refl
  series-no_cell (k ∷ ks) [] zero none = refl
  series-no_cell (k ∷ ks) [] (suc i) none = refl
  series-no_cell (k ∷ ks) (s ∷ ss) zero none = cc
  series-no_cell (k ∷ ks) (s ∷ ss) (suc i) none = series-no_cell ks ss i none

  pub series-both : (ks : List KeyText) (ss : List (Series X)) (i : ℕ) (k : KeyText) (s : Series X) → slice_get ks i ≡ Some k → slice_get ss i ≡ Some s
      → slice_get (live_of ks ss) i ≡ Some (record { id = s.id; key = k; cell = s.cell })
  series-both [] ss i k s key at = cc
  series-both (l ∷ ks) [] i k s key at = cc
  series-both (l ∷ ks) (x ∷ ss) zero k s key at = let is : x ≡ s = cc in let same : l ≡ k = cc in (λ j. Some (record { id = (is j).id; key = same j; cell = (is j).cell }))
  series-both (l ∷ ks) (x ∷ ss) (suc i) k s key at = series-both ks ss i k s key at

-- the place where a found item stands
pub stands-at : {Y : Type 0} (ys : List Y) (i : ℕ) (y : Y) → true ≡ nat_lt i (length ys) → y ≡ get_or ys i y → slice_get ys i ≡ Some y
stands-at ys i y inside is = slice_get-get_or ys i y (let lt : nat_lt i (length ys) ≡ true = sym inside in grind (arith, nat_tests)) ∙ ap Some (sym is)

pub past-end : {Y : Type 0} (ys : List Y) (i : ℕ) → false ≡ nat_lt i (length ys) → slice_get ys i ≡ None
past-end ys i outside = slice_get_past ys i (let lt : nat_lt i (length ys) ≡ false = sym outside in grind (arith, nat_tests))
