-- One more row, one more family: what the code has so far.
use Rattle.std.proofs.Common.{◌≡◌, ◌≢◌, ℕ, ◌<◌, Bool, true, false, cond, List, [], ◌∷◌, ◌++◌, map, length, set, refl, sym, ap, subst, ◌∙◌, append_assoc, append-nil, arith, unwrap_or}
use Rattle.std.specs.Prelude.{Result, Ok, Err, IfOk, Option, Some, None, option_map, string_bytes, bytes_eq, slice_get, filter, flat_map, All}
use Rattle.std.specs.Cmp.Lexicographic.{nat_list_eq_equiv}
use Rattle.std.specs.Int.{w128}
use Rattle.std.specs.Int.RustNames.{FitsSigned}
use Rattle.std.specs.List.{list_any}
use Rattle.std.specs.String.{string_eq}
use Rattle.std.specs.declared.string.String.{String}
use Rattle.std.specs.declared.alloc.Global.{Global}
use Rattle.std.proofs.lemmas.Bool.{false≢true}
use Rattle.std.proofs.lemmas.List.{length-map}
use Rattle.std.proofs.lemmas.List.Concat.{flat_map-append}
use Rattle.std.proofs.lemmas.List.Elements.{All-head, All-tail, All-cons, All-nil, All-push}
use Rattle.indexmap.specs.IndexMap.{get}
use Rattle.prom_format.specs.declared.families.FamilyType.{FamilyType}
use Rattle.page_relay.specs.Gathering.{Alongside, RowKey, row_key_eq, keyed, AddsValue, RowsStand, RowsSoFar, TakesRow, TakesRows, Stands, TakesMember, StandsFor, FamiliesStand, IsPlaced, HasPlace, TakesFamily, family_so_far, first_place, firsts}
use Rattle.page_relay.specs.Merge.{Numbered, NumberedRow, first_help, first_of, has_name, is_kept, same_row, with_page, merged, merged_family, merged_rows, rows_named, rows_of, SameType, SumsFit, Merges}
use Rattle.page_relay.specs.Values.{row_of}
use Rattle.page_relay.specs.declared.gathering.Gathered.{Gathered}
use Rattle.page_relay.specs.declared.gathering.GatheredRows.{GatheredRows}
use Rattle.page_relay.specs.declared.merging.Merging.{Merging}
use Rattle.page_relay.proofs.FirstPlaces.{none_from_first, any_from_first, first_push_new, first_push_other, is_first}
use Rattle.page_relay.proofs.RowSteps.{kept_taken, new_taken, value_taken, value_refused}
use Rattle.page_relay.proofs.MergedFamilies.{fits_push, fits_front, name_is, same_name, firsts_push, merged_are, any_firsts, firsts_distinct, all_firsts, all_at, along_push, along_length, along_at, along_set, filter_same, filter_other, filter_none, merges_push, merges_types, merges_sums}

pub ok_map : {T E : Type 0} (r : Result T E) (P Q : T → Type 0) → ((v : T) → P v → Q v) → IfOk r P → IfOk r Q
ok_map (Ok v) P Q f h = f v h
ok_map (Err e) P Q f h = h

-- ---- rows

pub rows_start : (type : FamilyType) (rows : GatheredRows) → TakesRows type rows rows [] true
rows_start type rows before stand fits = (subst (SumsFit type) (sym (append-nil before)) fits, subst (RowsSoFar type rows) (sym (append-nil before)) stand)

pub rows_more : (type : FamilyType) (old mid new : GatheredRows) (rows : List NumberedRow) (n : NumberedRow) → TakesRows type old mid rows true → TakesRow type mid new n true → TakesRows type old new (rows ++ n ∷ []) true
rows_more type old mid new rows n taken one before stand fits =
    let so_far = taken before stand fits in
    let more = one (before ++ rows) so_far.1 in (
      subst (SumsFit type) (append_assoc before rows (n ∷ [])) (fits_push type [] (before ++ rows) n so_far.0 more.0),
      subst (RowsSoFar type new) (append_assoc before rows (n ∷ [])) more.1,
    )

pub rows_refused : (type : FamilyType) (old mid new last : GatheredRows) (rows rest : List NumberedRow) (n : NumberedRow) → TakesRows type old mid rows true → TakesRow type mid new n false → TakesRows type old last (rows ++ n ∷ rest) false
rows_refused type old mid new last rows rest n taken one before stand fits =
    let whole : SumsFit type ((before ++ rows) ++ n ∷ rest) = subst (SumsFit type) (sym (append_assoc before rows (n ∷ rest))) fits in
    let parts = fits_front type [] (before ++ rows) (n ∷ rest) whole in
    let first = (fits_front type [] before rows parts.0).0 in
    one (before ++ rows) (taken before stand first).1 parts.1.0

module _ (type : FamilyType) (old new : GatheredRows) (n : NumberedRow) where
  pub kept_step : is_kept type n.row ≡ true → map row_of new.rows.items ≡ map row_of old.rows.items ++ with_page n ∷ [] → new.places ≡ old.places → TakesRow type old new n true
  kept_step kept rows places before stand = (
    λ adds. absurd (false≢true (sym adds ∙ kept)),
    subst (λ p. RowsStand type (map row_of new.rows.items) (get row_key_eq p) (before ++ n ∷ [])) (sym places)
        (kept_taken type (map row_of old.rows.items) (get row_key_eq old.places) before stand n (map row_of new.rows.items) kept rows),
  )

  module _ (key : RowKey) (same : same_row (keyed key) n.row ≡ true) (adds : is_kept type n.row ≡ false) (place : ℕ) (at : place ≡ unwrap_or (get row_key_eq old.places key) (length old.rows.items))
      (updates : (q : RowKey) → get row_key_eq new.places q ≡ cond (row_key_eq key q) (Some place) (get row_key_eq old.places q)) where
    as_long : length old.rows.items ≡ length (map row_of old.rows.items)
    as_long = sym (length-map old.rows.items row_of)

    pub new_step : place ≡ length old.rows.items → FitsSigned w128 n.row.value → map row_of new.rows.items ≡ map row_of old.rows.items ++ n.row ∷ [] → TakesRow type old new n true
    new_step next fits rows before stand =
        new_taken type (map row_of old.rows.items) (get row_key_eq old.places) before stand n key same adds place
        (at ∙ ap (unwrap_or (get row_key_eq old.places key)) as_long) (next ∙ as_long) fits (map row_of new.rows.items) rows (get row_key_eq new.places) updates

    pub value_step : place ≢ length old.rows.items → (b : Bool) → AddsValue (map row_of old.rows.items) (map row_of new.rows.items) place n.row.value b → TakesRow type old new n b
    value_step other true added = λ before stand.
        value_taken type (map row_of old.rows.items) (get row_key_eq old.places) before stand n key same adds place
        (at ∙ ap (unwrap_or (get row_key_eq old.places key)) as_long) (λ e. other (e ∙ sym as_long)) (map row_of new.rows.items) added (get row_key_eq new.places) updates
    value_step other false unfit = λ before stand.
        value_refused type (map row_of old.rows.items) (get row_key_eq old.places) before stand n key same adds place
        (at ∙ ap (unwrap_or (get row_key_eq old.places key)) as_long) (λ e. other (e ∙ sym as_long)) (map row_of new.rows.items) unfit

-- ---- families of one name

first_none : (help : Option (List ℕ)) → first_of help None ≡ help
first_none None = refl
first_none (Some text) = refl

first_assoc : (a b d : Option (List ℕ)) → first_of a (first_of b d) ≡ first_of (first_of a b) d
first_assoc None b d = refl
first_assoc (Some text) b d = refl

help_push : (group : List Numbered) (n : Numbered) → first_help (group ++ n ∷ []) ≡ first_of (first_help group) n.family.help
help_push [] n = first_none n.family.help
help_push (m ∷ group) n = ap (first_of m.family.help) (help_push group n) ∙ first_assoc m.family.help (first_help group) n.family.help

rows_push : (group : List Numbered) (n : Numbered) → flat_map rows_of (group ++ n ∷ []) ≡ flat_map rows_of group ++ rows_of n
rows_push group n = flat_map-append rows_of group (n ∷ []) ∙ ap (λ l. flat_map rows_of group ++ l) (append-nil (rows_of n))

pub member_taken : (old new : Gathered) (n : Numbered) → n.family.type ≡ old.shape → new.shape ≡ old.shape → string_bytes new.name ≡ string_bytes old.name
    → option_map string_bytes new.help ≡ first_of (option_map string_bytes old.help) n.family.help → TakesRows old.shape old.rows new.rows (rows_of n) true → TakesMember old new n true
member_taken old new n type shape name help taken group stand =
    let t = taken (flat_map rows_of group) stand.rows stand.sums in
    let types : All (λ m. m.family.type ≡ old.shape) (group ++ n ∷ []) = All-push (λ (m : Numbered). m.family.type ≡ old.shape) group n stand.types type in (
      record {
        help = help ∙ ap (λ h. first_of h n.family.help) stand.help ∙ sym (help_push group n);
        types = subst (λ s. All (λ m. m.family.type ≡ s) (group ++ n ∷ [])) (sym shape) types;
        sums = subst (λ s. SumsFit s (flat_map rows_of (group ++ n ∷ []))) (sym shape) (subst (SumsFit old.shape) (sym (rows_push group n)) t.0);
        rows = subst (λ s. RowsSoFar s new.rows (flat_map rows_of (group ++ n ∷ []))) (sym shape) (subst (RowsSoFar old.shape new.rows) (sym (rows_push group n)) t.1);
      },
      type,
      shape,
      name,
    )

pub member_refused : (old new last : Gathered) (n : Numbered) → TakesRows old.shape old.rows new.rows (rows_of n) false → TakesMember old last n false
member_refused old new last n refused group stand type sums = refused (flat_map rows_of group) stand.rows (subst (SumsFit old.shape) (rows_push group n) sums)

pub member_step : (old new : Gathered) (n : Numbered) → n.family.type ≡ old.shape → new.shape ≡ old.shape → string_bytes new.name ≡ string_bytes old.name
    → option_map string_bytes new.help ≡ first_of (option_map string_bytes old.help) n.family.help → (b : Bool) → TakesRows old.shape old.rows new.rows (rows_of n) b → TakesMember old new n b
member_step old new n type shape name help true taken = member_taken old new n type shape name help taken
member_step old new n type shape name help false refused = member_refused old new new n refused

-- ---- all families

swap : (a b : List ℕ) (x : Bool) → bytes_eq a b ≡ x → bytes_eq b a ≡ x
swap a b x e = sym (nat_list_eq_equiv.symm a b) ∙ e

filtered_step : (P : Numbered → Type 0) (name : List ℕ) (m : Numbered) (all : List Numbered) (b : Bool) → bytes_eq name m.family.name ≡ b → All P (filter (has_name name) (m ∷ all))
    → (bytes_eq name m.family.name ≡ true → P m) × All P (filter (has_name name) all)
filtered_step P name m all true e h = let here = rw e at h in ((λ _. All-head P m (filter (has_name name) all) here), All-tail P m (filter (has_name name) all) here)
filtered_step P name m all false e h = let here = rw e at h in ((λ t. absurd (false≢true (sym e ∙ t))), here)

filtered : (P : Numbered → Type 0) (name : List ℕ) (all : List Numbered) → All P (filter (has_name name) all) → All (λ m. bytes_eq name m.family.name ≡ true → P m) all
filtered P name [] h = All-nil (λ m. bytes_eq name m.family.name ≡ true → P m)
filtered P name (m ∷ all) h =
    let s = filtered_step P name m all (bytes_eq name m.family.name) refl h in
    All-cons (λ m. bytes_eq name m.family.name ≡ true → P m) m all s.0 (filtered P name all s.1)

to_types : (n : Numbered) (all : List Numbered) → All (λ m. bytes_eq n.family.name m.family.name ≡ true → m.family.type ≡ n.family.type) all → All (λ m. SameType m n) all
to_types n [] h = All-nil (λ m. SameType m n)
to_types n (m ∷ all) h =
    All-cons (λ m. SameType m n) m all
    (λ e. All-head (λ m. bytes_eq n.family.name m.family.name ≡ true → m.family.type ≡ n.family.type) m all h (same_name n.family.name m.family.name (sym e)))
    (to_types n all (All-tail (λ m. bytes_eq n.family.name m.family.name ≡ true → m.family.type ≡ n.family.type) m all h))

module _ (mid : Merging) (before : List Numbered) (n : Numbered) (place : ℕ) (placed : IsPlaced mid before n place) (g g' : Gathered) (at : slice_get mid.families.items place ≡ Some g) where
  -- the family that stands there is that of the name
  named : StandsFor before g (is_first (has_name n.family.name) (firsts (before ++ n ∷ [])) place placed.there).item
  named = let first = is_first (has_name n.family.name) (firsts (before ++ n ∷ [])) place placed.there in along_at (StandsFor before) mid.families.items (firsts (before ++ n ∷ [])) place g first.item placed.are at first.at

  first_name : n.family.name ≡ (is_first (has_name n.family.name) (firsts (before ++ n ∷ [])) place placed.there).item.family.name
  first_name = let first = is_first (has_name n.family.name) (firsts (before ++ n ∷ [])) place placed.there in name_is n.family.name first.item.family.name first.passes

  group : Stands g (filter (has_name n.family.name) before)
  group = subst (λ name. Stands g (filter (has_name name) before)) (sym first_name) named.group

  all_named : filter (has_name n.family.name) (before ++ n ∷ []) ≡ filter (has_name n.family.name) before ++ n ∷ []
  all_named = filter_same n.family.name before n (same_name n.family.name n.family.name refl)

  pub family_taken : (old new : Merging) → FamiliesStand old before → TakesMember g g' n true → new.families.items ≡ set mid.families.items place g' → get string_eq new.places ≡ get string_eq mid.places → FamiliesStand new (before ++ n ∷ [])
  family_taken old new stand taken families places =
      let t = taken (filter (has_name n.family.name) before) group in
      let types : All (λ m. m.family.type ≡ n.family.type) (filter (has_name n.family.name) before) = subst (λ s. All (λ m. m.family.type ≡ s) (filter (has_name n.family.name) before)) (sym t.1) group.types in
      let sums : SumsFit n.family.type (rows_named n.family.name (before ++ n ∷ [])) =
      subst (λ s. SumsFit s (rows_named n.family.name (before ++ n ∷ []))) (t.2 ∙ sym t.1) (subst (λ l. SumsFit g'.shape (flat_map rows_of l)) (sym all_named) t.0.sums) in
      let stays : (x : Gathered) (m : Numbered) → bytes_eq n.family.name m.family.name ≡ false → StandsFor before x m → StandsFor (before ++ n ∷ []) x m = λ x m e for. record {
        name = for.name;
        type = for.type;
        group = subst (Stands x) (sym (filter_other m.family.name before n (swap n.family.name m.family.name false e))) for.group;
      } in
      let written : (m : Numbered) → bytes_eq n.family.name m.family.name ≡ true → StandsFor before g m → StandsFor (before ++ n ∷ []) g' m = λ m e for. record {
        name = t.3 ∙ for.name;
        type = t.2 ∙ for.type;
        group = subst (λ name. Stands g' (filter (has_name name) (before ++ n ∷ []))) (name_is n.family.name m.family.name e) (subst (Stands g') (sym all_named) t.0);
      } in
      record {
        merges = merges_push before n stand.merges (to_types n before (filtered (λ (m : Numbered). m.family.type ≡ n.family.type) n.family.name before types)) sums;
        are = subst (λ l. Alongside (StandsFor (before ++ n ∷ [])) l (firsts (before ++ n ∷ []))) (sym families)
            (along_set (StandsFor before) (StandsFor (before ++ n ∷ [])) n.family.name mid.families.items (firsts (before ++ n ∷ [])) place g g' stays written (firsts_distinct [] (before ++ n ∷ [])) placed.are placed.there at);
        found = λ name. ap (λ f. f name) places ∙ placed.found name;
      }

  pub family_refused : TakesMember g g' n false → ¬ Merges (before ++ n ∷ [])
  family_refused refused merges =
      let first = is_first (has_name n.family.name) (firsts (before ++ n ∷ [])) place placed.there in
      let types : All (λ m. SameType m n) (before ++ n ∷ []) = All-push (λ m. SameType m n) before n (merges_types before n merges) (λ _. refl) in
      let type : first.item.family.type ≡ n.family.type = all_at (λ m. SameType m n) (firsts (before ++ n ∷ [])) place first.item (all_firsts (λ m. SameType m n) [] (before ++ n ∷ []) types) first.at (sym first_name) in
      let shape : n.family.type ≡ g.shape = sym (named.type ∙ type) in
      refused (filter (has_name n.family.name) before) group shape
      (subst (λ l. SumsFit g.shape (flat_map rows_of l)) all_named (subst (λ s. SumsFit s (rows_named n.family.name (before ++ n ∷ []))) shape (merges_sums before n merges)))

pub place_within : (mid : Merging) (before : List Numbered) (n : Numbered) (place : ℕ) → IsPlaced mid before n place → place < length mid.families.items
place_within mid before n place placed =
    let first = is_first (has_name n.family.name) (firsts (before ++ n ∷ [])) place placed.there in
    let long = along_length (StandsFor before) mid.families.items (firsts (before ++ n ∷ [])) placed.are in
    omega (arith, first.within)

pub family_step : (old mid new : Merging) (n : Numbered) (place : ℕ) (g g' : Gathered) → HasPlace old mid n.family place → slice_get mid.families.items place ≡ Some g
    → new.families.items ≡ set mid.families.items place g' → get string_eq new.places ≡ get string_eq mid.places → (b : Bool) → TakesMember g g' n b → TakesFamily old new n b
family_step old mid new n place g g' has at families places true taken = λ before stand. family_taken mid before n place (has n.page before stand) g g' at old new stand taken families places
family_step old mid new n place g g' has at families places false refused = λ before stand. family_refused mid before n place (has n.page before stand) g g' at refused

-- ---- the place of a family

module _ (old new : Merging) (before : List Numbered) (stand : FamiliesStand old before) (n : Numbered) (name : String Global) (place : ℕ)
    (is_name : string_bytes name ≡ n.family.name) (at : place ≡ unwrap_or (get string_eq old.places name) (length old.families.items))
    (updates : (q : String Global) → get string_eq new.places q ≡ cond (string_eq name q) (Some place) (get string_eq old.places q)) where
  found_name : get string_eq old.places name ≡ first_place (has_name n.family.name) (firsts before)
  found_name = stand.found name ∙ ap (λ k. first_place (has_name k) (firsts before)) is_name

  long : length old.families.items ≡ length (firsts before)
  long = along_length (StandsFor before) old.families.items (firsts before) stand.are

  any_first : list_any (has_name n.family.name) (firsts before) ≡ list_any (has_name n.family.name) before
  any_first = any_firsts n.family.name [] before refl

  pushed : (b : Bool) → list_any (has_name n.family.name) before ≡ b → firsts (before ++ n ∷ []) ≡ firsts before ++ cond b [] (n ∷ [])
  pushed b e = firsts_push [] before n ∙ ap (λ t. firsts before ++ cond t [] (n ∷ [])) e

  absent_by : (o : Option ℕ) → first_place (has_name n.family.name) (firsts before) ≡ o → place ≡ unwrap_or o (length old.families.items) → place ≡ length old.families.items → list_any (has_name n.family.name) (firsts before) ≡ false
  absent_by None found e next = none_from_first (has_name n.family.name) (firsts before) found
  absent_by (Some i) found e next =
      let first = is_first (has_name n.family.name) (firsts before) i found in
      absurd (omega (arith, first.within, long))

  found_by : (o : Option ℕ) → first_place (has_name n.family.name) (firsts before) ≡ o → place ≡ unwrap_or o (length old.families.items) → place ≢ length old.families.items → first_place (has_name n.family.name) (firsts before) ≡ Some place
  found_by None found e other = absurd (other e)
  found_by (Some i) found e other = found ∙ ap Some (sym e)

  is_at : place ≡ unwrap_or (first_place (has_name n.family.name) (firsts before)) (length old.families.items)
  is_at = at ∙ ap (λ o. unwrap_or o (length old.families.items)) found_name

  pub placed_new : (g : Gathered) → place ≡ length old.families.items → new.families.items ≡ old.families.items ++ g ∷ [] → StandsFor before g n → IsPlaced new before n place
  placed_new g next families for =
      let none = absent_by (first_place (has_name n.family.name) (firsts before)) refl is_at next in
      let firsts_are = pushed false (sym any_first ∙ none) in
      let next_place : place ≡ length (firsts before) = next ∙ long in
      let found : (q : String Global) (b : Bool) → string_eq name q ≡ b → get string_eq new.places q ≡ first_place (has_name (string_bytes q)) (firsts (before ++ n ∷ [])) =
      λ q b. (elim b as (λ b. string_eq name q ≡ b → get string_eq new.places q ≡ first_place (has_name (string_bytes q)) (firsts (before ++ n ∷ []))) [
        | true ↦ λ e.
            let same : string_bytes name ≡ string_bytes q = name_is (string_bytes name) (string_bytes q) e in
            let none_q : list_any (has_name (string_bytes q)) (firsts before) ≡ false = ap (λ k. list_any (has_name k) (firsts before)) (sym same ∙ is_name) ∙ none in
            updates q ∙ ap (λ t. cond t (Some place) (get string_eq old.places q)) e ∙ ap Some next_place
            ∙ sym (ap (first_place (has_name (string_bytes q))) firsts_are ∙ first_push_new (has_name (string_bytes q)) (firsts before) n none_q (same_name (string_bytes q) n.family.name (sym same ∙ is_name)))
        | false ↦ λ e.
            let other : bytes_eq (string_bytes q) n.family.name ≡ false = swap n.family.name (string_bytes q) false (ap (λ k. bytes_eq k (string_bytes q)) (sym is_name) ∙ e) in
            updates q ∙ ap (λ t. cond t (Some place) (get string_eq old.places q)) e ∙ stand.found q
            ∙ sym (ap (first_place (has_name (string_bytes q))) firsts_are ∙ first_push_other (has_name (string_bytes q)) (firsts before) n other)
      ]) in
      record {
        are = subst (λ l. Alongside (StandsFor before) l (firsts (before ++ n ∷ []))) (sym families)
            (subst (Alongside (StandsFor before) (old.families.items ++ g ∷ [])) (sym firsts_are) (along_push (StandsFor before) old.families.items (firsts before) g n stand.are for));
        found = λ q. found q (string_eq name q) refl;
        there = ap (first_place (has_name n.family.name)) firsts_are ∙ first_push_new (has_name n.family.name) (firsts before) n none (same_name n.family.name n.family.name refl) ∙ ap Some (sym next_place);
      }

  pub new_stands : (g : Gathered) → place ≡ length old.families.items → string_bytes g.name ≡ n.family.name → g.shape ≡ n.family.type → option_map string_bytes g.help ≡ None → RowsSoFar g.shape g.rows [] → StandsFor before g n
  new_stands g next name type help rows =
      let none = sym any_first ∙ absent_by (first_place (has_name n.family.name) (firsts before)) refl is_at next in
      let start : Stands g [] = record { help = help; types = All-nil (λ (m : Numbered). m.family.type ≡ g.shape); sums = tt; rows = rows } in
      record { name = name; type = type; group = subst (Stands g) (sym (filter_none n.family.name before none)) start }

  pub placed_there : place ≢ length old.families.items → new.families.items ≡ old.families.items → IsPlaced new before n place
  placed_there other families =
      let there = found_by (first_place (has_name n.family.name) (firsts before)) refl is_at other in
      let some = sym any_first ∙ any_from_first (has_name n.family.name) (firsts before) place there in
      let firsts_are : firsts (before ++ n ∷ []) ≡ firsts before = pushed true some ∙ append-nil (firsts before) in
      let found : (q : String Global) (b : Bool) → string_eq name q ≡ b → get string_eq new.places q ≡ first_place (has_name (string_bytes q)) (firsts before) =
      λ q b. (elim b as (λ b. string_eq name q ≡ b → get string_eq new.places q ≡ first_place (has_name (string_bytes q)) (firsts before)) [
        | true ↦ λ e.
            let same : string_bytes name ≡ string_bytes q = name_is (string_bytes name) (string_bytes q) e in
            updates q ∙ ap (λ t. cond t (Some place) (get string_eq old.places q)) e ∙ sym there ∙ ap (λ k. first_place (has_name k) (firsts before)) (sym is_name ∙ same)
        | false ↦ λ e. updates q ∙ ap (λ t. cond t (Some place) (get string_eq old.places q)) e ∙ stand.found q
      ]) in
      record {
        are = subst (λ l. Alongside (StandsFor before) l (firsts (before ++ n ∷ []))) (sym families) (subst (Alongside (StandsFor before) old.families.items) (sym firsts_are) stand.are);
        found = λ q. found q (string_eq name q) refl ∙ sym (ap (first_place (has_name (string_bytes q))) firsts_are);
        there = ap (first_place (has_name n.family.name)) firsts_are ∙ there;
      }

-- ---- the merged families

family_is : (all : List Numbered) (g : Gathered) (n : Numbered) → StandsFor all g n → family_so_far g ≡ merged_family all n.family
family_is all g n for =
    λ j. record { help = for.group.help j; name = for.name j; type = for.type j; rows = (for.group.rows.are ∙ ap (λ t. merged_rows t (rows_named n.family.name all)) for.type) j }

families_are : (all families : List Numbered) (gs : List Gathered) → Alongside (StandsFor all) gs families → map family_so_far gs ≡ map (λ n. merged_family all n.family) families
families_are all [] [] along = refl
families_are all [] (g ∷ gs) along = absurd along
families_are all (n ∷ families) [] along = absurd along
families_are all (n ∷ families) (g ∷ gs) along = λ j. family_is all g n along.0 j ∷ families_are all families gs along.1 j

pub families_merged : (merging : Merging) (all : List Numbered) → FamiliesStand merging all → map family_so_far merging.families.items ≡ merged all
families_merged merging all stand = families_are all (firsts all) merging.families.items stand.are ∙ sym (merged_are all [] all)
