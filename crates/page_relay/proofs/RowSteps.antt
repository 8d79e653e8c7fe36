-- One more row: the rows so far, and the places of their keys.
use Rattle.std.proofs.Common.{◌≡◌, ◌≢◌, ℕ, Bool, true, false, cond, List, [], ◌∷◌, ◌++◌, length, set, refl, sym, ap, subst, ◌∙◌, append-nil, arith, inl, unwrap_or}
use Rattle.std.specs.Prelude.{◌&&◌, ◌+ℤ◌, Option, Some, None, slice_get}
use Rattle.std.specs.Bool.{one_answer}
use Rattle.std.specs.Cmp.Derive.Mapped.{pointwise-map}
use Rattle.std.specs.Int.{w128}
use Rattle.std.specs.Int.RustNames.{FitsSigned}
use Rattle.std.specs.List.{list_any}
use Rattle.std.specs.String.{string_eq}
use Rattle.std.proofs.Math.IntN.{+ℤ_idl}
use Rattle.metrics_core.specs.Keys.{label_eq}
use Rattle.prom_format.specs.Pages.{Row}
use Rattle.prom_format.specs.declared.families.FamilyType.{FamilyType}
use Rattle.page_relay.specs.Merge.{NumberedRow, is_kept, is_same, merged_row, merged_rows, same_row, sum_of, with_page, SumFits}
use Rattle.page_relay.specs.Gathering.{first_place}
use Rattle.page_relay.specs.Gathering.{RowKey, row_key_eq, keyed, RowsStand, AddsValue}
use Rattle.page_relay.specs.Values.{label_of}
use Rattle.page_relay.proofs.FirstPlaces.{changed_first, none_from_first, any_from_first, first_push_other, first_push_new, first_same, first_changed, changed_none, is_first}
use Rattle.page_relay.proofs.MergedRows.{same_row_is, same_others, same_kept, kept_apart, kept_stays, sum_push_same, sum_same, sum_none, plus, behind_push, unchanged, changed, any_merged, have_sums, sum_at}

pub key_eq_is : (a b : RowKey) → row_key_eq a b ≡ same_row (keyed a) (keyed b)
key_eq_is a b = ap (λ t. string_eq a.0 b.0 && t) (sym (pointwise-map label_of label_eq a.1.items b.1.items))

pub same_swap : (a b : Row) → same_row a b ≡ same_row b a
same_swap a b = one_answer (same_row a b) (same_row b a) (same_row_is a b) ((λ e. let p = (same_row_is b a).0 e in (sym p.0, sym p.1)), (λ p. (same_row_is b a).1 (sym p.0, sym p.1)))

-- the row of another key is the same as this one exactly where the keys are
same_by_key : (key q : RowKey) (row : Row) → same_row (keyed key) row ≡ true → same_row (keyed q) row ≡ row_key_eq key q
same_by_key key q row same = same_swap (keyed q) row ∙ sym (same_others (keyed key) row (keyed q) same) ∙ sym (key_eq_is key q)

some_same : (a b : Row) → Some a ≡ Some b → a ≡ b
some_same a b e = cc

module _ (type : FamilyType) (rows : List Row) (places : RowKey → Option ℕ) (before : List NumberedRow) (stand : RowsStand type rows places before) (n : NumberedRow) where
  pub kept_taken : (new : List Row) → is_kept type n.row ≡ true → new ≡ rows ++ with_page n ∷ [] → RowsStand type new places (before ++ n ∷ [])
  kept_taken new kept eq =
      let one : merged_row type (before ++ n ∷ []) before n ≡ with_page n ∷ [] = rw kept refl in
      let merged : merged_rows type (before ++ n ∷ []) ≡ merged_rows type before ++ with_page n ∷ [] =
      behind_push type (before ++ n ∷ []) [] before n ∙ (λ j. unchanged type before [] before n (inl kept) j ++ one j) in
      record {
        are = eq ∙ ap (λ l. l ++ with_page n ∷ []) stand.are ∙ sym merged;
        found = λ key adds. stand.found key adds
            ∙ sym (ap (first_place (same_row (keyed key))) eq ∙ first_push_other (same_row (keyed key)) rows (with_page n) (kept_apart type (keyed key) (with_page n) adds (kept_stays type n kept)));
      }

  module _ (key : RowKey) (same : same_row (keyed key) n.row ≡ true) (adds : is_kept type n.row ≡ false) where
    key_adds : is_kept type (keyed key) ≡ false
    key_adds = same_kept type (keyed key) n.row same ∙ adds

    first_by_key : first_place (same_row n.row) rows ≡ first_place (same_row (keyed key)) rows
    first_by_key = first_same (same_row n.row) (same_row (keyed key)) rows (λ x. sym (same_others (keyed key) n.row x same))

    any_is : list_any (same_row n.row) rows ≡ list_any (is_same n.row) before
    any_is = ap (list_any (same_row n.row)) stand.are ∙ any_merged type before [] before n.row adds refl

    -- no row of the key is there yet
    new_row : list_any (is_same n.row) before ≡ false → FitsSigned w128 n.row.value
        → (new : List Row) → new ≡ rows ++ n.row ∷ [] → (places' : RowKey → Option ℕ) → ((q : RowKey) → places' q ≡ cond (row_key_eq key q) (Some (length rows)) (places q))
        → SumFits type before n × RowsStand type new places' (before ++ n ∷ [])
    new_row none fits new eq places' updates =
        let sum : sum_of n.row (before ++ n ∷ []) ≡ n.row.value =
        sum_push_same n.row before n ((same_row_is n.row n.row).1 (refl, refl)) ∙ ap (λ s. s +ℤ n.row.value) (sum_none n.row before none) ∙ +ℤ_idl n.row.value in
        let one : merged_row type (before ++ n ∷ []) before n ≡ n.row ∷ [] = rw (adds, none) (ap (λ v. record { name = n.row.name; labels = n.row.labels; value = v } ∷ []) sum) in
        let none_there : list_any (same_row n.row) (merged_rows type before) ≡ false = any_merged type before [] before n.row adds refl ∙ none in
        let merged : merged_rows type (before ++ n ∷ []) ≡ merged_rows type before ++ n.row ∷ [] =
        behind_push type (before ++ n ∷ []) [] before n
        ∙ (λ j. (changed type before [] before n adds refl ∙ changed_none (same_row n.row) (plus n.row.value) (merged_rows type before) none_there) j ++ one j) in
        let found : (q : RowKey) (b : Bool) → row_key_eq key q ≡ b → is_kept type (keyed q) ≡ false → places' q ≡ first_place (same_row (keyed q)) new = λ q b. (elim b as (λ b. row_key_eq key q ≡ b → is_kept type (keyed q) ≡ false → places' q ≡ first_place (same_row (keyed q)) new) [
          | true ↦ λ e adds_q.
              let same_q : same_row (keyed q) n.row ≡ true = same_by_key key q n.row same ∙ e in
              let none_q : list_any (same_row (keyed q)) rows ≡ false = (λ j. list_any (λ x. same_others (keyed q) n.row x same_q j) rows) ∙ any_is ∙ none in
              updates q ∙ ap (λ t. cond t (Some (length rows)) (places q)) e
              ∙ sym (ap (first_place (same_row (keyed q))) eq ∙ first_push_new (same_row (keyed q)) rows n.row none_q same_q)
          | false ↦ λ e adds_q.
              let other_q : same_row (keyed q) n.row ≡ false = same_by_key key q n.row same ∙ e in
              updates q ∙ ap (λ t. cond t (Some (length rows)) (places q)) e ∙ stand.found q adds_q
              ∙ sym (ap (first_place (same_row (keyed q))) eq ∙ first_push_other (same_row (keyed q)) rows n.row other_q)
        ]) in (
          λ _. subst (FitsSigned w128) (sym sum) fits,
          record { are = eq ∙ ap (λ l. l ++ n.row ∷ []) stand.are ∙ sym merged; found = λ q adds_q. found q (row_key_eq key q) refl adds_q },
        )

    -- the place where the key is looked up, where it isn't there
    pub absent_by : (o : Option ℕ) (place : ℕ) → first_place (same_row (keyed key)) rows ≡ o → place ≡ unwrap_or o (length rows) → place ≡ length rows → list_any (is_same n.row) before ≡ false
    absent_by None place found at next = sym any_is ∙ none_from_first (same_row n.row) rows (first_by_key ∙ found)
    absent_by (Some i) place found at next =
        let first = is_first (same_row (keyed key)) rows i found in
        absurd (omega (arith, first.within))

    pub new_taken : (place : ℕ) → place ≡ unwrap_or (places key) (length rows) → place ≡ length rows → FitsSigned w128 n.row.value
        → (new : List Row) → new ≡ rows ++ n.row ∷ [] → (places' : RowKey → Option ℕ) → ((q : RowKey) → places' q ≡ cond (row_key_eq key q) (Some place) (places q))
        → SumFits type before n × RowsStand type new places' (before ++ n ∷ [])
    new_taken place at next fits new eq places' updates =
        let found = stand.found key key_adds in
        new_row (absent_by (first_place (same_row (keyed key)) rows) place refl (at ∙ ap (λ o. unwrap_or o (length rows)) found) next) fits new eq places'
        (λ q. updates q ∙ ap (λ p. cond (row_key_eq key q) (Some p) (places q)) next)

    -- the row of the key that is there
    pub found_by : (o : Option ℕ) (place : ℕ) → first_place (same_row (keyed key)) rows ≡ o → place ≡ unwrap_or o (length rows) → place ≢ length rows → first_place (same_row (keyed key)) rows ≡ Some place
    found_by None place found at other = absurd (other at)
    found_by (Some i) place found at other = found ∙ ap Some (sym at)

    -- what the value of the row becomes
    sum_is : (place : ℕ) (row : Row) → first_place (same_row (keyed key)) rows ≡ Some place → slice_get rows place ≡ Some row → sum_of n.row (before ++ n ∷ []) ≡ row.value +ℤ n.row.value
    sum_is place row found at =
        let first = is_first (same_row (keyed key)) rows place found in
        let item : first.item ≡ row = some_same first.item row (sym first.at ∙ at) in
        let same_item : same_row n.row row ≡ true = sym (same_others (keyed key) n.row row same) ∙ ap (same_row (keyed key)) (sym item) ∙ first.passes in
        let adds_row : is_kept type row ≡ false = sym (same_kept type n.row row same_item) ∙ adds in
        let there : slice_get (merged_rows type before) place ≡ Some row = ap (λ l. slice_get l place) (sym stand.are) ∙ at in
        let value : row.value ≡ sum_of n.row before = sum_at type before (merged_rows type before) place row (have_sums type before [] before) there adds_row ∙ sym (sum_same n.row row before same_item) in
        sum_push_same n.row before n ((same_row_is n.row n.row).1 (refl, refl)) ∙ ap (λ s. s +ℤ n.row.value) (sym value)

    there : (place : ℕ) → first_place (same_row (keyed key)) rows ≡ Some place → (new : List Row) → AddsValue rows new place n.row.value true
        → (places' : RowKey → Option ℕ) → ((q : RowKey) → places' q ≡ cond (row_key_eq key q) (Some place) (places q))
        → SumFits type before n × RowsStand type new places' (before ++ n ∷ [])
    there place found new (row, at, fits, eq) places' updates =
        let first = is_first (same_row n.row) rows place (first_by_key ∙ found) in
        let item : first.item ≡ row = some_same first.item row (sym first.at ∙ at) in
        let some : list_any (is_same n.row) before ≡ true = sym any_is ∙ any_from_first (same_row n.row) rows place (first_by_key ∙ found) in
        let one : merged_row type (before ++ n ∷ []) before n ≡ [] = rw (adds, some) refl in
        let new_is : new ≡ changed_first (same_row n.row) (plus n.row.value) rows = eq ∙ ap (λ r. set rows place (plus n.row.value r)) (sym item) ∙ sym (first.written (plus n.row.value)) in
        let merged : merged_rows type (before ++ n ∷ []) ≡ changed_first (same_row n.row) (plus n.row.value) (merged_rows type before) =
        behind_push type (before ++ n ∷ []) [] before n ∙ (λ j. changed type before [] before n adds refl j ++ one j) ∙ append-nil (changed_first (same_row n.row) (plus n.row.value) (merged_rows type before)) in
        let stays : (q : RowKey) → first_place (same_row (keyed q)) new ≡ first_place (same_row (keyed q)) rows =
        λ q. ap (first_place (same_row (keyed q))) new_is ∙ first_changed (same_row n.row) (same_row (keyed q)) (plus n.row.value) rows (λ x. refl) in
        let found_q : (q : RowKey) (b : Bool) → row_key_eq key q ≡ b → is_kept type (keyed q) ≡ false → places' q ≡ first_place (same_row (keyed q)) rows = λ q b. (elim b as (λ b. row_key_eq key q ≡ b → is_kept type (keyed q) ≡ false → places' q ≡ first_place (same_row (keyed q)) rows) [
          | true ↦ λ e adds_q.
              let same_q : same_row (keyed key) (keyed q) ≡ true = sym (key_eq_is key q) ∙ e in
              updates q ∙ ap (λ t. cond t (Some place) (places q)) e ∙ sym found ∙ first_same (same_row (keyed key)) (same_row (keyed q)) rows (λ x. same_others (keyed key) (keyed q) x same_q)
          | false ↦ λ e adds_q. updates q ∙ ap (λ t. cond t (Some place) (places q)) e ∙ stand.found q adds_q
        ]) in (
          λ _. subst (FitsSigned w128) (sym (sum_is place row found at)) fits,
          record { are = new_is ∙ ap (changed_first (same_row n.row) (plus n.row.value)) stand.are ∙ sym merged; found = λ q adds_q. found_q q (row_key_eq key q) refl adds_q ∙ sym (stays q) },
        )

    not_there : (place : ℕ) → first_place (same_row (keyed key)) rows ≡ Some place → (new : List Row) → AddsValue rows new place n.row.value false → ¬ SumFits type before n
    not_there place found new unfit fits =
        let first = is_first (same_row (keyed key)) rows place found in
        unfit first.item first.at (subst (FitsSigned w128) (sum_is place first.item found first.at) (fits adds))

    pub value_taken : (place : ℕ) → place ≡ unwrap_or (places key) (length rows) → place ≢ length rows → (new : List Row) → AddsValue rows new place n.row.value true
        → (places' : RowKey → Option ℕ) → ((q : RowKey) → places' q ≡ cond (row_key_eq key q) (Some place) (places q))
        → SumFits type before n × RowsStand type new places' (before ++ n ∷ [])
    value_taken place at other new added places' updates =
        there place (found_by (first_place (same_row (keyed key)) rows) place refl (at ∙ ap (λ o. unwrap_or o (length rows)) (stand.found key key_adds)) other) new added places' updates

    pub value_refused : (place : ℕ) → place ≡ unwrap_or (places key) (length rows) → place ≢ length rows → (new : List Row) → AddsValue rows new place n.row.value false → ¬ SumFits type before n
    value_refused place at other new unfit =
        not_there place (found_by (first_place (same_row (keyed key)) rows) place refl (at ∙ ap (λ o. unwrap_or o (length rows)) (stand.found key key_adds)) other) new unfit
