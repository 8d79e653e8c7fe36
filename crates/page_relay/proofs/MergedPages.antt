-- Which lists of families merge, and that what they become can stand on a page.
use Rattle.std.proofs.Common.{◌≡◌, ℕ, zero, suc, ◌+◌, ◌<◌, Bool, true, false, List, [], ◌∷◌, ◌++◌, length, drop, get_or, refl, sym, ap, subst, ◌∙◌, append_assoc, append-nil, arith, length-append}
use Rattle.std.specs.Prelude.{Option, Some, None, IfSome, filter, flat_map, bytes_eq, codes, decimal, All, AllPairs, IsUtf8}
use Rattle.std.specs.List.{list_any}
use Rattle.std.specs.Int.{w128}
use Rattle.std.specs.Int.RustNames.{FitsSigned}
use Rattle.std.proofs.lemmas.Grind.{flat_map-append}
use Rattle.std.proofs.lemmas.List.{get_or_append_left, length-map}
use Rattle.std.proofs.lemmas.List.Elements.{All-head, All-tail, All-cons, All-nil, All-append, All-map, filter-append}
use Rattle.prom_format.specs.Pages.{Row, Family}
use Rattle.prom_format.specs.declared.families.FamilyType.{FamilyType}
use Rattle.page_relay.specs.Merge.{Numbered, NumberedRow, numbered, first_help, first_of, has_name, is_kept, is_same, numbered_from, on_page, merged, merged_family, merged_row, merged_rows_behind, rows_named, rows_of, same_row, sum_of, with_page, SumsFit, SumsFitBehind, SameType, Merges, IsMerged, IsConflict}
use Rattle.page_relay.specs.Gathering.{firsts}
use Rattle.prom_format.specs.Pages.{page_text}
use Rattle.page_relay.specs.Reading.{IsReadableLabel}
use Rattle.page_relay.specs.Streams.{IsRelayPage, IsStream}
use Rattle.page_relay.proofs.Growing.{zero_fits}
use Rattle.page_relay.proofs.MergedFamilies.{all_firsts, fits_front, merged_are, same_name}
use Rattle.page_relay.proofs.MergedRows.{same_kept, sum_push_other, sum_same, with_sum}
use Rattle.page_relay.proofs.Readable.{IsReadableRow, IsReadableFamily, decimal_utf8, readable_page, stream_readable}

-- ---- the beginning of a list that merges

types_before : (a b : List Numbered) → AllPairs SameType (a ++ b) → AllPairs SameType a
types_before a b types i j d less below =
    let within : j < length (a ++ b) = omega (arith, below, length-append a b) in
    subst (λ x. SameType x (get_or a j d)) (get_or_append_left a b d i (omega (arith, less, below)))
    (subst (λ y. SameType (get_or (a ++ b) i d) y) (get_or_append_left a b d j below) (types i j d less within))

sums_before : (a b : List Numbered) (n : Numbered) → SumsFit n.family.type (rows_named n.family.name (a ++ b)) → SumsFit n.family.type (rows_named n.family.name a)
sums_before a b n fits =
    let name = n.family.name in
    let split : rows_named name (a ++ b) ≡ rows_named name a ++ rows_named name b =
    ap (flat_map rows_of) (filter-append (has_name name) a b) ∙ flat_map-append rows_of (filter (has_name name) a) (filter (has_name name) b) in
    (fits_front n.family.type [] (rows_named name a) (rows_named name b) (subst (SumsFit n.family.type) split fits)).0

-- each beginning of a list that merges merges
pub merges_before : (a b : List Numbered) → Merges (a ++ b) → Merges a
merges_before a b merges = record {
  types = types_before a b merges.types;
  sums = λ k d below.
      let within : k < length (a ++ b) = omega (arith, below, length-append a b) in
      sums_before a b (get_or a k d)
      (subst (λ n. SumsFit n.family.type (rows_named n.family.name (a ++ b))) (get_or_append_left a b d k below) (merges.sums k d within));
}

-- pages with a conflict don't merge
pub conflict_refuses : (pages : List (List Family)) (page : ℕ) (name : List ℕ) → IsConflict pages page name → (families : List Family) → IsMerged pages families → ⊥
conflict_refuses pages page name conflict families merged =
    let whole = conflict.split ∙ sym (append_assoc conflict.before (record { page = page; family = conflict.family } ∷ []) conflict.behind) in
    conflict.refused (merges_before (conflict.before ++ record { page = page; family = conflict.family } ∷ []) conflict.behind (subst Merges whole merged.merges))

-- two elements of a list, each with what stands before it: they are the same one, or one stands before the other
data Splits (a : List Numbered) (x : Numbered) (b : List Numbered) (y : Numbered) : Type 0 where
  equal : a ≡ b → x ≡ y → Splits a x b y
  former : (rest : List Numbered) → b ≡ a ++ x ∷ rest → Splits a x b y
  latter : (rest : List Numbered) → a ≡ b ++ y ∷ rest → Splits a x b y

splits : (a b : List Numbered) (x y : Numbered) (c d : List Numbered) → a ++ x ∷ c ≡ b ++ y ∷ d → Splits a x b y
splits [] [] x y c d e = let first : x ≡ y = cc in equal refl first
splits [] (z ∷ b) x y c d e = let first : x ≡ z = cc in former b (ap (λ w. w ∷ b) (sym first))
splits (z ∷ a) [] x y c d e = let first : z ≡ y = cc in latter a (ap (λ w. w ∷ a) first)
splits (z ∷ a) (w ∷ b) x y c d e =
    let first : z ≡ w = cc in
    further z a w b x y first (splits a b x y c d (ap (drop 1) e))
  where
    further : (z : Numbered) (a : List Numbered) (w : Numbered) (b : List Numbered) (x y : Numbered) → z ≡ w → Splits a x b y → Splits (z ∷ a) x (w ∷ b) y
    further z a w b x y first (equal before here) = equal (λ j. first j ∷ before j) here
    further z a w b x y first (former rest is) = former rest (λ j. sym first j ∷ is j)
    further z a w b x y first (latter rest is) = latter rest (λ j. first j ∷ is j)

-- a list that begins with one that doesn't merge doesn't merge
no_longer : (a : List Numbered) (x : Numbered) (rest b : List Numbered) → ¬ Merges (a ++ x ∷ []) → Merges b → b ≡ a ++ x ∷ rest → ⊥
no_longer a x rest b refused merges is = refused (merges_before (a ++ x ∷ []) rest (subst Merges (is ∙ sym (append_assoc a (x ∷ []) rest)) merges))

-- pages have one conflict at most
pub one_conflict : (pages : List (List Family)) (p q : ℕ) (n m : List ℕ) → IsConflict pages p n → IsConflict pages q m → (p ≡ q) × (n ≡ m)
one_conflict pages p q n m h k =
    by (splits h.before k.before (record { page = p; family = h.family }) (record { page = q; family = k.family }) h.behind k.behind (sym h.split ∙ k.split))
  where
    by : Splits h.before (record { page = p; family = h.family }) k.before (record { page = q; family = k.family }) → (p ≡ q) × (n ≡ m)
    by (equal before here) = (ap (λ (x : Numbered). x.page) here, h.named ∙ ap (λ (x : Numbered). x.family.name) here ∙ sym k.named)
    by (former rest is) = absurd (no_longer h.before (record { page = p; family = h.family }) rest k.before h.refused k.merges_before is)
    by (latter rest is) = absurd (no_longer k.before (record { page = q; family = k.family }) rest h.before k.refused h.merges_before is)

-- ---- rows of a page that pages become

-- the sum of all values of an added row fits
sum_fits : (type : FamilyType) (row : Row) (before rows : List NumberedRow) → is_kept type row ≡ false → FitsSigned w128 (sum_of row before) → SumsFitBehind type before rows → FitsSigned w128 (sum_of row (before ++ rows))
sum_fits type row before [] adds fits sums = subst (λ l. FitsSigned w128 (sum_of row l)) (sym (append-nil before)) fits
sum_fits type row before (n ∷ rows) adds fits sums =
    subst (λ l. FitsSigned w128 (sum_of row l)) (append_assoc before (n ∷ []) rows)
    (sum_fits type row (before ++ n ∷ []) rows adds (by (same_row row n.row) refl) sums.1)
  where
    by : (s : Bool) → same_row row n.row ≡ s → FitsSigned w128 (sum_of row (before ++ n ∷ []))
    by true e = subst (FitsSigned w128) (sym (sum_same row n.row (before ++ n ∷ []) e)) (sums.0 (sym (same_kept type row n.row e) ∙ adds))
    by false e = subst (FitsSigned w128) (sym (sum_push_other row before n e)) fits

abbrev IsReadableNumbered : NumberedRow → Type 0
IsReadableNumbered n = IsReadableRow n.row

page_label : (n : ℕ) → IsReadableLabel (record { key = codes "page"; value = decimal n })
page_label n = record { named = refl; utf8 = decimal_utf8 n }

kept_readable : (n : NumberedRow) → IsReadableNumbered n → IsReadableRow (with_page n)
kept_readable n is = record {
  named = is.named;
  labels = All-cons IsReadableLabel (record { key = codes "page"; value = decimal n.page }) n.row.labels (page_label n.page) is.labels;
  fits = is.fits;
  spelled = refl;
}

row_readable : (type : FamilyType) (all before : List NumberedRow) (n : NumberedRow) (b d : Bool) → is_kept type n.row ≡ b → list_any (is_same n.row) before ≡ d → SumsFit type all → IsReadableNumbered n → All IsReadableRow (merged_row type all before n)
row_readable type all before n true d e f sums is = rw e (All-cons IsReadableRow (with_page n) [] (kept_readable n is) (All-nil IsReadableRow))
row_readable type all before n false true e f sums is = rw (e, f) (All-nil IsReadableRow)
row_readable type all before n false false e f sums is =
    let sum = with_sum n.row (sum_of n.row all) in
    let here : IsReadableRow sum = record { named = is.named; labels = is.labels; fits = sum_fits type n.row [] all e zero_fits sums; spelled = refl } in
    rw (e, f) (All-cons IsReadableRow sum [] here (All-nil IsReadableRow))

rows_readable : (type : FamilyType) (all before rows : List NumberedRow) → SumsFit type all → All IsReadableNumbered rows → All IsReadableRow (merged_rows_behind type all before rows)
rows_readable type all before [] sums are = All-nil IsReadableRow
rows_readable type all before (n ∷ rows) sums are =
    All-append IsReadableRow (merged_row type all before n) (merged_rows_behind type all (before ++ n ∷ []) rows)
    (row_readable type all before n (is_kept type n.row) (list_any (is_same n.row) before) refl refl sums (All-head IsReadableNumbered n rows are))
    (rows_readable type all (before ++ n ∷ []) rows sums (All-tail IsReadableNumbered n rows are))

-- the first row stays
some_merged : (type : FamilyType) (all rows : List NumberedRow) → 0 < length rows → 0 < length (merged_rows_behind type all [] rows)
some_merged type all [] some = absurd (omega (arith, some))
some_merged type all (n ∷ rows) some = by (is_kept type n.row) refl
  where
    by : (b : Bool) → is_kept type n.row ≡ b → 0 < length (merged_rows_behind type all [] (n ∷ rows))
    by true e = rw e (omega arith)
    by false e = rw e (omega arith)

-- ---- families of a page that pages become

abbrev IsReadableMember : Numbered → Type 0
IsReadableMember n = IsReadableFamily n.family

named_readable : (name : List ℕ) (all : List Numbered) → All IsReadableMember all → All IsReadableNumbered (rows_named name all)
named_readable name [] are = All-nil IsReadableNumbered
named_readable name (n ∷ all) are = by (has_name name n) refl (named_readable name all (All-tail IsReadableMember n all are))
  where
    here : All IsReadableNumbered (rows_of n)
    here = All-map IsReadableNumbered (λ (row : Row). record { page = n.page; row = row }) n.family.rows (All-head IsReadableMember n all are).rows

    by : (b : Bool) → has_name name n ≡ b → All IsReadableNumbered (rows_named name all) → All IsReadableNumbered (rows_named name (n ∷ all))
    by true e behind = rw e (All-append IsReadableNumbered (rows_of n) (rows_named name all) here behind)
    by false e behind = rw e behind

help_readable : (name : List ℕ) (all : List Numbered) → All IsReadableMember all → IfSome (first_help (filter (has_name name) all)) IsUtf8
help_readable name [] are = tt
help_readable name (n ∷ all) are = by (has_name name n) refl (help_readable name all (All-tail IsReadableMember n all are))
  where
    first : (help other : Option (List ℕ)) → IfSome help IsUtf8 → IfSome other IsUtf8 → IfSome (first_of help other) IsUtf8
    first None other here behind = behind
    first (Some text) other here behind = here

    by : (b : Bool) → has_name name n ≡ b → IfSome (first_help (filter (has_name name) all)) IsUtf8 → IfSome (first_help (filter (has_name name) (n ∷ all))) IsUtf8
    by true e behind = rw e (first n.family.help (first_help (filter (has_name name) all)) (All-head IsReadableMember n all are).help behind)
    by false e behind = rw e behind

some_named : (name : List ℕ) (all : List Numbered) (k : ℕ) (d : Numbered) → k < length all → bytes_eq name (get_or all k d).family.name ≡ true → 0 < length (get_or all k d).family.rows → 0 < length (rows_named name all)
some_named name [] k d below same some = absurd (omega (arith, below))
some_named name (n ∷ all) zero d below same some = rw same (omega (arith, some, length-append (rows_of n) (rows_named name all), length-map-rows n))
  where
    length-map-rows : (n : Numbered) → length (rows_of n) ≡ length n.family.rows
    length-map-rows n = length-map n.family.rows (λ (row : Row). record { page = n.page; row = row })
some_named name (n ∷ all) (suc k) d below same some = by (has_name name n) refl (some_named name all k d (omega (arith, below)) same some)
  where
    by : (b : Bool) → has_name name n ≡ b → 0 < length (rows_named name all) → 0 < length (rows_named name (n ∷ all))
    by true e behind = rw e (omega (arith, behind, length-append (rows_of n) (rows_named name all)))
    by false e behind = rw e behind

families_readable : (all : List Numbered) → Merges all → All IsReadableMember all → All (λ n. IsReadableFamily (merged_family all n.family)) all
families_readable all merges are k d below =
    let n = get_or all k d in
    let here = are k d below in
    record {
      named = here.named;
      help = help_readable n.family.name all are;
      rows = rows_readable n.family.type (rows_named n.family.name all) [] (rows_named n.family.name all) (merges.sums k d below) (named_readable n.family.name all are);
      some_row = some_merged n.family.type (rows_named n.family.name all) (rows_named n.family.name all)
          (some_named n.family.name all k d below (same_name n.family.name n.family.name refl) here.some_row);
    }

merged_readable : (all : List Numbered) → Merges all → All IsReadableMember all → All IsReadableFamily (merged all)
merged_readable all merges are =
    let P : Numbered → Type 0 = λ n. IsReadableFamily (merged_family all n.family) in
    subst (All IsReadableFamily) (sym (merged_are all [] all))
    (All-map IsReadableFamily (λ (n : Numbered). merged_family all n.family) (firsts all) (all_firsts P [] all (families_readable all merges are)))

numbered_readable : (k : ℕ) (pages : List (List Family)) → All (All IsReadableFamily) pages → All IsReadableMember (numbered_from k pages)
numbered_readable k [] are = All-nil IsReadableMember
numbered_readable k (page ∷ pages) are =
    All-append IsReadableMember (on_page k page) (numbered_from (k + 1) pages)
    (All-map IsReadableMember (λ (family : Family). record { page = k; family = family }) page (All-head (All IsReadableFamily) page pages are))
    (numbered_readable (k + 1) pages (All-tail (All IsReadableFamily) page pages are))

-- what the pages of a stream become is a page that can stand in a stream
pub merged_stands : (bytes : List ℕ) (pages : List (List Family)) (families : List Family) → IsStream bytes pages → IsMerged pages families → IsRelayPage (page_text families) families
merged_stands bytes pages families stream merged =
    let readable = merged_readable (numbered pages) merged.merges (numbered_readable 1 pages (stream_readable bytes pages stream)) in
    readable_page families (subst (All IsReadableFamily) (sym merged.are) readable)
