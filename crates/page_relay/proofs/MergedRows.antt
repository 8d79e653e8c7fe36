-- What rows of one name become, and what one more row makes of that.
use Rattle.std.proofs.Common.{◌≡◌, ℕ, zero, suc, Bool, true, false, List, [], ◌∷◌, ◌++◌, refl, sym, ap, subst, ◌∙◌, append_assoc, append-nil, ◌⊎◌, inl, inr}
use Rattle.std.specs.Prelude.{⊤, ◌||◌, ◌&&◌, ℤ, pos, ◌+ℤ◌, codes, bytes_eq, decimal, filter, fold, Decides, slice_get, Some}
use Rattle.std.specs.Cmp.Lexicographic.{pointwise}
use Rattle.std.specs.List.{list_any}
use Rattle.std.proofs.lemmas.Bool.{false≢true, true≢false, or_left}
use Rattle.std.proofs.lemmas.Bool.Decides.{Decides-and}
use Rattle.std.proofs.lemmas.List.Elements.{filter-append}
use Rattle.std.proofs.lemmas.List.Folds.{list_any-append}
use Rattle.std.proofs.lemmas.List.Sums.{fold_push}
use Rattle.std.proofs.lemmas.Slice.Eq.{bytes_eq-Decides, slice_eq-Decides}
use Rattle.metrics_core.specs.Keys.{LabelText, label_eq}
use Rattle.metrics_core.specs.KeyLaws.{label_eq_is}
use Rattle.prom_format.specs.Pages.{Row}
use Rattle.prom_format.specs.declared.families.FamilyType.{FamilyType}
use Rattle.prom_format.specs.declared.families.FamilyType.TheVariants.{Counter, Gauge, Histogram, Summary}
use Rattle.page_relay.specs.Merge.{NumberedRow, is_kept, is_same, last_key_is, merged_row, merged_rows_behind, same_row, sum_of, with_page}
use Rattle.page_relay.proofs.FirstPlaces.{changed_first}

-- ---- the same row

pub same_row_is : (a b : Row) → Decides (same_row a b) ((a.name ≡ b.name) × (a.labels ≡ b.labels))
same_row_is a b = Decides-and (bytes_eq a.name b.name) (pointwise label_eq a.labels b.labels) (bytes_eq-Decides a.name b.name)
    (slice_eq-Decides label_eq_is a.labels b.labels (pointwise label_eq a.labels b.labels) refl)

pub same_symm : (a b : Row) → same_row a b ≡ true → same_row b a ≡ true
same_symm a b e = let p = (same_row_is a b).0 e in (same_row_is b a).1 (sym p.0, sym p.1)

pub same_others : (a b c : Row) → same_row a b ≡ true → same_row a c ≡ same_row b c
same_others a b c e = let p = (same_row_is a b).0 e in λ j. bytes_eq (p.0 j) c.name && pointwise label_eq (p.1 j) c.labels

any_same : (a b : Row) (rows : List NumberedRow) → same_row a b ≡ true → list_any (is_same a) rows ≡ list_any (is_same b) rows
any_same a b rows e = λ j. list_any (λ other. same_others a b other.row e j) rows

pub same_kept : (type : FamilyType) (a b : Row) → same_row a b ≡ true → is_kept type a ≡ is_kept type b
same_kept Counter a b e = refl
same_kept Gauge a b e = refl
same_kept Histogram a b e = refl
same_kept Summary a b e = ap (last_key_is (codes "quantile")) ((same_row_is a b).0 e).1

apart_by : (type : FamilyType) (a b : Row) (s : Bool) → same_row a b ≡ s → is_kept type a ≡ false → is_kept type b ≡ true → same_row a b ≡ false
apart_by type a b true e adds keeps = absurd (false≢true (sym adds ∙ same_kept type a b e ∙ keeps))
apart_by type a b false e adds keeps = e

pub kept_apart : (type : FamilyType) (a b : Row) → is_kept type a ≡ false → is_kept type b ≡ true → same_row a b ≡ false
kept_apart type a b adds keeps = apart_by type a b (same_row a b) refl adds keeps

last_behind : (key : List ℕ) (label : LabelText) (labels : List LabelText) → last_key_is key labels ≡ true → last_key_is key (label ∷ labels) ≡ true
last_behind key label [] e = absurd (false≢true e)
last_behind key label (x ∷ labels) e = e

pub kept_stays : (type : FamilyType) (n : NumberedRow) → is_kept type n.row ≡ true → is_kept type (with_page n) ≡ true
kept_stays Counter n e = absurd (false≢true e)
kept_stays Gauge n e = refl
kept_stays Histogram n e = absurd (false≢true e)
kept_stays Summary n e = last_behind (codes "quantile") (record { key = codes "page"; value = decimal n.page }) n.row.labels e

-- ---- sums

abbrev plus_row : ℤ → NumberedRow → ℤ
plus_row total other = total +ℤ other.row.value

pub sum_push_same : (row : Row) (all : List NumberedRow) (n : NumberedRow) → same_row row n.row ≡ true → sum_of row (all ++ n ∷ []) ≡ sum_of row all +ℤ n.row.value
sum_push_same row all n e =
    let one : filter (is_same row) (n ∷ []) ≡ n ∷ [] = rw e refl in
    ap (fold plus_row (pos 0)) (filter-append (is_same row) all (n ∷ []) ∙ ap (λ l. filter (is_same row) all ++ l) one)
    ∙ fold_push plus_row (pos 0) (filter (is_same row) all) n

pub sum_push_other : (row : Row) (all : List NumberedRow) (n : NumberedRow) → same_row row n.row ≡ false → sum_of row (all ++ n ∷ []) ≡ sum_of row all
sum_push_other row all n e =
    let none : filter (is_same row) (n ∷ []) ≡ [] = rw e refl in
    ap (fold plus_row (pos 0)) (filter-append (is_same row) all (n ∷ []) ∙ ap (λ l. filter (is_same row) all ++ l) none ∙ append-nil (filter (is_same row) all))

pub sum_same : (a b : Row) (rows : List NumberedRow) → same_row a b ≡ true → sum_of a rows ≡ sum_of b rows
sum_same a b rows e = λ j. fold plus_row (pos 0) (filter (λ other. same_others a b other.row e j) rows)

filter_none_step : (row : Row) (n : NumberedRow) (rows : List NumberedRow) (b : Bool) → same_row row n.row ≡ b → (b || list_any (is_same row) rows) ≡ false
    → (list_any (is_same row) rows ≡ false → filter (is_same row) rows ≡ []) → filter (is_same row) (n ∷ rows) ≡ []
filter_none_step row n rows true p h rest = absurd (true≢false h)
filter_none_step row n rows false p h rest = rw p (rest h)

filter_none : (row : Row) (rows : List NumberedRow) → list_any (is_same row) rows ≡ false → filter (is_same row) rows ≡ []
filter_none row [] e = refl
filter_none row (n ∷ rows) e = filter_none_step row n rows (same_row row n.row) refl e (filter_none row rows)

pub sum_none : (row : Row) (rows : List NumberedRow) → list_any (is_same row) rows ≡ false → sum_of row rows ≡ pos 0
sum_none row rows e = ap (fold plus_row (pos 0)) (filter_none row rows e)

-- ---- one more row

-- the row with a value added
abbrev pub plus : ℤ → Row → Row
plus value row = record { name = row.name; labels = row.labels; value = row.value +ℤ value }

abbrev pub with_sum : Row → ℤ → Row
with_sum row value = record { name = row.name; labels = row.labels; value = value }

pub behind_push : (type : FamilyType) (all before rows : List NumberedRow) (n : NumberedRow)
    → merged_rows_behind type all before (rows ++ n ∷ []) ≡ merged_rows_behind type all before rows ++ merged_row type all (before ++ rows) n
behind_push type all before [] n = append-nil (merged_row type all before n) ∙ ap (λ b. merged_row type all b n) (sym (append-nil before))
behind_push type all before (m ∷ rows) n =
    ap (λ l. merged_row type all before m ++ l) (behind_push type all (before ++ m ∷ []) rows n
    ∙ ap (λ b. merged_rows_behind type all (before ++ m ∷ []) rows ++ merged_row type all b n) (append_assoc before (m ∷ []) rows))
    ∙ sym (append_assoc (merged_row type all before m) (merged_rows_behind type all (before ++ m ∷ []) rows) (merged_row type all (before ++ m ∷ rows) n))

-- a row that changes none of those behind: it is kept, or one with its name and labels stands before them
abbrev pub Covers : FamilyType → NumberedRow → List NumberedRow → Type 0
Covers type n before = (is_kept type n.row ≡ true) ⊎ (list_any (is_same n.row) before ≡ true)

covered_by : (type : FamilyType) (n m : NumberedRow) (before : List NumberedRow) (s : Bool) → same_row m.row n.row ≡ s → Covers type n before → is_kept type m.row ≡ false → list_any (is_same m.row) before ≡ false → same_row m.row n.row ≡ false
covered_by type n m before true e (inl kept) adds none = absurd (false≢true (sym adds ∙ same_kept type m.row n.row e ∙ kept))
covered_by type n m before true e (inr there) adds none = absurd (false≢true (sym none ∙ any_same m.row n.row before e ∙ there))
covered_by type n m before false e covers adds none = e

covers_more : (type : FamilyType) (n m : NumberedRow) (before : List NumberedRow) → Covers type n before → Covers type n (before ++ m ∷ [])
covers_more type n m before (inl kept) = inl kept
covers_more type n m before (inr there) = inr (list_any-append (is_same n.row) before (m ∷ []) ∙ or_left (list_any (is_same n.row) before) (list_any (is_same n.row) (m ∷ [])) there)

unchanged_row : (type : FamilyType) (all before : List NumberedRow) (n m : NumberedRow) (b d : Bool) → is_kept type m.row ≡ b → list_any (is_same m.row) before ≡ d → Covers type n before
    → merged_row type (all ++ n ∷ []) before m ≡ merged_row type all before m
unchanged_row type all before n m true d p q covers = rw p refl
unchanged_row type all before n m false true p q covers = rw (p, q) refl
unchanged_row type all before n m false false p q covers =
    rw (p, q) (ap (λ v. with_sum m.row v ∷ []) (sum_push_other m.row all n (covered_by type n m before (same_row m.row n.row) refl covers p q)))

pub unchanged : (type : FamilyType) (all before rows : List NumberedRow) (n : NumberedRow) → Covers type n before
    → merged_rows_behind type (all ++ n ∷ []) before rows ≡ merged_rows_behind type all before rows
unchanged type all before [] n covers = refl
unchanged type all before (m ∷ rows) n covers =
    let row = unchanged_row type all before n m (is_kept type m.row) (list_any (is_same m.row) before) refl refl covers in
    let rest = unchanged type all (before ++ m ∷ []) rows n (covers_more type n m before covers) in
    λ j. row j ++ rest j

none_more : (row : Row) (before : List NumberedRow) (m : NumberedRow) → list_any (is_same row) before ≡ false → same_row row m.row ≡ false → list_any (is_same row) (before ++ m ∷ []) ≡ false
none_more row before m none e = list_any-append (is_same row) before (m ∷ []) ∙ rw (none, e) refl

one_more : (row : Row) (before : List NumberedRow) (m : NumberedRow) → list_any (is_same row) before ≡ false → same_row row m.row ≡ true → list_any (is_same row) (before ++ m ∷ []) ≡ true
one_more row before m none e = list_any-append (is_same row) before (m ∷ []) ∙ rw (none, e) refl

abbrev Changes : FamilyType → List NumberedRow → List NumberedRow → List NumberedRow → NumberedRow → Type 0
Changes type all before rows n =
    merged_rows_behind type (all ++ n ∷ []) before rows ≡ changed_first (same_row n.row) (plus n.row.value) (merged_rows_behind type all before rows)

change_step : (type : FamilyType) (all before rows : List NumberedRow) (n m : NumberedRow) (b d s : Bool) → is_kept type m.row ≡ b → list_any (is_same m.row) before ≡ d → same_row n.row m.row ≡ s
    → is_kept type n.row ≡ false → list_any (is_same n.row) before ≡ false → (same_row n.row m.row ≡ false → Changes type all (before ++ m ∷ []) rows n) → Changes type all before (m ∷ rows) n
change_step type all before rows n m true d s p q e adds none rest =
    let apart = kept_apart type n.row m.row adds p in
    let head = kept_apart type n.row (with_page m) adds (kept_stays type m p) in
    rw p (rw head (ap (λ l. with_page m ∷ l) (rest apart)))
change_step type all before rows n m false true true p q e adds none rest = absurd (false≢true (sym none ∙ any_same n.row m.row before e ∙ q))
change_step type all before rows n m false true false p q e adds none rest = rw (p, q) (rest e)
change_step type all before rows n m false false true p q e adds none rest =
    let sum = sum_push_same m.row all n (same_symm n.row m.row e) in
    let same = unchanged type all (before ++ m ∷ []) rows n (inr (one_more n.row before m none e)) in
    rw (p, q) (rw e (λ j. with_sum m.row (sum j) ∷ same j))
change_step type all before rows n m false false false p q e adds none rest =
    let apart = no_symm n.row m.row e in
    let sum = sum_push_other m.row all n apart in
    let behind = rest e in
    rw (p, q) (rw e (λ j. with_sum m.row (sum j) ∷ behind j))
  where
    no_by : (a b : Row) (s : Bool) → same_row b a ≡ s → same_row a b ≡ false → same_row b a ≡ false
    no_by a b true h e = absurd (true≢false (sym (same_symm b a h) ∙ e))
    no_by a b false h e = h

    no_symm : (a b : Row) → same_row a b ≡ false → same_row b a ≡ false
    no_symm a b e = no_by a b (same_row b a) refl e

pub changed : (type : FamilyType) (all before rows : List NumberedRow) (n : NumberedRow) → is_kept type n.row ≡ false → list_any (is_same n.row) before ≡ false → Changes type all before rows n
changed type all before [] n adds none = refl
changed type all before (m ∷ rows) n adds none =
    change_step type all before rows n m (is_kept type m.row) (list_any (is_same m.row) before) (same_row n.row m.row) refl refl refl adds none
    (λ e. changed type all (before ++ m ∷ []) rows n adds (none_more n.row before m none e))

-- ---- which rows are there, and their values

any_step : (type : FamilyType) (all before rows : List NumberedRow) (row : Row) (m : NumberedRow) (b d s : Bool) → is_kept type m.row ≡ b → list_any (is_same m.row) before ≡ d → same_row row m.row ≡ s
    → is_kept type row ≡ false → list_any (is_same row) before ≡ false
    → (same_row row m.row ≡ false → list_any (same_row row) (merged_rows_behind type all (before ++ m ∷ []) rows) ≡ list_any (is_same row) rows)
    → list_any (same_row row) (merged_rows_behind type all before (m ∷ rows)) ≡ list_any (is_same row) (m ∷ rows)
any_step type all before rows row m true d s p q e adds none rest =
    let apart = kept_apart type row m.row adds p in
    let head = kept_apart type row (with_page m) adds (kept_stays type m p) in
    rw p (rw (head, apart) (rest apart))
any_step type all before rows row m false true true p q e adds none rest = absurd (false≢true (sym none ∙ any_same row m.row before e ∙ q))
any_step type all before rows row m false true false p q e adds none rest = rw (p, q) (rw e (rest e))
any_step type all before rows row m false false true p q e adds none rest = rw (p, q) (rw e refl)
any_step type all before rows row m false false false p q e adds none rest = rw (p, q) (rw e (rest e))

pub any_merged : (type : FamilyType) (all before rows : List NumberedRow) (row : Row) → is_kept type row ≡ false → list_any (is_same row) before ≡ false
    → list_any (same_row row) (merged_rows_behind type all before rows) ≡ list_any (is_same row) rows
any_merged type all before [] row adds none = refl
any_merged type all before (m ∷ rows) row adds none =
    any_step type all before rows row m (is_kept type m.row) (list_any (is_same m.row) before) (same_row row m.row) refl refl refl adds none
    (λ e. any_merged type all (before ++ m ∷ []) rows row adds (none_more row before m none e))

-- each added row has the sum of its values
abbrev pub HaveSums : FamilyType → List NumberedRow → List Row → Type 0
HaveSums type all [] = ⊤
HaveSums type all (row ∷ rows) = (is_kept type row ≡ false → row.value ≡ sum_of row all) × HaveSums type all rows

sums_step : (type : FamilyType) (all before rows : List NumberedRow) (m : NumberedRow) (b d : Bool) → is_kept type m.row ≡ b → list_any (is_same m.row) before ≡ d
    → HaveSums type all (merged_rows_behind type all (before ++ m ∷ []) rows) → HaveSums type all (merged_rows_behind type all before (m ∷ rows))
sums_step type all before rows m true d p q rest = rw p ((λ adds. absurd (true≢false (sym (kept_stays type m p) ∙ adds))), rest)
sums_step type all before rows m false true p q rest = rw (p, q) rest
sums_step type all before rows m false false p q rest = rw (p, q) ((λ adds. refl), rest)

pub have_sums : (type : FamilyType) (all before rows : List NumberedRow) → HaveSums type all (merged_rows_behind type all before rows)
have_sums type all before [] = tt
have_sums type all before (m ∷ rows) = sums_step type all before rows m (is_kept type m.row) (list_any (is_same m.row) before) refl refl (have_sums type all (before ++ m ∷ []) rows)

pub sum_at : (type : FamilyType) (all : List NumberedRow) (rows : List Row) (i : ℕ) (row : Row) → HaveSums type all rows → slice_get rows i ≡ Some row → is_kept type row ≡ false → row.value ≡ sum_of row all
sum_at type all [] i row sums at adds = absurd (cc)
sum_at type all (r ∷ rows) zero row sums at adds = let same : r ≡ row = cc in subst (λ x. is_kept type x ≡ false → x.value ≡ sum_of x all) same sums.0 adds
sum_at type all (r ∷ rows) (suc i) row sums at adds = sum_at type all rows i row sums.1 at adds
