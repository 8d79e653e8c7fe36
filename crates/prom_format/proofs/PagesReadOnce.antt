-- A page is read in one way: the same bytes are a page of the same families.
use Rattle.std.proofs.Common.{◌≡◌, ℕ, Bool, true, false, List, [], ◌∷◌, ◌++◌, refl, sym, ap, ◌∙◌, arith, append_assoc}
use Rattle.std.specs.Prelude.{Option, Some, None, codes, flat_map, All, ◌||◌, ◌==◌, ◌≢◌, if◌then◌else◌}
use Rattle.std.specs.List.{AllByRecursion, list_all}
use Rattle.std.specs.Int.{w128}
use Rattle.std.specs.Int.RustNames.{FitsSigned}
use Rattle.std.proofs.lemmas.Bool.{and_from, and_parts, or_left, false≢true}
use Rattle.std.proofs.lemmas.List.{append_cancel_left}
use Rattle.std.proofs.lemmas.List.Elements.{All-head, All-tail}
use Rattle.metrics_core.specs.Characters.{is_digit, line}
use Rattle.metrics_core.specs.Keys.{LabelText}
use Rattle.metrics_core.specs.Numbers.{page_number}
use Rattle.prom_format.specs.Names.{begins_metric_name, begins_label_name, is_name, IsMetricName, IsLabelName}
use Rattle.prom_format.specs.Printed.{escaped_label_value, escaped_description}
use Rattle.prom_format.specs.Pages.{Row, Family, AreLabels, IsLabelSet, AreRows, IsRow, IsBody, IsPage, type_text, label_text, labels_text, label_set_text, row_text, help_text, type_line_text, block_text, body_text, page_text, HasValuesInRange, AreInRange}
use Rattle.prom_format.specs.declared.families.FamilyType.{FamilyType}
use Rattle.prom_format.specs.declared.families.FamilyType.TheVariants.{Counter, Gauge, Histogram, Summary}
use Rattle.prom_format.proofs.ReadOnce.{AreTold, NoneIs, words_told, first_same, others_same, Stops, spans_told}
use Rattle.prom_format.proofs.EscapeLaws.{escaped_told, quoted_told}
use Rattle.prom_format.proofs.NumbersReadOnce.{number_told}
use Rattle.prom_format.proofs.PageText.{page_is}

-- ---- names

abbrev later : (ℕ → Bool) → ℕ → Bool
later first c = first c || is_digit c

name_later : (first : ℕ → Bool) (name : List ℕ) → is_name first name ≡ true → list_all (later first) name ≡ true
name_later first [] named = absurd (false≢true named)
name_later first (c ∷ cs) named =
    let parts = and_parts (first c) (list_all (later first) cs) named in
    and_from _ _ (or_left (first c) (is_digit c) parts.0) parts.1

names_told : (first : ℕ → Bool) (x y r s : List ℕ) → is_name first x ≡ true → is_name first y ≡ true →
    Stops (later first) r → Stops (later first) s → x ++ r ≡ y ++ s → (x ≡ y) × (r ≡ s)
names_told first x y r s hx hy = spans_told (later first) x y r s (name_later first x hx) (name_later first y hy)

-- a name does not begin with a character that may not begin it
name_begins : (first : ℕ → Bool) (name r : List ℕ) (c : ℕ) (s : List ℕ) → is_name first name ≡ true → first c ≡ false → name ++ r ≢ c ∷ s
name_begins first [] r c s named other e = false≢true named
name_begins first (d ∷ name) r c s named other e =
    let here = (and_parts (first d) (list_all (later first) name) named).0 in
    false≢true (sym other ∙ ap first (sym (first_same d c (name ++ r) s e)) ∙ here)

-- a text that goes on with a character that ends a metric name
metric_ends : (c : ℕ) (r : List ℕ) → later begins_metric_name c ≡ false → Stops (later begins_metric_name) (c ∷ r)
metric_ends c r ends = record { first = c; others = r; split = refl; stops = ends }

-- ---- labels

label_split : (label : LabelText) (r : List ℕ) → label_text label ++ r ≡ label.key ++ 61 ∷ 34 ∷ (escaped_label_value label.value ++ 34 ∷ r)
label_split label r = simp append_assoc

label_told : AreTold (λ label. IsLabelName label.key) label_text
label_told x y r s hx hy e =
    let left = escaped_label_value x.value ++ 34 ∷ r in
    let right = escaped_label_value y.value ++ 34 ∷ s in
    let keys = names_told begins_label_name x.key y.key (61 ∷ 34 ∷ left) (61 ∷ 34 ∷ right) hx hy
    (record { first = 61; others = 34 ∷ left; split = refl; stops = refl }) (record { first = 61; others = 34 ∷ right; split = refl; stops = refl })
    (sym (label_split x r) ∙ e ∙ label_split y s) in
    let behind = others_same 34 34 left right (others_same 61 61 (34 ∷ left) (34 ∷ right) keys.1) in
    let values = quoted_told x.value y.value r s behind in
    (ap (λ k. record { key = k; value = x.value }) keys.0 ∙ ap (λ v. record { key = y.key; value = v }) values.0, values.1)

abbrev HaveNames : List LabelText → Type 0
HaveNames labels = AllByRecursion (λ (l : LabelText). IsLabelName l.key) labels

-- what stands behind a label: a comma and more labels, or the brace
abbrev behind_label : List LabelText → List ℕ → List ℕ
behind_label [] r = 125 ∷ r
behind_label (label ∷ labels) r = 44 ∷ (labels_text (label ∷ labels) ++ 125 ∷ r)

labels_split : (label : LabelText) (labels : List LabelText) (r : List ℕ) → labels_text (label ∷ labels) ++ 125 ∷ r ≡ label_text label ++ behind_label labels r
labels_split label [] r = refl
labels_split label (other ∷ labels) r = simp append_assoc

labels_told : (x y : LabelText) (xs ys : List LabelText) (r s : List ℕ) → HaveNames (x ∷ xs) → HaveNames (y ∷ ys) →
    labels_text (x ∷ xs) ++ 125 ∷ r ≡ labels_text (y ∷ ys) ++ 125 ∷ s → (x ∷ xs ≡ y ∷ ys) × (r ≡ s)
labels_told x y [] [] r s hx hy e =
    let here = label_told x y (behind_label [] r) (behind_label [] s) hx.0 hy.0 (sym (labels_split x [] r) ∙ e ∙ labels_split y [] s) in
    (ap (λ l. l ∷ []) here.0, others_same 125 125 r s here.1)
labels_told x y [] (other ∷ ys) r s hx hy e =
    let here = label_told x y (behind_label [] r) (behind_label (other ∷ ys) s) hx.0 hy.0 (sym (labels_split x [] r) ∙ e ∙ labels_split y (other ∷ ys) s) in
    let first = first_same 125 44 r (labels_text (other ∷ ys) ++ 125 ∷ s) here.1 in
    absurd (omega (arith, first))
labels_told x y (other ∷ xs) [] r s hx hy e =
    let here = label_told x y (behind_label (other ∷ xs) r) (behind_label [] s) hx.0 hy.0 (sym (labels_split x (other ∷ xs) r) ∙ e ∙ labels_split y [] s) in
    let first = first_same 44 125 (labels_text (other ∷ xs) ++ 125 ∷ r) s here.1 in
    absurd (omega (arith, first))
labels_told x y (z ∷ xs) (w ∷ ys) r s hx hy e =
    let here = label_told x y (behind_label (z ∷ xs) r) (behind_label (w ∷ ys) s) hx.0 hy.0 (sym (labels_split x (z ∷ xs) r) ∙ e ∙ labels_split y (w ∷ ys) s) in
    let behind = labels_told z w xs ys r s hx.1 hy.1 (others_same 44 44 (labels_text (z ∷ xs) ++ 125 ∷ r) (labels_text (w ∷ ys) ++ 125 ∷ s) here.1) in
    (ap (λ l. l ∷ z ∷ xs) here.0 ∙ ap (λ ls. y ∷ ls) behind.0, behind.1)

label_set_split : (label : LabelText) (labels : List LabelText) (r : List ℕ) → label_set_text (label ∷ labels) ++ r ≡ 123 ∷ (labels_text (label ∷ labels) ++ 125 ∷ r)
label_set_split label labels r = ap (λ t. 123 ∷ t) (append_assoc (labels_text (label ∷ labels)) (codes "}") r)

-- a label set before a space
label_set_told : (xs ys : List LabelText) (r s : List ℕ) → HaveNames xs → HaveNames ys →
    label_set_text xs ++ 32 ∷ r ≡ label_set_text ys ++ 32 ∷ s → (xs ≡ ys) × (r ≡ s)
label_set_told [] [] r s hx hy e = (refl, others_same 32 32 r s e)
label_set_told [] (y ∷ ys) r s hx hy e =
    let first = first_same 32 123 r (labels_text (y ∷ ys) ++ 125 ∷ 32 ∷ s) (e ∙ label_set_split y ys (32 ∷ s)) in
    absurd (omega (arith, first))
label_set_told (x ∷ xs) [] r s hx hy e =
    let first = first_same 123 32 (labels_text (x ∷ xs) ++ 125 ∷ 32 ∷ r) s (sym (label_set_split x xs (32 ∷ r)) ∙ e) in
    absurd (omega (arith, first))
label_set_told (x ∷ xs) (y ∷ ys) r s hx hy e =
    let inner = others_same 123 123 (labels_text (x ∷ xs) ++ 125 ∷ 32 ∷ r) (labels_text (y ∷ ys) ++ 125 ∷ 32 ∷ s)
    (sym (label_set_split x xs (32 ∷ r)) ∙ e ∙ label_set_split y ys (32 ∷ s)) in
    let told = labels_told x y xs ys (32 ∷ r) (32 ∷ s) hx hy inner in
    (told.0, others_same 32 32 r s told.1)

-- what stands behind the name of a row begins with a brace or a space
label_set_stops : (labels : List LabelText) (r : List ℕ) → Stops (later begins_metric_name) (label_set_text labels ++ 32 ∷ r)
label_set_stops [] r = metric_ends 32 r refl
label_set_stops (label ∷ labels) r = record { first = 123; others = labels_text (label ∷ labels) ++ 125 ∷ 32 ∷ r; split = label_set_split label labels (32 ∷ r); stops = refl }

have_names : (labels : List LabelText) → All (λ (l : LabelText). IsLabelName l.key) labels → HaveNames labels
have_names [] h = tt
have_names (label ∷ labels) h = (All-head (λ (l : LabelText). IsLabelName l.key) label labels h, have_names labels (All-tail (λ (l : LabelText). IsLabelName l.key) label labels h))

-- a metric name and a label set, with a space behind them
pub row_head_told : (x y : List ℕ) (xs ys : List LabelText) → IsMetricName x → IsMetricName y → All (λ (l : LabelText). IsLabelName l.key) xs → All (λ (l : LabelText). IsLabelName l.key) ys
    → x ++ label_set_text xs ≡ y ++ label_set_text ys → (x ≡ y) × (xs ≡ ys)
row_head_told x y xs ys hx hy named named_too e =
    let spaced : x ++ (label_set_text xs ++ 32 ∷ []) ≡ y ++ (label_set_text ys ++ 32 ∷ []) = sym (append_assoc x (label_set_text xs) (32 ∷ [])) ∙ ap (λ t. t ++ 32 ∷ []) e ∙ append_assoc y (label_set_text ys) (32 ∷ []) in
    let names = names_told begins_metric_name x y (label_set_text xs ++ 32 ∷ []) (label_set_text ys ++ 32 ∷ []) hx hy (label_set_stops xs []) (label_set_stops ys []) spaced in
    (names.0, (label_set_told xs ys [] [] (have_names xs named) (have_names ys named_too) names.1).0)

-- ---- rows

record IsReadableRow (row : Row) : Type 0 where
  named : IsMetricName row.name
  labelled : HaveNames row.labels
  fits : FitsSigned w128 row.value

row_split : (row : Row) (r : List ℕ) → row_text row ++ r ≡ row.name ++ (label_set_text row.labels ++ 32 ∷ (page_number row.value ++ 10 ∷ r))
row_split row r = simp append_assoc

row_told : AreTold IsReadableRow row_text
row_told x y r s hx hy e =
    let left = page_number x.value ++ 10 ∷ r in
    let right = page_number y.value ++ 10 ∷ s in
    let names = names_told begins_metric_name x.name y.name (label_set_text x.labels ++ 32 ∷ left) (label_set_text y.labels ++ 32 ∷ right)
    hx.named hy.named (label_set_stops x.labels left) (label_set_stops y.labels right) (sym (row_split x r) ∙ e ∙ row_split y s) in
    let sets = label_set_told x.labels y.labels left right hx.labelled hy.labelled names.1 in
    let values = number_told x.value y.value r s hx.fits hy.fits sets.1 in (
      ap (λ n. record { name = n; labels = x.labels; value = x.value }) names.0
          ∙ ap (λ l. record { name = y.name; labels = l; value = x.value }) sets.0
          ∙ ap (λ v. record { name = y.name; labels = y.labels; value = v }) values.0,
      values.1,
    )

newline_no_row : NoneIs IsReadableRow row_text (10 ∷ [])
newline_no_row row r s h e =
    name_begins begins_metric_name row.name (label_set_text row.labels ++ 32 ∷ (page_number row.value ++ 10 ∷ r)) 10 s h.named refl (sym (row_split row r) ∙ e)

-- ---- blocks

record IsReadable (family : Family) : Type 0 where
  named : IsMetricName family.name
  rows : AllByRecursion IsReadableRow family.rows

-- a name and what stands behind the space
spaced_told : (x y r s : List ℕ) → IsMetricName x → IsMetricName y → x ++ 32 ∷ r ≡ y ++ 32 ∷ s → (x ≡ y) × (r ≡ s)
spaced_told x y r s hx hy e =
    let told = names_told begins_metric_name x y (32 ∷ r) (32 ∷ s) hx hy (metric_ends 32 r refl) (metric_ends 32 s refl) e in
    (told.0, others_same 32 32 r s told.1)

-- the type is told by its first letter, and its word gives what stands behind it
abbrev type_read : List ℕ → FamilyType
type_read [] = Counter
type_read (c ∷ text) = if c == 99 then Counter else if c == 103 then Gauge else if c == 104 then Histogram else Summary

type_read_back : (type : FamilyType) (r : List ℕ) → type_read (type_text type ++ r) ≡ type
type_read_back Counter r = refl
type_read_back Gauge r = refl
type_read_back Histogram r = refl
type_read_back Summary r = refl

type_told : AreTold (λ type. Unit {0}) type_text
type_told x y r s hx hy e =
    let same : x ≡ y = sym (type_read_back x r) ∙ ap type_read e ∙ type_read_back y s in
    (same, append_cancel_left (type_text y) r s (ap (λ t. type_text t ++ r) (sym same) ∙ e))

type_line_split : (name : List ℕ) (type : FamilyType) (r : List ℕ) → type_line_text name type ++ r ≡ codes "# TYPE " ++ (name ++ 32 ∷ (type_text type ++ 10 ∷ r))
type_line_split name type r = simp append_assoc

type_line_told : (x y : List ℕ) (t u : FamilyType) (r s : List ℕ) → IsMetricName x → IsMetricName y →
    type_line_text x t ++ r ≡ type_line_text y u ++ s → (x ≡ y) × (t ≡ u) × (r ≡ s)
type_line_told x y t u r s hx hy e =
    let behind = append_cancel_left (codes "# TYPE ") (x ++ 32 ∷ (type_text t ++ 10 ∷ r)) (y ++ 32 ∷ (type_text u ++ 10 ∷ s)) (sym (type_line_split x t r) ∙ e ∙ type_line_split y u s) in
    let names = spaced_told x y (type_text t ++ 10 ∷ r) (type_text u ++ 10 ∷ s) hx hy behind in
    let types = type_told t u (10 ∷ r) (10 ∷ s) tt tt names.1 in
    (names.0, types.0, others_same 10 10 r s types.1)

help_split : (name text r : List ℕ) → help_text name (Some text) ++ r ≡ codes "# HELP " ++ (name ++ 32 ∷ (escaped_description text ++ 10 ∷ r))
help_split name text r = simp append_assoc

-- the third character tells a help line from a type line
abbrev third_of : List ℕ → ℕ
third_of (a ∷ b ∷ c ∷ text) = c
third_of _ = 0

-- a help line, where there is one, before a type line
head_told : (x y : List ℕ) (h k : Option (List ℕ)) (t u : FamilyType) (r s : List ℕ) → IsMetricName x → IsMetricName y →
    help_text x h ++ (type_line_text x t ++ r) ≡ help_text y k ++ (type_line_text y u ++ s) → (x ≡ y) × (h ≡ k) × (t ≡ u) × (r ≡ s)
head_told x y None None t u r s hx hy e =
    let told = type_line_told x y t u r s hx hy e in
    (told.0, refl, told.1, told.2)
head_told x y None (Some text) t u r s hx hy e =
    let third = ap third_of (sym (type_line_split x t r) ∙ e ∙ help_split y text (type_line_text y u ++ s)) in
    absurd (omega (arith, third))
head_told x y (Some text) None t u r s hx hy e =
    let third = ap third_of (sym (help_split x text (type_line_text x t ++ r)) ∙ e ∙ type_line_split y u s) in
    absurd (omega (arith, third))
head_told x y (Some text) (Some other) t u r s hx hy e =
    let left = type_line_text x t ++ r in
    let right = type_line_text y u ++ s in
    let behind = append_cancel_left (codes "# HELP ") (x ++ 32 ∷ (escaped_description text ++ 10 ∷ left)) (y ++ 32 ∷ (escaped_description other ++ 10 ∷ right)) (sym (help_split x text left) ∙ e ∙ help_split y other right) in
    let names = spaced_told x y (escaped_description text ++ 10 ∷ left) (escaped_description other ++ 10 ∷ right) hx hy behind in
    let texts = escaped_told false text other left right names.1 in
    let types = type_line_told x y t u r s hx hy texts.1 in
    (names.0, ap Some texts.0, types.1, types.2)

block_split : (family : Family) (r : List ℕ) →
    block_text family ++ r ≡ help_text family.name family.help ++ (type_line_text family.name family.type ++ (flat_map row_text family.rows ++ 10 ∷ r))
block_split family r = simp append_assoc

block_told : AreTold IsReadable block_text
block_told x y r s hx hy e =
    let left = flat_map row_text x.rows ++ 10 ∷ r in
    let right = flat_map row_text y.rows ++ 10 ∷ s in
    let head = head_told x.name y.name x.help y.help x.type y.type left right hx.named hy.named (sym (block_split x r) ∙ e ∙ block_split y s) in
    let rows = words_told IsReadableRow row_text (10 ∷ []) row_told newline_no_row x.rows y.rows r s hx.rows hy.rows head.3 in (
      ap (λ n. record { help = x.help; name = n; type = x.type; rows = x.rows }) head.0
          ∙ ap (λ h. record { help = h; name = y.name; type = x.type; rows = x.rows }) head.1
          ∙ ap (λ t. record { help = y.help; name = y.name; type = t; rows = x.rows }) head.2
          ∙ ap (λ l. record { help = y.help; name = y.name; type = y.type; rows = l }) rows.0,
      rows.1,
    )

-- ---- pages

end_no_block : NoneIs IsReadable block_text (line (codes "# EOF"))
end_no_block family r s h e = by family.help (sym (block_split family r) ∙ e)
  where
    behind : List ℕ
    behind = flat_map row_text family.rows ++ 10 ∷ r

    by : (help : Option (List ℕ)) → help_text family.name help ++ (type_line_text family.name family.type ++ behind) ≢ line (codes "# EOF") ++ s
    by None whole =
        let third = ap third_of (sym (type_line_split family.name family.type behind) ∙ whole) in
        omega (arith, third)
    by (Some text) whole =
        let third = ap third_of (sym (help_split family.name text (type_line_text family.name family.type ++ behind)) ∙ whole) in
        omega (arith, third)

labels_have_names : (bytes : List ℕ) (labels : List LabelText) → AreLabels bytes labels → HaveNames labels
labels_have_names bytes [] are = tt
labels_have_names bytes (label ∷ []) is = (is.named, tt)
labels_have_names bytes (label ∷ other ∷ labels) (first, rest, whole, is, are) = (is.named, labels_have_names rest (other ∷ labels) are)

set_has_names : (bytes : List ℕ) (labels : List LabelText) → IsLabelSet bytes labels → HaveNames labels
set_has_names bytes [] is = tt
set_has_names bytes (label ∷ labels) (inner, whole, are) = labels_have_names inner (label ∷ labels) are

row_readable : (bytes : List ℕ) (row : Row) → IsRow bytes row → FitsSigned w128 row.value → IsReadableRow row
row_readable bytes row is fits = record { named = is.named; labelled = set_has_names is.label_set row.labels is.labelled; fits = fits }

abbrev Fits : Row → Type 0
Fits row = FitsSigned w128 row.value

rows_readable : (bytes : List ℕ) (rows : List Row) → AreRows bytes rows → All Fits rows → AllByRecursion IsReadableRow rows
rows_readable bytes [] are fit = tt
rows_readable bytes (row ∷ []) is fit = (row_readable bytes row is (All-head Fits row [] fit), tt)
rows_readable bytes (row ∷ other ∷ rows) (first, rest, whole, is, are) fit =
    (row_readable first row is (All-head Fits row (other ∷ rows) fit), rows_readable rest (other ∷ rows) are (All-tail Fits row (other ∷ rows) fit))

body_readable : (bytes : List ℕ) (families : List Family) → IsBody bytes families → AreInRange families → AllByRecursion IsReadable families
body_readable bytes [] is fit = tt
body_readable bytes (family ∷ families) (block, rest, whole, is, are) fit = (
  record { named = is.named; rows = rows_readable is.row_lines family.rows is.rows (All-head HasValuesInRange family families fit) },
  body_readable rest families are (All-tail HasValuesInRange family families fit),
)

page_readable : (bytes : List ℕ) (families : List Family) → IsPage bytes families → AreInRange families → AllByRecursion IsReadable families
page_readable bytes families (body, whole, is) = body_readable body families is

pub page_told : (bytes : List ℕ) (families others : List Family) → AreInRange families → AreInRange others → IsPage bytes families → IsPage bytes others → families ≡ others
page_told bytes families others fit fit_others is is_others =
    (words_told IsReadable block_text (line (codes "# EOF")) block_told end_no_block families others [] []
    (page_readable bytes families is fit) (page_readable bytes others is_others fit_others)
    (page_nil families ∙ sym (page_is bytes families is) ∙ page_is bytes others is_others ∙ sym (page_nil others))).0
  where
    page_nil : (fs : List Family) → body_text fs ++ (line (codes "# EOF") ++ []) ≡ page_text fs
    page_nil fs = refl

-- a body is what stands before the end of a page
pub body_told : (bytes : List ℕ) (families others : List Family) → AreInRange families → AreInRange others → IsBody bytes families → IsBody bytes others → families ≡ others
body_told bytes families others fit fit_others is is_others =
    page_told (bytes ++ line (codes "# EOF")) families others fit fit_others (bytes, refl, is) (bytes, refl, is_others)
