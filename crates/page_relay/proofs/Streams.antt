-- The lines of a stream: each may stand behind the one before, and the bytes tell them.
use Rattle.std.proofs.Common.{◌≡◌, ◌≢◌, ℕ, ◌+◌, ◌<◌, Bool, true, false, not, ◌&&◌, ◌==◌, ℤ, List, [], ◌∷◌, ◌++◌, length, take, map, refl, sym, ap, subst, ◌∙◌, append_assoc, arith, ◌⊎◌, inl, inr, cond}
use Rattle.std.specs.Prelude.{codes, flat_map, All, IsUtf8, Option, Some, None, if◌then◌else◌}
use Rattle.std.specs.List.{list_all, position_or_len}
use Rattle.std.specs.Int.{w128}
use Rattle.std.specs.Int.RustNames.{FitsSigned}
use Rattle.std.proofs.Math.Numerals.{one-add}
use Rattle.std.proofs.lemmas.Bool.{and_from, and_parts, false≢true}
use Rattle.std.proofs.lemmas.Bool.Decides.{nat_tests}
use Rattle.std.proofs.lemmas.List.Elements.{All-head, All-tail, All-nil, All-cons}
use Rattle.std.proofs.lemmas.List.Folds.{list_all-append}
use Rattle.std.proofs.lemmas.Str.{IsUtf8-nil, IsUtf8-append}
use Rattle.metrics_core.specs.Characters.{newline, space, line}
use Rattle.metrics_core.specs.Keys.{LabelText}
use Rattle.metrics_core.specs.Numbers.{page_number}
use Rattle.prom_format.specs.Names.{IsMetricName, IsLabelName, begins_metric_name}
use Rattle.prom_format.specs.Printed.{escaped_character, escaped_label_value, escaped_description}
use Rattle.prom_format.specs.Pages.{Row, Family, AreLabels, IsLabelSet, IsRow, AreRows, IsBody, IsPage, type_text, label_text, labels_text, label_set_text, row_text, help_text, type_line_text, block_text, body_text, page_text, IsPrintable, IsPrintableRow, HasValuesInRange, AreInRange}
use Rattle.prom_format.specs.declared.families.FamilyType.{FamilyType}
use Rattle.prom_format.specs.declared.families.FamilyType.TheVariants.{Counter, Gauge, Histogram, Summary}
use Rattle.prom_format.proofs.PageText.{page_is}
use Rattle.page_relay.specs.Streams.{IsRelayPage, IsStream}
use Rattle.page_relay.specs.Reading.{stands_in_name, escaped, IsReadableLabel, IsHelpLine, IsTypeLine, IsRowLine}
use Rattle.page_relay.specs.Fitting.{Place, Start, Between, Helped, Typed, InRows, name_in, place_behind, place_behind_all, Fits, FitsBetween}
use Rattle.page_relay.proofs.Names.{name_later, name_begins, name_utf8}
use Rattle.page_relay.proofs.Labels.{behind_first, label_split, labels_step, set_step}
use Rattle.page_relay.proofs.Values.{in_number, number_all}
use Rattle.page_relay.proofs.Utf8.{split_ascii, behind_ascii, utf8_behind, unescaped_utf8}

-- ---- lines without newlines

abbrev pub in_line : ℕ → Bool
in_line c = not (c == newline)

abbrev pub IsLine : List ℕ → Type 0
IsLine text = list_all in_line text ≡ true

-- each line may stand where it does, if it is UTF-8
abbrev pub AreFit : Place → List (List ℕ) → Type 0
AreFit place [] = Unit {0}
AreFit place (text ∷ lines) = (IsLine text × (IsUtf8 text → Fits place text)) × AreFit (place_behind text) lines

abbrev pub AreLines : List (List ℕ) → Type 0
AreLines [] = Unit {0}
AreLines (text ∷ lines) = IsLine text × AreLines lines

pub fit_append : (place : Place) (xs ys : List (List ℕ)) → AreFit place xs → AreFit (place_behind_all place xs) ys → AreFit place (xs ++ ys)
fit_append place [] ys hx hy = hy
fit_append place (x ∷ xs) ys hx hy = (hx.0, fit_append (place_behind x) xs ys hx.1 hy)

pub place_append : (place : Place) (xs ys : List (List ℕ)) → place_behind_all place (xs ++ ys) ≡ place_behind_all (place_behind_all place xs) ys
place_append place [] ys = refl
place_append place (x ∷ xs) ys = place_append (place_behind x) xs ys

pub fits_at : (place : Place) (xs ys : List (List ℕ)) (text : List ℕ) → AreFit place (xs ++ text ∷ ys) → IsUtf8 text → Fits (place_behind_all place xs) text
fits_at place [] ys text h utf8 = h.0.1 utf8
fits_at place (x ∷ xs) ys text h utf8 = fits_at (place_behind x) xs ys text h.1 utf8

pub fit_lines : (place : Place) (xs : List (List ℕ)) → AreFit place xs → AreLines xs
fit_lines place [] h = tt
fit_lines place (x ∷ xs) h = (h.0.0, fit_lines (place_behind x) xs h.1)

pub lines_append : (xs ys : List (List ℕ)) → AreLines xs → AreLines ys → AreLines (xs ++ ys)
lines_append [] ys hx hy = hy
lines_append (x ∷ xs) ys hx hy = (hx.0, lines_append xs ys hx.1 hy)

pub lines_front_part : (xs ys : List (List ℕ)) → AreLines (xs ++ ys) → AreLines xs
lines_front_part [] ys h = tt
lines_front_part (x ∷ xs) ys h = (h.0, lines_front_part xs ys h.1)

-- ---- which characters a line has

letters_line : (kind : ℕ → Bool) → ((c : ℕ) → kind c ≡ true → in_line c ≡ true) → (text : List ℕ) → list_all kind text ≡ true → IsLine text
letters_line kind in_lines [] all = refl
letters_line kind in_lines (c ∷ text) all =
    let parts = and_parts (kind c) (list_all kind text) all in
    and_from _ _ (in_lines c parts.0) (letters_line kind in_lines text parts.1)

name_in_line : (colons : Bool) (c : ℕ) → stands_in_name colons c ≡ true → in_line c ≡ true
name_in_line true c h = grind (arith, nat_tests)
name_in_line false c h = grind (arith, nat_tests)

number_in_line : (c : ℕ) → in_number c ≡ true → in_line c ≡ true
number_in_line c h = grind (arith, nat_tests)

metric_line : (name : List ℕ) → IsMetricName name → IsLine name
metric_line name named = letters_line (stands_in_name true) (name_in_line true) name (name_later true name named)

label_line : (name : List ℕ) → IsLabelName name → IsLine name
label_line name named = letters_line (stands_in_name false) (name_in_line false) name (name_later false name named)

value_line : (v : ℤ) → FitsSigned w128 v → IsLine (page_number v)
value_line v fits = letters_line in_number number_in_line (page_number v) (number_all v fits)

both_lines : (x y : List ℕ) → IsLine x → IsLine y → IsLine (x ++ y)
both_lines x y hx hy = list_all-append in_line x y ∙ and_from _ _ hx hy

character_line : (in_label : Bool) (c : ℕ) → IsLine (escaped_character in_label c)
character_line in_label c = by (c == 92) (c == 10) refl refl
  where
    quoted : (q : Bool) → (c == 10) ≡ false → IsLine (if q then 92 ∷ 34 ∷ [] else c ∷ [])
    quoted true other = refl
    quoted false other = rw other refl

    by : (b n : Bool) → (c == 92) ≡ b → (c == 10) ≡ n → IsLine (if b then 92 ∷ 92 ∷ [] else if n then 92 ∷ 110 ∷ [] else if in_label && c == 34 then 92 ∷ 34 ∷ [] else c ∷ [])
    by true n is_b is_n = refl
    by false true is_b is_n = refl
    by false false is_b is_n = quoted (in_label && c == 34) is_n

escaped_line : (in_label : Bool) (text : List ℕ) → IsLine (escaped in_label text)
escaped_line in_label [] = refl
escaped_line in_label (c ∷ text) = both_lines (escaped_character in_label c) (escaped in_label text) (character_line in_label c) (escaped_line in_label text)

one_label_line : (label : LabelText) → IsLabelName label.key → IsLine (label_text label)
one_label_line label named =
    both_lines ((label.key ++ codes "=\"") ++ escaped_label_value label.value) (codes "\"")
    (both_lines (label.key ++ codes "=\"") (escaped_label_value label.value) (both_lines label.key (codes "=\"") (label_line label.key named) refl) (escaped_line true label.value)) refl

abbrev Named : LabelText → Type 0
Named label = IsLabelName label.key

labels_line : (label : LabelText) (labels : List LabelText) → All Named (label ∷ labels) → IsLine (labels_text (label ∷ labels))
labels_line label [] named = one_label_line label (All-head Named label [] named)
labels_line label (other ∷ labels) named =
    both_lines (label_text label ++ codes ",") (labels_text (other ∷ labels))
    (both_lines (label_text label) (codes ",") (one_label_line label (All-head Named label (other ∷ labels) named)) refl)
    (labels_line other labels (All-tail Named label (other ∷ labels) named))

set_line : (labels : List LabelText) → All Named labels → IsLine (label_set_text labels)
set_line [] named = refl
set_line (label ∷ labels) named = both_lines (codes "{" ++ labels_text (label ∷ labels)) (codes "}") (labels_line label labels named) refl

-- ---- rows

abbrev pub row_line : Row → List ℕ
row_line row = row.name ++ label_set_text row.labels ++ codes " " ++ page_number row.value

row_is_line : (row : Row) → IsPrintableRow row → FitsSigned w128 row.value → IsLine (row_line row)
row_is_line row printable fits =
    both_lines ((row.name ++ label_set_text row.labels) ++ codes " ") (page_number row.value)
    (both_lines (row.name ++ label_set_text row.labels) (codes " ") (both_lines row.name (label_set_text row.labels) (metric_line row.name printable.named) (set_line row.labels printable.labels)) refl)
    (value_line row.value fits)

-- the values of labels are UTF-8 where the labels are
first_utf8 : (label : LabelText) (labels : List LabelText) (x : List ℕ) → Named label → IsUtf8 (labels_text (label ∷ labels) ++ x) → IsReadableLabel label × IsUtf8 (behind_first labels x)
first_utf8 label labels x named utf8 =
    let split = label_split label (behind_first labels x) in
    let name = split_ascii label.key 61 (34 ∷ (escaped_label_value label.value ++ 34 ∷ behind_first labels x)) (omega arith) (subst IsUtf8 (labels_step label labels x ∙ split) utf8) in
    let value = split_ascii (escaped_label_value label.value) 34 (behind_first labels x) (omega arith) (behind_ascii 34 (escaped_label_value label.value ++ 34 ∷ behind_first labels x) (omega arith) name.1) in
    (record { named = named; utf8 = unescaped_utf8 true label.value value.0 }, value.1)

values_utf8 : (label : LabelText) (labels : List LabelText) (x : List ℕ) → All Named (label ∷ labels) → IsUtf8 (labels_text (label ∷ labels) ++ x) → All IsReadableLabel (label ∷ labels)
values_utf8 label [] x named utf8 =
    All-cons IsReadableLabel label [] (first_utf8 label [] x (All-head Named label [] named) utf8).0 (All-nil IsReadableLabel)
values_utf8 label (other ∷ labels) x named utf8 =
    let first = first_utf8 label (other ∷ labels) x (All-head Named label (other ∷ labels) named) utf8 in
    All-cons IsReadableLabel label (other ∷ labels) first.0
    (values_utf8 other labels x (All-tail Named label (other ∷ labels) named) (behind_ascii 44 (labels_text (other ∷ labels) ++ x) (omega arith) first.1))

set_utf8 : (labels : List LabelText) (x : List ℕ) → All Named labels → IsUtf8 (label_set_text labels ++ x) → All IsReadableLabel labels
set_utf8 [] x named utf8 = All-nil IsReadableLabel
set_utf8 (label ∷ labels) x named utf8 =
    values_utf8 label labels (125 ∷ x) named (behind_ascii 123 (labels_text (label ∷ labels) ++ (125 ∷ x)) (omega arith) (subst IsUtf8 (set_step label labels x) utf8))

pub row_fits : (row : Row) → IsPrintableRow row → FitsSigned w128 row.value → IsUtf8 (row_line row) → IsRowLine (row_line row) row
row_fits row printable fits utf8 =
    let split = append_assoc (row.name ++ label_set_text row.labels) (codes " ") (page_number row.value) ∙ append_assoc row.name (label_set_text row.labels) (codes " " ++ page_number row.value) in
    record {
      named = printable.named;
      labels = set_utf8 row.labels (codes " " ++ page_number row.value) printable.labels (utf8_behind row.name _ (name_utf8 true row.name printable.named) (subst IsUtf8 split utf8));
      fits = fits;
      spelled = refl;
    }

-- a metric name begins no comment
name_no_comment : (c : ℕ) → begins_metric_name c ≡ true → (c == 35) ≡ false
name_no_comment c h = grind (arith, nat_tests)

pub row_place : (text name rest : List ℕ) → IsMetricName name → text ≡ name ++ rest → place_behind text ≡ InRows
row_place text [] rest named e = absurd (false≢true named)
row_place text (c ∷ name) rest named e = ap place_behind e ∙ rw (name_no_comment c (name_begins true c name named)) refl

pub row_place_of : (text : List ℕ) (row : Row) → IsRowLine text row → place_behind text ≡ InRows
row_place_of text row h = row_place text row.name (label_set_text row.labels ++ (codes " " ++ page_number row.value)) h.named
    (h.spelled ∙ append_assoc (row.name ++ label_set_text row.labels) (codes " ") (page_number row.value) ∙ append_assoc row.name (label_set_text row.labels) (codes " " ++ page_number row.value))

-- ---- comments

pub type_place : (text name : List ℕ) (type : FamilyType) → IsTypeLine text name type → place_behind text ≡ Typed
type_place text name type h = ap place_behind h.spelled

name_of_help : (name rest : List ℕ) → IsMetricName name → name_in (name ++ (32 ∷ rest)) ≡ name
name_of_help name rest named = by name (name_later true name named)
  where
    step : (t : Bool) (c : ℕ) (cs : List ℕ) → (c == 32) ≡ t → t ≡ false → take (position_or_len (λ d. d == space) (cs ++ (32 ∷ rest))) (cs ++ (32 ∷ rest)) ≡ cs → take (cond (not t) (1 + position_or_len (λ d. d == space) (cs ++ (32 ∷ rest))) 0) (c ∷ cs ++ (32 ∷ rest)) ≡ c ∷ cs
    step t c cs is other e = rw (other, one-add) (ap (λ l. c ∷ l) e)

    no_space : (c : ℕ) → stands_in_name true c ≡ true → (c == 32) ≡ false
    no_space c h = grind (arith, nat_tests)

    by : (name : List ℕ) → list_all (stands_in_name true) name ≡ true → take (position_or_len (λ c. c == space) (name ++ (32 ∷ rest))) (name ++ (32 ∷ rest)) ≡ name
    by [] all = refl
    by (c ∷ cs) all =
        let parts = and_parts (stands_in_name true c) (list_all (stands_in_name true) cs) all in
        step (c == 32) c cs refl (no_space c parts.0) (by cs parts.1)

pub help_place : (text name help : List ℕ) → IsMetricName name → text ≡ codes "# HELP " ++ name ++ codes " " ++ escaped_description help → place_behind text ≡ Helped name
help_place text name help named spelled =
    ap place_behind (spelled ∙ append_assoc (codes "# HELP " ++ name) (codes " ") (escaped_description help) ∙ append_assoc (codes "# HELP ") name (32 ∷ escaped_description help))
    ∙ ap Helped (name_of_help name (escaped_description help) named)

abbrev pub type_line_of : List ℕ → FamilyType → List ℕ
type_line_of name type = codes "# TYPE " ++ name ++ codes " " ++ type_text type

abbrev pub help_line_of : List ℕ → List ℕ → List ℕ
help_line_of name help = codes "# HELP " ++ name ++ codes " " ++ escaped_description help

type_is_line : (name : List ℕ) (type : FamilyType) → IsMetricName name → IsLine (type_line_of name type)
type_is_line name type named =
    both_lines (codes "# TYPE " ++ name ++ codes " ") (type_text type)
    (both_lines (codes "# TYPE " ++ name) (codes " ") (both_lines (codes "# TYPE ") name refl (metric_line name named)) refl) (word type)
  where
    word : (type : FamilyType) → IsLine (type_text type)
    word Counter = refl
    word Gauge = refl
    word Histogram = refl
    word Summary = refl

help_is_line : (name help : List ℕ) → IsMetricName name → IsLine (help_line_of name help)
help_is_line name help named =
    both_lines (codes "# HELP " ++ name ++ codes " ") (escaped_description help)
    (both_lines (codes "# HELP " ++ name) (codes " ") (both_lines (codes "# HELP ") name refl (metric_line name named)) refl) (escaped_line false help)

pub help_fits : (name help : List ℕ) → IsMetricName name → IsUtf8 (help_line_of name help) → IsHelpLine (help_line_of name help) name help
help_fits name help named utf8 =
    let behind_word : IsUtf8 (name ++ (32 ∷ escaped_description help)) = behind_ascii 32 _ (omega arith) (behind_ascii 80 _ (omega arith) (behind_ascii 76 _ (omega arith) (behind_ascii 69 _ (omega arith) (behind_ascii 72 _ (omega arith) (behind_ascii 32 _ (omega arith) (behind_ascii 35 _ (omega arith)
    (subst IsUtf8 (append_assoc (codes "# HELP " ++ name) (codes " ") (escaped_description help) ∙ append_assoc (codes "# HELP ") name (32 ∷ escaped_description help)) utf8))))))) in
    let behind_name = behind_ascii 32 (escaped_description help) (omega arith) (utf8_behind name (32 ∷ escaped_description help) (name_utf8 true name named) behind_word) in
    record { named = named; utf8 = unescaped_utf8 false help behind_name; spelled = refl }

-- ---- blocks

abbrev pub help_lines : List ℕ → Option (List ℕ) → List (List ℕ)
help_lines name None = []
help_lines name (Some help) = help_line_of name help ∷ []

abbrev pub rows_lines : List Row → List (List ℕ)
rows_lines rows = map row_line rows ++ [] ∷ []

abbrev pub block_lines : Family → List (List ℕ)
block_lines family = help_lines family.name family.help ++ type_line_of family.name family.type ∷ rows_lines family.rows

rows_are : (rows : List Row) → flat_map row_text rows ++ line [] ≡ flat_map line (rows_lines rows)
rows_are [] = refl
rows_are (row ∷ rows) = append_assoc (row_text row) (flat_map row_text rows) (line []) ∙ ap (λ l. row_text row ++ l) (rows_are rows)

pub block_is : (family : Family) → block_text family ≡ flat_map line (block_lines family)
block_is family = by family.help
  where
    type : List ℕ
    type = type_line_text family.name family.type

    behind : (help : List ℕ) → ((help ++ type) ++ flat_map row_text family.rows) ++ line [] ≡ help ++ (type ++ flat_map line (rows_lines family.rows))
    behind help =
        append_assoc (help ++ type) (flat_map row_text family.rows) (line []) ∙ append_assoc help type (flat_map row_text family.rows ++ line [])
        ∙ ap (λ l. help ++ (type ++ l)) (rows_are family.rows)

    by : (help : Option (List ℕ)) → ((help_text family.name help ++ type) ++ flat_map row_text family.rows) ++ line [] ≡ flat_map line (help_lines family.name help ++ type_line_of family.name family.type ∷ rows_lines family.rows)
    by None = behind []
    by (Some help) = behind (line (help_line_of family.name help))

abbrev pub Fitting : Row → Type 0
Fitting row = FitsSigned w128 row.value

row_behind : (row : Row) → IsPrintableRow row → place_behind (row_line row) ≡ InRows
row_behind row printable = row_place (row_line row) row.name (label_set_text row.labels ++ (codes " " ++ page_number row.value)) printable.named
    (append_assoc (row.name ++ label_set_text row.labels) (codes " ") (page_number row.value) ∙ append_assoc row.name (label_set_text row.labels) (codes " " ++ page_number row.value))

fit_rows : (rows : List Row) → All IsPrintableRow rows → All Fitting rows → AreFit InRows (rows_lines rows)
fit_rows [] printable fits = ((refl, λ _. inl refl), tt)
fit_rows (row ∷ rows) printable fits =
    let here = All-head IsPrintableRow row rows printable in
    let fit = All-head Fitting row rows fits in
    ((row_is_line row here fit, λ utf8. inr (row, row_fits row here fit utf8)), subst (λ p. AreFit p (rows_lines rows)) (sym (row_behind row here)) (fit_rows rows (All-tail IsPrintableRow row rows printable) (All-tail Fitting row rows fits)))

fit_first_row : (rows : List Row) → 0 < length rows → All IsPrintableRow rows → All Fitting rows → AreFit Typed (rows_lines rows)
fit_first_row [] some printable fits = absurd (omega (arith, some))
fit_first_row (row ∷ rows) some printable fits =
    let here = All-head IsPrintableRow row rows printable in
    let fit = All-head Fitting row rows fits in
    ((row_is_line row here fit, λ utf8. (row, row_fits row here fit utf8)), subst (λ p. AreFit p (rows_lines rows)) (sym (row_behind row here)) (fit_rows rows (All-tail IsPrintableRow row rows printable) (All-tail Fitting row rows fits)))

abbrev pub IsBetween : Place → Type 0
IsBetween place = (place ≡ Start) ⊎ (place ≡ Between)

fits_between : (place : Place) (text : List ℕ) → IsBetween place → FitsBetween text → Fits place text
fits_between place text (inl is) h = subst (λ p. Fits p text) (sym is) h
fits_between place text (inr is) h = subst (λ p. Fits p text) (sym is) h

fit_type : (place : Place) (family : Family) → IsPrintable family → HasValuesInRange family → (IsTypeLine (type_line_of family.name family.type) family.name family.type → Fits place (type_line_of family.name family.type))
    → AreFit place (type_line_of family.name family.type ∷ rows_lines family.rows)
fit_type place family printable fits may =
    let is : IsTypeLine (type_line_of family.name family.type) family.name family.type = record { named = printable.named; spelled = refl } in
    ((type_is_line family.name family.type printable.named, λ _. may is), fit_first_row family.rows printable.some_row printable.rows fits)

fit_block : (place : Place) (family : Family) → IsBetween place → IsPrintable family → HasValuesInRange family → AreFit place (block_lines family)
fit_block place family between printable fits = by family.help
  where
    by : (help : Option (List ℕ)) → AreFit place (help_lines family.name help ++ type_line_of family.name family.type ∷ rows_lines family.rows)
    by None = fit_type place family printable fits (λ is. fits_between place _ between (inr (inr (family.name, family.type, is))))
    by (Some help) = (
      (help_is_line family.name help printable.named, λ utf8. fits_between place _ between (inr (inl (family.name, help, help_fits family.name help printable.named utf8)))),
      subst (λ p. AreFit p (type_line_of family.name family.type ∷ rows_lines family.rows)) (sym (help_place (help_line_of family.name help) family.name help printable.named refl))
          (fit_type (Helped family.name) family printable fits (λ is. (family.type, is))),
    )

block_behind : (place : Place) (family : Family) → place_behind_all place (block_lines family) ≡ Between
block_behind place family =
    place_append place (help_lines family.name family.help) (type_line_of family.name family.type ∷ rows_lines family.rows)
    ∙ place_append Typed (map row_line family.rows) ([] ∷ [])

-- ---- pages and streams

pub flat_append : (xs ys : List (List ℕ)) → flat_map line (xs ++ ys) ≡ flat_map line xs ++ flat_map line ys
flat_append [] ys = refl
flat_append (x ∷ xs) ys = ap (λ l. line x ++ l) (flat_append xs ys) ∙ sym (append_assoc (line x) (flat_map line xs) (flat_map line ys))

-- no page ends with these lines
abbrev pub AreInner : List (List ℕ) → Type 0
AreInner [] = Unit {0}
AreInner (text ∷ lines) = (place_behind text ≢ Start) × AreInner lines

inner_append : (xs ys : List (List ℕ)) → AreInner xs → AreInner ys → AreInner (xs ++ ys)
inner_append [] ys hx hy = hy
inner_append (x ∷ xs) ys hx hy = (hx.0, inner_append xs ys hx.1 hy)

inner_rows : (rows : List Row) → All IsPrintableRow rows → AreInner (rows_lines rows)
inner_rows [] printable = (λ e. cc, tt)
inner_rows (row ∷ rows) printable =
    let behind = row_behind row (All-head IsPrintableRow row rows printable) in
    (λ e. let same : InRows ≡ Start = sym behind ∙ e in cc, inner_rows rows (All-tail IsPrintableRow row rows printable))

inner_type : (family : Family) → IsPrintable family → AreInner (type_line_of family.name family.type ∷ rows_lines family.rows)
inner_type family printable = (λ e. cc, inner_rows family.rows printable.rows)

inner_block : (family : Family) → IsPrintable family → AreInner (block_lines family)
inner_block family printable = by family.help
  where
    by : (help : Option (List ℕ)) → AreInner (help_lines family.name help ++ type_line_of family.name family.type ∷ rows_lines family.rows)
    by None = inner_type family printable
    by (Some help) =
        let behind = help_place (help_line_of family.name help) family.name help printable.named refl in
        (λ e. let same : Helped family.name ≡ Start = sym behind ∙ e in cc, inner_type family printable)

pub record Lines (bytes : List ℕ) (place : Place) : Type 0 where
  pub lines : List (List ℕ)
  pub are : bytes ≡ flat_map line lines
  pub fit : AreFit place lines
  pub inner : AreInner lines
  pub ends : IsBetween (place_behind_all place lines)

pub body_lines : (place : Place) (families : List Family) → IsBetween place → All IsPrintable families → AreInRange families → Lines (body_text families) place
body_lines place [] between printable fits = record { lines = []; are = refl; fit = tt; inner = tt; ends = between }
body_lines place (family ∷ families) between printable fits =
    let here = All-head IsPrintable family families printable in
    let behind = body_lines Between families (inr refl) (All-tail IsPrintable family families printable) (All-tail HasValuesInRange family families fits) in
    let is_between = block_behind place family in
    record {
      lines = block_lines family ++ behind.lines;
      are = (λ j. block_is family j ++ behind.are j) ∙ sym (flat_append (block_lines family) behind.lines);
      fit = fit_append place (block_lines family) behind.lines (fit_block place family between here (All-head HasValuesInRange family families fits))
          (subst (λ p. AreFit p behind.lines) (sym is_between) behind.fit);
      inner = inner_append (block_lines family) behind.lines (inner_block family here) behind.inner;
      ends = subst IsBetween (sym (place_append place (block_lines family) behind.lines ∙ ap (λ p. place_behind_all p behind.lines) is_between)) behind.ends;
    }

labels_named : (bytes : List ℕ) (labels : List LabelText) → AreLabels bytes labels → All Named labels
labels_named bytes [] are = All-nil Named
labels_named bytes (label ∷ []) is = All-cons Named label [] is.named (All-nil Named)
labels_named bytes (label ∷ other ∷ labels) (first, rest, whole, is, are) = All-cons Named label (other ∷ labels) is.named (labels_named rest (other ∷ labels) are)

set_named : (bytes : List ℕ) (labels : List LabelText) → IsLabelSet bytes labels → All Named labels
set_named bytes [] is = All-nil Named
set_named bytes (label ∷ labels) (inner, whole, are) = labels_named inner (label ∷ labels) are

row_printable : (bytes : List ℕ) (row : Row) → IsRow bytes row → IsPrintableRow row
row_printable bytes row is = record { named = is.named; labels = set_named is.label_set row.labels is.labelled }

rows_printable : (bytes : List ℕ) (rows : List Row) → AreRows bytes rows → All IsPrintableRow rows × (0 < length rows)
rows_printable bytes [] are = absurd are
rows_printable bytes (row ∷ []) is = (All-cons IsPrintableRow row [] (row_printable bytes row is) (All-nil IsPrintableRow), omega arith)
rows_printable bytes (row ∷ other ∷ rows) (first, rest, whole, is, are) =
    (All-cons IsPrintableRow row (other ∷ rows) (row_printable first row is) (rows_printable rest (other ∷ rows) are).0, omega arith)

body_printable : (bytes : List ℕ) (families : List Family) → IsBody bytes families → All IsPrintable families
body_printable bytes [] is = All-nil IsPrintable
body_printable bytes (family ∷ families) (block, rest, whole, is, are) =
    let rows = rows_printable is.row_lines family.rows is.rows in
    All-cons IsPrintable family families (record { named = is.named; rows = rows.0; some_row = rows.1 }) (body_printable rest families are)

pub page_printable : (bytes : List ℕ) (families : List Family) → IsPage bytes families → All IsPrintable families
page_printable bytes families (body, whole, is) = body_printable body families is

-- the lines of a stream
pub record StreamLines (bytes : List ℕ) : Type 0 where
  pub lines : List (List ℕ)
  pub are : bytes ≡ flat_map line lines
  pub fit : AreFit Start lines
  pub ends : place_behind_all Start lines ≡ Start

pub stream_lines : (bytes : List ℕ) (pages : List (List Family)) → IsStream bytes pages → StreamLines bytes
stream_lines bytes [] is = record { lines = []; are = is; fit = tt; ends = refl }
stream_lines bytes (page ∷ pages) (first, rest, whole, is, are) =
    let body = body_lines Start page (inl refl) (page_printable first page is.page) is.in_range in
    let behind = stream_lines rest pages are in
    let end : List (List ℕ) = codes "# EOF" ∷ [] in
    let here : List (List ℕ) = body.lines ++ end in
    let is_page : first ≡ flat_map line here = page_is first page is.page ∙ ap (λ l. l ++ line (codes "# EOF")) body.are ∙ sym (flat_append body.lines end) in
    let to_start : place_behind_all Start here ≡ Start = place_append Start body.lines end in
    record {
      lines = here ++ behind.lines;
      are = whole ∙ (λ j. is_page j ++ behind.are j) ∙ sym (flat_append here behind.lines);
      fit = fit_append Start here behind.lines (fit_append Start body.lines end body.fit ((refl, λ _. fits_between (place_behind_all Start body.lines) (codes "# EOF") body.ends (inl refl)), tt))
          (subst (λ p. AreFit p behind.lines) (sym to_start) behind.fit);
      ends = place_append Start here behind.lines ∙ ap (λ p. place_behind_all p behind.lines) to_start ∙ behind.ends;
    }

pub stream_utf8 : (bytes : List ℕ) (pages : List (List Family)) → IsStream bytes pages → IsUtf8 bytes
stream_utf8 bytes [] is = subst IsUtf8 (sym is) IsUtf8-nil
stream_utf8 bytes (page ∷ pages) (first, rest, whole, is, are) = subst IsUtf8 (sym whole) (IsUtf8-append first rest is.utf8 (stream_utf8 rest pages are))

pub pages_stream : (pages : List (List Family)) → All (λ page. IsRelayPage (page_text page) page) pages → IsStream (flat_map page_text pages) pages
pages_stream [] all = refl
pages_stream (page ∷ pages) all =
    let P : List Family → Type 0 = λ page. IsRelayPage (page_text page) page in
    (page_text page, flat_map page_text pages, refl, All-head P page pages all, pages_stream pages (All-tail P page pages all))
