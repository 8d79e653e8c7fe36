-- Families that can be read from a page that is UTF-8: a page of them can be relayed, and a page that can be relayed is one of them.
use Rattle.std.proofs.Common.{ℕ, zero, suc, ◌<◌, ◌/◌, ◌%◌, ◌==◌, Bool, true, false, List, [], ◌∷◌, ◌++◌, length, refl, sym, ap, subst, ◌∙◌, append_assoc, arith}
use Rattle.std.specs.Prelude.{Option, Some, None, IfSome, codes, decimal, flat_map, All, IsUtf8, IsAscii, if◌then◌else◌}
use Rattle.std.specs.Fmt.{digits}
use Rattle.std.specs.Fmt.{digits_onto, digit_glyph}
use Rattle.std.proofs.lemmas.List.Elements.{All-head, All-tail, All-cons, All-nil}
use Rattle.std.proofs.lemmas.Str.{IsUtf8-nil, IsUtf8-append, IsUtf8-from_ascii}
use Rattle.metrics_core.specs.Characters.{newline, line}
use Rattle.metrics_core.specs.Keys.{LabelText}
use Rattle.metrics_core.specs.Numbers.{page_number}
use Rattle.prom_format.specs.Names.{IsMetricName}
use Rattle.prom_format.specs.Printed.{escaped_label_value, escaped_description}
use Rattle.prom_format.specs.Pages.{Row, Family, label_text, labels_text, label_set_text, type_text, block_text, body_text, page_text, IsPrintable, IsPrintableRow, HasValuesInRange, AreInRange}
use Rattle.prom_format.specs.declared.families.FamilyType.{FamilyType}
use Rattle.prom_format.specs.declared.families.FamilyType.TheVariants.{Counter, Gauge, Histogram, Summary}
use Rattle.prom_format.proofs.PageText.{page_is, page_read}
use Rattle.page_relay.specs.Streams.{IsRelayPage, IsStream}
use Rattle.page_relay.specs.Reading.{IsReadableLabel, IsRowLine}
use Rattle.page_relay.proofs.Names.{kind_ascii, name_utf8}
use Rattle.page_relay.proofs.Values.{in_number, number_low, number_all}
use Rattle.page_relay.proofs.Utf8.{split_ascii, escaped_utf8}
use Rattle.page_relay.proofs.Streams.{Fitting, row_line, row_fits, help_fits, type_line_of, help_line_of, help_lines, rows_lines, block_lines, block_is, page_printable}
use Rattle.page_relay.proofs.Growing.{line_utf8, ascii_utf8, readable_named}

-- the line of a row is one
abbrev pub IsReadableRow : Row → Type 0
IsReadableRow row = IsRowLine (row_line row) row

pub record IsReadableFamily (family : Family) : Type 0 where
  pub named : IsMetricName family.name
  pub help : IfSome family.help IsUtf8
  pub rows : All IsReadableRow family.rows
  pub some_row : 0 < length family.rows

-- ---- from a page to its families

lines_utf8 : (lines : List (List ℕ)) (rest : List ℕ) → IsUtf8 (flat_map line lines ++ rest) → All IsUtf8 lines × IsUtf8 rest
lines_utf8 [] rest utf8 = (All-nil IsUtf8, utf8)
lines_utf8 (x ∷ lines) rest utf8 =
    let split = append_assoc (line x) (flat_map line lines) rest ∙ append_assoc x (newline ∷ []) (flat_map line lines ++ rest) in
    let cut = split_ascii x newline (flat_map line lines ++ rest) (omega arith) (subst IsUtf8 split utf8) in
    let behind = lines_utf8 lines rest cut.1 in
    (All-cons IsUtf8 x lines cut.0 behind.0, behind.1)

rows_readable : (rows : List Row) → All IsPrintableRow rows → All Fitting rows → All IsUtf8 (rows_lines rows) → All IsReadableRow rows
rows_readable [] printable fits utf8 = All-nil IsReadableRow
rows_readable (row ∷ rows) printable fits utf8 =
    All-cons IsReadableRow row rows
    (row_fits row (All-head IsPrintableRow row rows printable) (All-head Fitting row rows fits) (All-head IsUtf8 (row_line row) (rows_lines rows) utf8))
    (rows_readable rows (All-tail IsPrintableRow row rows printable) (All-tail Fitting row rows fits) (All-tail IsUtf8 (row_line row) (rows_lines rows) utf8))

family_readable : (family : Family) → IsPrintable family → HasValuesInRange family → All IsUtf8 (block_lines family) → IsReadableFamily family
family_readable family printable fits utf8 =
    let parts = by family.help utf8 in
    record { named = printable.named; help = parts.0; rows = rows_readable family.rows printable.rows fits parts.1; some_row = printable.some_row }
  where
    type : List ℕ
    type = type_line_of family.name family.type

    by : (help : Option (List ℕ)) → All IsUtf8 (help_lines family.name help ++ type ∷ rows_lines family.rows) → IfSome help IsUtf8 × All IsUtf8 (rows_lines family.rows)
    by None all = (tt, All-tail IsUtf8 type (rows_lines family.rows) all)
    by (Some help) all = (
      (help_fits family.name help printable.named (All-head IsUtf8 (help_line_of family.name help) (type ∷ rows_lines family.rows) all)).utf8,
      All-tail IsUtf8 type (rows_lines family.rows) (All-tail IsUtf8 (help_line_of family.name help) (type ∷ rows_lines family.rows) all),
    )

body_readable : (families : List Family) (rest : List ℕ) → All IsPrintable families → AreInRange families → IsUtf8 (body_text families ++ rest) → All IsReadableFamily families
body_readable [] rest printable fits utf8 = All-nil IsReadableFamily
body_readable (family ∷ families) rest printable fits utf8 =
    let split = append_assoc (block_text family) (body_text families) rest ∙ ap (λ l. l ++ (body_text families ++ rest)) (block_is family) in
    let parts = lines_utf8 (block_lines family) (body_text families ++ rest) (subst IsUtf8 split utf8) in
    All-cons IsReadableFamily family families
    (family_readable family (All-head IsPrintable family families printable) (All-head HasValuesInRange family families fits) parts.0)
    (body_readable families rest (All-tail IsPrintable family families printable) (All-tail HasValuesInRange family families fits) parts.1)

pub page_readable : (bytes : List ℕ) (families : List Family) → IsRelayPage bytes families → All IsReadableFamily families
page_readable bytes families is =
    body_readable families (line (codes "# EOF")) (page_printable bytes families is.page) is.in_range (subst IsUtf8 (page_is bytes families is.page) is.utf8)

pub stream_readable : (bytes : List ℕ) (pages : List (List Family)) → IsStream bytes pages → All (All IsReadableFamily) pages
stream_readable bytes [] is = All-nil (All IsReadableFamily)
stream_readable bytes (page ∷ pages) (first, rest, whole, is, are) =
    All-cons (All IsReadableFamily) page pages (page_readable first page is) (stream_readable rest pages are)

-- ---- from families to their page

label_utf8 : (label : LabelText) → IsReadableLabel label → IsUtf8 (label_text label)
label_utf8 label is =
    IsUtf8-append (label.key ++ codes "=\"" ++ escaped_label_value label.value) (codes "\"")
    (IsUtf8-append (label.key ++ codes "=\"") (escaped_label_value label.value)
    (IsUtf8-append label.key (codes "=\"") (name_utf8 false label.key is.named) (ascii_utf8 (codes "=\"") refl))
    (escaped_utf8 true label.value is.utf8)) (ascii_utf8 (codes "\"") refl)

labels_utf8 : (labels : List LabelText) → All IsReadableLabel labels → IsUtf8 (labels_text labels)
labels_utf8 [] are = IsUtf8-nil
labels_utf8 (label ∷ []) are = label_utf8 label (All-head IsReadableLabel label [] are)
labels_utf8 (label ∷ other ∷ labels) are =
    IsUtf8-append (label_text label ++ codes ",") (labels_text (other ∷ labels))
    (IsUtf8-append (label_text label) (codes ",") (label_utf8 label (All-head IsReadableLabel label (other ∷ labels) are)) (ascii_utf8 (codes ",") refl))
    (labels_utf8 (other ∷ labels) (All-tail IsReadableLabel label (other ∷ labels) are))

set_is_utf8 : (labels : List LabelText) → All IsReadableLabel labels → IsUtf8 (label_set_text labels)
set_is_utf8 [] are = IsUtf8-nil
set_is_utf8 (label ∷ labels) are =
    IsUtf8-append (codes "{" ++ labels_text (label ∷ labels)) (codes "}")
    (IsUtf8-append (codes "{") (labels_text (label ∷ labels)) (ascii_utf8 (codes "{") refl) (labels_utf8 (label ∷ labels) are)) (ascii_utf8 (codes "}") refl)

row_utf8 : (row : Row) → IsReadableRow row → IsUtf8 (row_line row)
row_utf8 row is =
    let number = IsUtf8-from_ascii (page_number row.value) (kind_ascii in_number number_low (page_number row.value) (number_all row.value is.fits)) in
    IsUtf8-append (row.name ++ label_set_text row.labels ++ codes " ") (page_number row.value)
    (IsUtf8-append (row.name ++ label_set_text row.labels) (codes " ")
    (IsUtf8-append row.name (label_set_text row.labels) (name_utf8 true row.name is.named) (set_is_utf8 row.labels is.labels)) (ascii_utf8 (codes " ") refl)) number

rows_utf8 : (rows : List Row) → All IsReadableRow rows → IsUtf8 (flat_map line (rows_lines rows))
rows_utf8 [] are = ascii_utf8 (newline ∷ []) refl
rows_utf8 (row ∷ rows) are =
    IsUtf8-append (line (row_line row)) (flat_map line (rows_lines rows)) (line_utf8 (row_line row) (row_utf8 row (All-head IsReadableRow row rows are)))
    (rows_utf8 rows (All-tail IsReadableRow row rows are))

word_utf8 : (type : FamilyType) → IsUtf8 (type_text type)
word_utf8 Counter = ascii_utf8 (codes "counter") refl
word_utf8 Gauge = ascii_utf8 (codes "gauge") refl
word_utf8 Histogram = ascii_utf8 (codes "histogram") refl
word_utf8 Summary = ascii_utf8 (codes "summary") refl

block_utf8 : (family : Family) → IsReadableFamily family → IsUtf8 (flat_map line (block_lines family))
block_utf8 family is = by family.help is.help
  where
    comment : (word : List ℕ) → IsUtf8 word → IsUtf8 (word ++ family.name ++ codes " ")
    comment word utf8 = IsUtf8-append (word ++ family.name) (codes " ") (IsUtf8-append word family.name utf8 (name_utf8 true family.name is.named)) (ascii_utf8 (codes " ") refl)

    typed : IsUtf8 (flat_map line (type_line_of family.name family.type ∷ rows_lines family.rows))
    typed =
        IsUtf8-append (line (type_line_of family.name family.type)) (flat_map line (rows_lines family.rows))
        (line_utf8 (type_line_of family.name family.type)
        (IsUtf8-append (codes "# TYPE " ++ family.name ++ codes " ") (type_text family.type) (comment (codes "# TYPE ") (ascii_utf8 (codes "# TYPE ") refl)) (word_utf8 family.type)))
        (rows_utf8 family.rows is.rows)

    by : (help : Option (List ℕ)) → IfSome help IsUtf8 → IsUtf8 (flat_map line (help_lines family.name help ++ type_line_of family.name family.type ∷ rows_lines family.rows))
    by None utf8 = typed
    by (Some help) utf8 =
        IsUtf8-append (line (help_line_of family.name help)) (flat_map line (type_line_of family.name family.type ∷ rows_lines family.rows))
        (line_utf8 (help_line_of family.name help)
        (IsUtf8-append (codes "# HELP " ++ family.name ++ codes " ") (escaped_description help) (comment (codes "# HELP ") (ascii_utf8 (codes "# HELP ") refl)) (escaped_utf8 false help utf8)))
        typed

body_utf8 : (families : List Family) → All IsReadableFamily families → IsUtf8 (body_text families)
body_utf8 [] are = IsUtf8-nil
body_utf8 (family ∷ families) are =
    IsUtf8-append (block_text family) (body_text families)
    (subst IsUtf8 (sym (block_is family)) (block_utf8 family (All-head IsReadableFamily family families are)))
    (body_utf8 families (All-tail IsReadableFamily family families are))

row_printable : (row : Row) → IsReadableRow row → IsPrintableRow row
row_printable row is = record { named = is.named; labels = readable_named row.labels is.labels }

rows_stand : (rows : List Row) → All IsReadableRow rows → All IsPrintableRow rows × All Fitting rows
rows_stand [] are = (All-nil IsPrintableRow, All-nil Fitting)
rows_stand (row ∷ rows) are =
    let here = All-head IsReadableRow row rows are in
    let behind = rows_stand rows (All-tail IsReadableRow row rows are) in
    (All-cons IsPrintableRow row rows (row_printable row here) behind.0, All-cons Fitting row rows here.fits behind.1)

families_stand : (families : List Family) → All IsReadableFamily families → All IsPrintable families × AreInRange families
families_stand [] are = (All-nil IsPrintable, All-nil HasValuesInRange)
families_stand (family ∷ families) are =
    let here = All-head IsReadableFamily family families are in
    let rows = rows_stand family.rows here.rows in
    let behind = families_stand families (All-tail IsReadableFamily family families are) in
    (All-cons IsPrintable family families (record { named = here.named; rows = rows.0; some_row = here.some_row }) behind.0, All-cons HasValuesInRange family families rows.1 behind.1)

pub readable_page : (families : List Family) → All IsReadableFamily families → IsRelayPage (page_text families) families
readable_page families are =
    let stand = families_stand families are in
    record {
      utf8 = IsUtf8-append (body_text families) (line (codes "# EOF")) (body_utf8 families are) (ascii_utf8 (line (codes "# EOF")) refl);
      page = page_read families stand.0;
      in_range = stand.1;
    }

-- ---- numbers of pages

ascii_first : (c : ℕ) (bytes : List ℕ) → c < 128 → IsAscii bytes → IsAscii (c ∷ bytes)
ascii_first c bytes low ascii zero = low
ascii_first c bytes low ascii (suc i) = ascii i

glyph_low : (d : ℕ) → d < 10 → digit_glyph false d < 128
glyph_low d small = grind arith

digits_low : (k n : ℕ) (bytes : List ℕ) → IsAscii bytes → IsAscii (digits_onto k 10 false n bytes)
digits_low zero n bytes ascii = ascii
digits_low (suc k) n bytes ascii = by (n / 10 == 0) (digits_low k (n / 10) (digit_glyph false (n % 10) ∷ bytes) more)
  where
    more : IsAscii (digit_glyph false (n % 10) ∷ bytes)
    more = ascii_first (digit_glyph false (n % 10)) bytes (glyph_low (n % 10) (omega arith)) ascii

    by : (b : Bool) → IsAscii (digits_onto k 10 false (n / 10) (digit_glyph false (n % 10) ∷ bytes)) → IsAscii (if b then digit_glyph false (n % 10) ∷ bytes else digits_onto k 10 false (n / 10) (digit_glyph false (n % 10) ∷ bytes))
    by true behind = more
    by false behind = behind

pub decimal_utf8 : (n : ℕ) → IsUtf8 (decimal n)
unfolding digits
decimal_utf8 n = IsUtf8-from_ascii (decimal n) (digits_low 64 n [] (λ i. omega arith))
