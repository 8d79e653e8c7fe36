-- How the pages so far grow by one line.
use Rattle.std.proofs.Common.{◌≡◌, ℕ, ◌<◌, true, List, [], ◌∷◌, ◌++◌, length, refl, sym, ap, subst, ◌∙◌, append_assoc, arith, ◌⊎◌, inl, inr}
use Rattle.std.specs.Prelude.{codes, flat_map, All, IsUtf8, Some, None, nat_lt, pos}
use Rattle.std.specs.List.{list_all}
use Rattle.std.specs.Int.{w128}
use Rattle.std.specs.Int.RustNames.{FitsSigned}
use Rattle.std.proofs.lemmas.Bool.{ltb-true}
use Rattle.std.proofs.lemmas.List.{append-nil}
use Rattle.std.proofs.lemmas.List.Elements.{All-head, All-tail, All-nil, All-cons, All-push}
use Rattle.std.proofs.lemmas.Str.{IsUtf8-nil, IsUtf8-append, IsUtf8-from_ascii}
use Rattle.metrics_core.specs.Characters.{newline, line}
use Rattle.metrics_core.specs.Keys.{LabelText}
use Rattle.metrics_core.specs.Numbers.{page_number}
use Rattle.prom_format.specs.Names.{IsLabelName}
use Rattle.prom_format.specs.Pages.{Row, Family, row_text, help_text, type_line_text, block_text, body_text, page_text, type_text, IsPrintable, IsPrintableRow, HasValuesInRange}
use Rattle.prom_format.specs.declared.families.FamilyType.{FamilyType}
use Rattle.prom_format.specs.declared.families.FamilyType.TheVariants.{Counter}
use Rattle.prom_format.proofs.PageText.{page_read}
use Rattle.page_relay.specs.Streams.{IsRelayPage, IsStream, BeginsStream}
use Rattle.page_relay.specs.Reading.{IsReadableLabel, IsHelpLine, IsTypeLine, IsRowLine}
use Rattle.page_relay.specs.Fitting.{Fits, Between, InRows, place_behind, BegunText, Nothing, Help, Block, SoFar, block_so_far, begun_text, text_so_far, place_in_rows, place_between, place_at, IsBegunSound, IsSound, TakesLine}
use Rattle.page_relay.proofs.Names.{kind_ascii, name_utf8}
use Rattle.page_relay.proofs.Values.{in_number, number_low, number_all}
use Rattle.page_relay.proofs.Utf8.{one_ascii}
use Rattle.page_relay.proofs.Streams.{row_line, type_place, help_place, row_place_of, pages_stream}

pub flat_push : {X : Type 0} (f : X → List ℕ) (xs : List X) (x : X) → flat_map f (xs ++ x ∷ []) ≡ flat_map f xs ++ f x
flat_push f [] x = append-nil (f x)
flat_push f (y ∷ xs) x = ap (λ l. f y ++ l) (flat_push f xs x) ∙ sym (append_assoc (f y) (flat_map f xs) (f x))

pub line_utf8 : (text : List ℕ) → IsUtf8 text → IsUtf8 (line text)
line_utf8 text utf8 = IsUtf8-append text (newline ∷ []) utf8 (one_ascii newline (omega arith))

abbrev pub so : List (List Family) → List Family → BegunText → SoFar
so pages families begun = record { pages = pages; families = families; begun = begun }

-- ---- only what is begun grows

pub begun_grows : (pages : List (List Family)) (families : List Family) (old new : BegunText) (text : List ℕ) → IsSound (so pages families old) → IsUtf8 text → begun_text new ≡ begun_text old ++ line text → IsBegunSound new → place_at families new ≡ place_behind text
    → TakesLine (so pages families old) text (so pages families new)
begun_grows pages families old new text sound utf8 grown begun place =
    let whole = flat_map page_text pages in
    let body = body_text families in
    let more : body ++ begun_text new ≡ (body ++ begun_text old) ++ line text = ap (λ l. body ++ l) grown ∙ sym (append_assoc body (begun_text old) (line text)) in
    record {
      sound = record {
        pages = sound.pages;
        printable = sound.printable;
        in_range = sound.in_range;
        utf8 = subst IsUtf8 (sym more) (IsUtf8-append (body ++ begun_text old) (line text) sound.utf8 (line_utf8 text utf8));
        begun = begun;
      };
      grown = ap (λ l. whole ++ l) more ∙ sym (append_assoc whole (body ++ begun_text old) (line text));
      place = place;
    }

pub help_begins : (pages : List (List Family)) (families : List Family) (text name help : List ℕ) → IsSound (so pages families Nothing) → IsUtf8 text → IsHelpLine text name help → TakesLine (so pages families Nothing) text (so pages families (Help name help))
help_begins pages families text name help sound utf8 is =
    begun_grows pages families Nothing (Help name help) text sound utf8 (ap line (sym is.spelled)) is.named (sym (help_place text name help is.named is.spelled))

abbrev pub typed : List ℕ → FamilyType → Family
typed name type = record { help = None; name = name; type = type; rows = [] }

abbrev pub helped : List ℕ → List ℕ → FamilyType → Family
helped name help type = record { help = Some help; name = name; type = type; rows = [] }

abbrev Fitting : Row → Type 0
Fitting row = FitsSigned w128 row.value

pub type_begins : (pages : List (List Family)) (families : List Family) (text name : List ℕ) (type : FamilyType) → IsSound (so pages families Nothing) → IsUtf8 text → IsTypeLine text name type → TakesLine (so pages families Nothing) text (so pages families (Block (typed name type)))
type_begins pages families text name type sound utf8 is =
    begun_grows pages families Nothing (Block (typed name type)) text sound utf8 (append-nil (type_line_text name type) ∙ ap line (sym is.spelled))
    (is.named, (All-nil IsPrintableRow, All-nil Fitting)) (sym (type_place text name type is))

pub type_follows : (pages : List (List Family)) (families : List Family) (text name help : List ℕ) (type : FamilyType) → IsSound (so pages families (Help name help)) → IsUtf8 text → IsTypeLine text name type → TakesLine (so pages families (Help name help)) text (so pages families (Block (helped name help type)))
type_follows pages families text name help type sound utf8 is =
    begun_grows pages families (Help name help) (Block (helped name help type)) text sound utf8
    (append-nil (help_text name (Some help) ++ type_line_text name type) ∙ ap (λ l. help_text name (Some help) ++ line l) (sym is.spelled))
    (is.named, (All-nil IsPrintableRow, All-nil Fitting)) (sym (type_place text name type is))

abbrev pub with_row : Family → Row → Family
with_row family row = record { help = family.help; name = family.name; type = family.type; rows = family.rows ++ row ∷ [] }

pub readable_named : (labels : List LabelText) → All IsReadableLabel labels → All (λ label. IsLabelName label.key) labels
readable_named [] all = All-nil (λ (label : LabelText). IsLabelName label.key)
readable_named (label ∷ labels) all =
    All-cons (λ (label : LabelText). IsLabelName label.key) label labels (All-head IsReadableLabel label labels all).named (readable_named labels (All-tail IsReadableLabel label labels all))

in_rows : (rows : List Row) (row : Row) → place_in_rows (rows ++ row ∷ []) ≡ InRows
in_rows [] row = refl
in_rows (r ∷ rows) row = refl

pub row_follows : (pages : List (List Family)) (families : List Family) (family : Family) (text : List ℕ) (row : Row) → IsSound (so pages families (Block family)) → IsUtf8 text → IsRowLine text row → TakesLine (so pages families (Block family)) text (so pages families (Block (with_row family row)))
row_follows pages families family text row sound utf8 is =
    let head = help_text family.name family.help ++ type_line_text family.name family.type in
    begun_grows pages families (Block family) (Block (with_row family row)) text sound utf8
    (ap (λ l. head ++ l) (flat_push row_text family.rows row) ∙ sym (append_assoc head (flat_map row_text family.rows) (row_text row)) ∙ ap (λ l. block_so_far family ++ line l) (sym is.spelled))
    (sound.begun.0, (All-push IsPrintableRow family.rows row sound.begun.1.0 (record { named = is.named; labels = readable_named row.labels is.labels }), All-push Fitting family.rows row sound.begun.1.1 is.fits))
    (in_rows family.rows row ∙ sym (row_place_of text row is))

-- where no row stands, and the line isn't empty or no row stands before it, it doesn't fit
pub no_row_fits : (rows : List Row) (text : List ℕ) → ((row : Row) → ¬ IsRowLine text row) → (length rows ≡ 0) ⊎ (0 < length text) → ¬ Fits (place_in_rows rows) text
no_row_fits [] text none why fits = none fits.0 fits.1
no_row_fits (r ∷ rows) text none (inl empty) fits = omega (arith, empty)
no_row_fits (r ∷ rows) text none (inr some) (inl empty) = omega (arith, some, ap length empty)
no_row_fits (r ∷ rows) text none (inr some) (inr fits) = none fits.0 fits.1

-- ---- a block ends, and a page ends

between : (families : List Family) (family : Family) → place_between (families ++ family ∷ []) ≡ Between
between [] family = refl
between (f ∷ families) family = refl

pub block_ends : (pages : List (List Family)) (families : List Family) (family : Family) (text : List ℕ) → IsSound (so pages families (Block family)) → IsUtf8 text → text ≡ [] → 0 < length family.rows → TakesLine (so pages families (Block family)) text (so pages (families ++ family ∷ []) Nothing)
block_ends pages families family text sound utf8 empty some =
    let whole = flat_map page_text pages in
    let body = body_text families in
    let more : body_text (families ++ family ∷ []) ++ [] ≡ (body ++ block_so_far family) ++ line text =
    append-nil (body_text (families ++ family ∷ [])) ∙ flat_push block_text families family ∙ sym (append_assoc body (block_so_far family) (line [])) ∙ ap (λ l. (body ++ block_so_far family) ++ line l) (sym empty) in
    record {
      sound = record {
        pages = sound.pages;
        printable = All-push IsPrintable families family sound.printable (record { named = sound.begun.0; rows = sound.begun.1.0; some_row = some });
        in_range = All-push HasValuesInRange families family sound.in_range sound.begun.1.1;
        utf8 = subst IsUtf8 (sym more) (IsUtf8-append (body ++ block_so_far family) (line text) sound.utf8 (line_utf8 text utf8));
        begun = tt;
      };
      grown = ap (λ l. whole ++ l) more ∙ sym (append_assoc whole (body ++ block_so_far family) (line text));
      place = between families family ∙ sym (ap place_behind empty);
    }

pub page_ends : (pages : List (List Family)) (families : List Family) (text : List ℕ) → IsSound (so pages families Nothing) → IsUtf8 text → text ≡ codes "# EOF" → TakesLine (so pages families Nothing) text (so (pages ++ families ∷ []) [] Nothing)
page_ends pages families text sound utf8 end =
    let whole = flat_map page_text pages in
    let body = body_text families in
    let is_page : page_text families ≡ (body ++ []) ++ line text = (λ j. sym (append-nil body) j ++ line (sym end j)) in
    let P : List Family → Type 0 = λ page. IsRelayPage (page_text page) page in
    record {
      sound = record {
        pages = All-push P pages families sound.pages (record {
          utf8 = subst IsUtf8 (sym is_page) (IsUtf8-append (body ++ []) (line text) sound.utf8 (line_utf8 text utf8));
          page = page_read families sound.printable;
          in_range = sound.in_range;
        });
        printable = All-nil IsPrintable;
        in_range = All-nil HasValuesInRange;
        utf8 = IsUtf8-nil;
        begun = tt;
      };
      grown = append-nil (flat_map page_text (pages ++ families ∷ [])) ∙ flat_push page_text pages families ∙ ap (λ l. whole ++ l) is_page ∙ sym (append_assoc whole (body ++ []) (line text));
      place = sym (ap place_behind end);
    }

-- ---- what was read so far begins a stream

pub ascii_utf8 : (text : List ℕ) → list_all (λ c. nat_lt c 128) text ≡ true → IsUtf8 text
ascii_utf8 text low = IsUtf8-from_ascii text (kind_ascii (λ c. nat_lt c 128) (λ c h. ltb-true c 128 h) text low)

pub begins_front : (x y : List ℕ) → BeginsStream (x ++ y) → BeginsStream x
begins_front x y (rest, pages, is) = (y ++ rest, pages, subst (λ l. IsStream l pages) (append_assoc x y rest) is)

begins_before : (old : SoFar) (text : List ℕ) (new : SoFar) → TakesLine old text new → BeginsStream (text_so_far new) → BeginsStream (text_so_far old)
begins_before old text new taken begins = begins_front (text_so_far old) (line text) (subst BeginsStream taken.grown begins)

whole_begins : (pages : List (List Family)) → IsSound (so pages [] Nothing) → BeginsStream (text_so_far (so pages [] Nothing))
whole_begins pages sound =
    let whole = flat_map page_text pages in
    ([], pages, subst (λ l. IsStream l pages) (sym (append-nil (whole ++ []) ∙ append-nil whole)) (pages_stream pages sound.pages))

page_begins : (pages : List (List Family)) (families : List Family) → IsSound (so pages families Nothing) → BeginsStream (text_so_far (so pages families Nothing))
page_begins pages families sound =
    let taken = page_ends pages families (codes "# EOF") sound (ascii_utf8 (codes "# EOF") refl) refl in
    begins_before (so pages families Nothing) (codes "# EOF") (so (pages ++ families ∷ []) [] Nothing) taken (whole_begins (pages ++ families ∷ []) taken.sound)

block_begins : (pages : List (List Family)) (families : List Family) (family : Family) → 0 < length family.rows → IsSound (so pages families (Block family)) → BeginsStream (text_so_far (so pages families (Block family)))
block_begins pages families family some sound =
    let taken = block_ends pages families family [] sound IsUtf8-nil refl some in
    begins_before (so pages families (Block family)) [] (so pages (families ++ family ∷ []) Nothing) taken (page_begins pages (families ++ family ∷ []) taken.sound)

-- a row that any block may have
abbrev some_row : Row
some_row = record { name = codes "a"; labels = []; value = pos 0 }

pub zero_fits : FitsSigned w128 (pos 0)
zero_fits = record { sfits = omega arith }

rows_begin : (pages : List (List Family)) (families : List Family) (family : Family) → IsSound (so pages families (Block family)) → BeginsStream (text_so_far (so pages families (Block family)))
rows_begin pages families family sound =
    let number : IsUtf8 (page_number (pos 0)) = IsUtf8-from_ascii (page_number (pos 0)) (kind_ascii in_number number_low (page_number (pos 0)) (number_all (pos 0) zero_fits)) in
    let text : List ℕ = row_line some_row in
    let utf8 : IsUtf8 text = IsUtf8-append (codes "a ") (page_number (pos 0)) (ascii_utf8 (codes "a ") refl) number in
    let is : IsRowLine text some_row = record { named = refl; labels = All-nil IsReadableLabel; fits = zero_fits; spelled = refl } in
    let taken = row_follows pages families family text some_row sound utf8 is in
    begins_before (so pages families (Block family)) text (so pages families (Block (with_row family some_row))) taken
    (block_begins pages families (with_row family some_row) (one_more family.rows) taken.sound)
  where
    one_more : (rows : List Row) → 0 < length (rows ++ some_row ∷ [])
    one_more [] = omega arith
    one_more (r ∷ rows) = omega arith

pub begins_so_far : (pages : List (List Family)) (families : List Family) (begun : BegunText) → IsSound (so pages families begun) → BeginsStream (text_so_far (so pages families begun))
begins_so_far pages families Nothing sound = page_begins pages families sound
begins_so_far pages families (Block family) sound = rows_begin pages families family sound
begins_so_far pages families (Help name help) sound =
    let text : List ℕ = codes "# TYPE " ++ name ++ codes " " ++ type_text Counter in
    let utf8 : IsUtf8 text = IsUtf8-append (codes "# TYPE " ++ name ++ codes " ") (type_text Counter) (IsUtf8-append (codes "# TYPE " ++ name) (codes " ") (IsUtf8-append (codes "# TYPE ") name (ascii_utf8 (codes "# TYPE ") refl) (name_utf8 true name sound.begun)) (ascii_utf8 (codes " ") refl)) (ascii_utf8 (type_text Counter) refl) in
    let taken = type_follows pages families text name help Counter sound utf8 (record { named = sound.begun; spelled = refl }) in
    begins_before (so pages families (Help name help)) text (so pages families (Block (helped name help Counter))) taken (rows_begin pages families (helped name help Counter) taken.sound)
