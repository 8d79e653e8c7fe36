-- Which lines may stand next on a page, and how the pages so far grow by one.
use Rattle.std.specs.Prelude.{◌≡◌, ◌⊎◌, ℕ, ◌==◌, List, [], ◌∷◌, ◌++◌, map, take, drop, Some, codes, flat_map, All, IsUtf8, Option, MatchOption, string_bytes, if◌then◌else◌}
use Rattle.std.specs.List.{position_or_len}
use Rattle.metrics_core.specs.Characters.{space, line}
use Rattle.prom_format.specs.Names.{IsMetricName}
use Rattle.prom_format.specs.Pages.{Row, Family, help_text, type_line_text, row_text, body_text, page_text, IsPrintable, IsPrintableRow, HasValuesInRange, AreInRange}
use Rattle.prom_format.specs.declared.families.FamilyType.{FamilyType}
use Rattle.page_relay.specs.Reading.{IsHelpLine, IsTypeLine, IsRowLine}
use Rattle.page_relay.specs.Streams.{IsRelayPage}
use Rattle.page_relay.specs.Values.{family_of, families_of}
use Rattle.page_relay.specs.declared.pages.Family.{Family as RelayFamily}
use Rattle.page_relay.specs.declared.pages.Page.{Page}
use Rattle.page_relay.specs.declared.progress.Begun.{Begun}
use Rattle.page_relay.specs.declared.progress.Begun.TheVariants as opened
use Rattle.page_relay.specs.declared.progress.PagesSoFar.{PagesSoFar}

-- where the next line stands: at the start of a page, behind a block, behind the help line of a name, behind a type
-- line, or behind a row
pub data Place : Type 0 where
  Start : Place
  Between : Place
  Helped : List ℕ → Place
  Typed : Place
  InRows : Place

-- the name in a comment, behind its word and a space
abbrev pub name_in : List ℕ → List ℕ
name_in text = take (position_or_len (λ c. c == space) text) text

-- the place behind a line, by its first characters: a comment is told by its third one, `T` of a type line and `H` of a
-- help line
abbrev pub place_behind_comment : List ℕ → Place
place_behind_comment [] = Start
place_behind_comment (b ∷ []) = Start
place_behind_comment (b ∷ c ∷ text) =
    if c == 84 then Typed else if c == 72 then Helped (name_in (drop 4 text)) else Start

abbrev pub place_behind : List ℕ → Place
place_behind [] = Between
place_behind (c ∷ text) = if c == 35 then place_behind_comment text else InRows

-- the place behind some lines
abbrev pub place_behind_all : Place → List (List ℕ) → Place
place_behind_all place [] = place
place_behind_all place (first ∷ lines) = place_behind_all (place_behind first) lines

-- the line ends a page or begins a block
abbrev pub FitsBetween : List ℕ → Type 0
FitsBetween text =
    (text ≡ codes "# EOF")
    ⊎ (((name help : List ℕ) × IsHelpLine text name help)
    ⊎ ((name : List ℕ) × (type : FamilyType) × IsTypeLine text name type))

-- the line may stand at this place
abbrev pub Fits : Place → List ℕ → Type 0
Fits Start text = FitsBetween text
Fits Between text = FitsBetween text
Fits (Helped name) text = (type : FamilyType) × IsTypeLine text name type
Fits Typed text = (row : Row) × IsRowLine text row
Fits InRows text = (text ≡ []) ⊎ ((row : Row) × IsRowLine text row)

-- ---- the pages so far

-- what is begun of a family: nothing, its help line, or its type line and maybe rows
pub data BegunText : Type 0 where
  Nothing : BegunText
  Help : List ℕ → List ℕ → BegunText
  Block : Family → BegunText

-- the whole pages, the whole families of the page that isn't, and what is begun
pub record SoFar : Type 0 where
  pub pages : List (List Family)
  pub families : List Family
  pub begun : BegunText

abbrev pub begun_of : Begun → BegunText
begun_of opened.Between = Nothing
begun_of (opened.Helped name help) = Help (string_bytes name) (string_bytes help)
begun_of (opened.Block family) = Block (family_of family)

abbrev pub parts_so_far : List Page → List RelayFamily → Begun → SoFar
parts_so_far pages families begun = record {
  pages = map families_of pages;
  families = map family_of families;
  begun = begun_of begun;
}

abbrev pub so_far : PagesSoFar → SoFar
so_far progress = parts_so_far progress.pages.items progress.families.items progress.begun

abbrev pub block_so_far : Family → List ℕ
block_so_far family =
    help_text family.name family.help ++ type_line_text family.name family.type ++ flat_map row_text family.rows

abbrev pub begun_text : BegunText → List ℕ
begun_text Nothing = []
begun_text (Help name help) = help_text name (Some help)
begun_text (Block family) = block_so_far family

abbrev pub text_so_far : SoFar → List ℕ
text_so_far so = flat_map page_text so.pages ++ (body_text so.families ++ begun_text so.begun)

abbrev pub place_in_rows : List Row → Place
place_in_rows [] = Typed
place_in_rows (row ∷ rows) = InRows

abbrev pub place_between : List Family → Place
place_between [] = Start
place_between (family ∷ families) = Between

abbrev pub place_at : List Family → BegunText → Place
place_at families Nothing = place_between families
place_at families (Help name help) = Helped name
place_at families (Block family) = place_in_rows family.rows

abbrev pub place_of : SoFar → Place
place_of so = place_at so.families so.begun

abbrev pub IsBegunSound : BegunText → Type 0
IsBegunSound Nothing = Unit {0}
IsBegunSound (Help name help) = IsMetricName name
IsBegunSound (Block family) = IsMetricName family.name × (All IsPrintableRow family.rows × HasValuesInRange family)

-- what was read so far can stand on pages that are relayed
pub record IsSound (so : SoFar) : Type 0 where
  pub pages : All (λ page. IsRelayPage (page_text page) page) so.pages
  pub printable : All IsPrintable so.families
  pub in_range : AreInRange so.families
  pub utf8 : IsUtf8 (body_text so.families ++ begun_text so.begun)
  pub begun : IsBegunSound so.begun

-- one more line stands behind the others
pub record TakesLine (old : SoFar) (text : List ℕ) (new : SoFar) : Type 0 where
  pub sound : IsSound new
  pub grown : text_so_far new ≡ text_so_far old ++ line text
  pub place : place_of new ≡ place_behind text

-- the progress behind one more line that may stand there, or nothing where it may not
abbrev pub IsNext : Type 0 → SoFar → List ℕ → Option PagesSoFar → Type 0
IsNext may old text next = MatchOption next (¬ may) (λ new. TakesLine old text (so_far new))
