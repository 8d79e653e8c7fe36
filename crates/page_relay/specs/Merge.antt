-- What pages of several exporters become (this project's rule, over the types of metrics of the Prometheus text
-- exposition format).
use Rattle.std.specs.Prelude.{◌≡◌, ℕ, ◌+◌, Bool, true, false, ◌&&◌, List, [], ◌∷◌, ◌++◌, map, filter, flat_map, fold, ℤ, pos, ◌+ℤ◌, Option, Some, None, codes, decimal, bytes_eq, All, AllPairs, ⊤, if◌then◌else◌}
use Rattle.std.specs.Cmp.Lexicographic.{pointwise}
use Rattle.std.specs.List.{list_any}
use Rattle.std.specs.Int.{w128}
use Rattle.std.specs.Int.RustNames.{FitsSigned}
use Rattle.metrics_core.specs.Keys.{LabelText, label_eq}
use Rattle.prom_format.specs.Pages.{Row, Family}
use Rattle.prom_format.specs.declared.families.FamilyType.{FamilyType}
use Rattle.prom_format.specs.declared.families.FamilyType.TheVariants.{Counter, Gauge, Histogram, Summary}

-- a family with the number of its page, counted from 1, and the families of all pages as one list
pub record Numbered : Type 0 where
  pub page : ℕ
  pub family : Family

abbrev pub on_page : ℕ → List Family → List Numbered
on_page page families = map (λ family. record { page = page; family = family }) families

abbrev pub numbered_from : ℕ → List (List Family) → List Numbered
numbered_from n [] = []
numbered_from n (page ∷ pages) = on_page n page ++ numbered_from (n + 1) pages

abbrev pub numbered : List (List Family) → List Numbered
numbered pages = numbered_from 1 pages

-- ---- rows

-- a row with the number of its page
pub record NumberedRow : Type 0 where
  pub page : ℕ
  pub row : Row

abbrev pub numbered_rows : ℕ → List Row → List NumberedRow
numbered_rows page rows = map (λ row. record { page = page; row = row }) rows

abbrev pub rows_of : Numbered → List NumberedRow
rows_of n = numbered_rows n.page n.family.rows

abbrev pub last_key_is : List ℕ → List LabelText → Bool
last_key_is key [] = false
last_key_is key (label ∷ []) = bytes_eq label.key key
last_key_is key (label ∷ other ∷ labels) = last_key_is key (other ∷ labels)

-- values of several exporters that can't be added: those of gauges, and quantiles of summaries
abbrev pub is_kept : FamilyType → Row → Bool
is_kept Counter row = false
is_kept Gauge row = true
is_kept Histogram row = false
is_kept Summary row = last_key_is (codes "quantile") row.labels

-- the row with the label `page` of its page's number before its other labels
abbrev pub with_page : NumberedRow → Row
with_page n = record {
  name = n.row.name;
  labels = record { key = codes "page"; value = decimal n.page } ∷ n.row.labels;
  value = n.row.value;
}

-- rows of one name with the same labels
abbrev pub same_row : Row → Row → Bool
same_row a b = bytes_eq a.name b.name && pointwise label_eq a.labels b.labels

abbrev pub is_same : Row → NumberedRow → Bool
is_same row other = same_row row other.row

-- the sum of all values that rows with this name and these labels have
abbrev pub sum_of : Row → List NumberedRow → ℤ
sum_of row rows = fold (λ total other. total +ℤ other.row.value) (pos 0) (filter (is_same row) rows)

-- What rows of one name become, given all of them and those before: a kept row stands as often as it appears, an added
-- one where it appears first, with the sum of all its values.
abbrev pub merged_row : FamilyType → List NumberedRow → List NumberedRow → NumberedRow → List Row
merged_row type all before n =
    if is_kept type n.row then with_page n ∷ []
    else if list_any (is_same n.row) before then []
    else record { name = n.row.name; labels = n.row.labels; value = sum_of n.row all } ∷ []

abbrev pub merged_rows_behind : FamilyType → List NumberedRow → List NumberedRow → List NumberedRow → List Row
merged_rows_behind type all before [] = []
merged_rows_behind type all before (n ∷ rows) =
    merged_row type all before n ++ merged_rows_behind type all (before ++ n ∷ []) rows

abbrev pub merged_rows : FamilyType → List NumberedRow → List Row
merged_rows type rows = merged_rows_behind type rows [] rows

-- ---- families

abbrev pub has_name : List ℕ → Numbered → Bool
has_name name n = bytes_eq name n.family.name

-- all rows of the families of a name
abbrev pub rows_named : List ℕ → List Numbered → List NumberedRow
rows_named name families = flat_map rows_of (filter (has_name name) families)

-- the first of two helps that is there
abbrev pub first_of : Option (List ℕ) → Option (List ℕ) → Option (List ℕ)
first_of None other = other
first_of (Some help) other = Some help

-- the first help that is there
abbrev pub first_help : List Numbered → Option (List ℕ)
first_help [] = None
first_help (n ∷ families) = first_of n.family.help (first_help families)

-- what the families of the name of this one become
abbrev pub merged_family : List Numbered → Family → Family
merged_family all family = record {
  help = first_help (filter (has_name family.name) all);
  name = family.name;
  type = family.type;
  rows = merged_rows family.type (rows_named family.name all);
}

-- the merged families: the distinct names in order of first appearance
abbrev pub merged_behind : List Numbered → List Numbered → List Numbered → List Family
merged_behind all before [] = []
merged_behind all before (n ∷ families) =
    (if list_any (has_name n.family.name) before then [] else merged_family all n.family ∷ [])
    ++ merged_behind all (before ++ n ∷ []) families

abbrev pub merged : List Numbered → List Family
merged families = merged_behind families [] families

-- ---- which families merge

-- the sum after the value of a row, where values of its kind are added, fits in 128 bits
abbrev pub SumFits : FamilyType → List NumberedRow → NumberedRow → Type 0
SumFits type before n = is_kept type n.row ≡ false → FitsSigned w128 (sum_of n.row (before ++ n ∷ []))

-- the sum after each value of an added row fits, of rows that stand behind others
abbrev pub SumsFitBehind : FamilyType → List NumberedRow → List NumberedRow → Type 0
SumsFitBehind type before [] = ⊤
SumsFitBehind type before (n ∷ rows) = SumFits type before n × SumsFitBehind type (before ++ n ∷ []) rows

abbrev pub SumsFit : FamilyType → List NumberedRow → Type 0
SumsFit type rows = SumsFitBehind type [] rows

abbrev pub SameType : Numbered → Numbered → Type 0
SameType a b = a.family.name ≡ b.family.name → a.family.type ≡ b.family.type

pub record Merges (families : List Numbered) : Type 0 where
  pub types : AllPairs SameType families
  pub sums : All (λ n. SumsFit n.family.type (rows_named n.family.name families)) families

-- the families that merge become these
pub record IsMerged (pages : List (List Family)) (families : List Family) : Type 0 where
  pub merges : Merges (numbered pages)
  pub are : families ≡ merged (numbered pages)

-- the family of this name on this page, from 1, is the last one of the shortest prefix that doesn't merge
pub record IsConflict (pages : List (List Family)) (page : ℕ) (name : List ℕ) : Type 0 where
  pub before : List Numbered
  pub behind : List Numbered
  pub family : Family
  pub split : numbered pages ≡ before ++ record { page = page; family = family } ∷ behind
  pub merges_before : Merges before
  pub refused : ¬ Merges (before ++ record { page = page; family = family } ∷ [])
  pub named : name ≡ family.name
