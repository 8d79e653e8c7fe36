-- What the code that merges has so far, and what one more row or family makes of it.
use Rattle.std.specs.Prelude.{◌≡◌, ℕ, suc, Bool, true, false, ◌&&◌, List, [], ◌∷◌, ◌++◌, map, flat_map, filter, ℤ, pos, ◌+ℤ◌, Option, Some, None, option_map, string_bytes, if◌then◌else◌, slice_get, slice_set, All, ⊤}
use Rattle.std.specs.Cmp.Lexicographic.{pointwise}
use Rattle.std.specs.Int.{w128}
use Rattle.std.specs.Int.RustNames.{FitsSigned}
use Rattle.std.specs.List.{list_any}
use Rattle.std.specs.String.{string_eq}
use Rattle.std.specs.declared.string.String.{String}
use Rattle.std.specs.declared.vec.Vec.{Vec}
use Rattle.std.specs.declared.alloc.Global.{Global}
use Rattle.indexmap.specs.IndexMap.{get}
use Rattle.prom_format.specs.Pages.{Row}
use Rattle.prom_format.specs.Pages as text
use Rattle.prom_format.specs.declared.families.FamilyType.{FamilyType}
use Rattle.page_relay.specs.Merge.{Numbered, NumberedRow, has_name, first_help, is_kept, merged_rows, same_row, rows_of, Merges, SumFits, SumsFit}
use Rattle.page_relay.specs.Values.{label_of, row_of}
use Rattle.page_relay.specs.declared.gathering.Gathered.{Gathered}
use Rattle.page_relay.specs.declared.gathering.GatheredRows.{GatheredRows}
use Rattle.page_relay.specs.declared.merging.Merging.{Merging}

-- the first place at which the test passes
abbrev pub first_place : {X : Type 0} → (X → Bool) → List X → Option ℕ
first_place test [] = None
first_place test (x ∷ xs) = if test x then Some 0 else option_map suc (first_place test xs)

-- R holds of what stands at each place of two lists, which are as long
abbrev pub Alongside : {X Y : Type 0} → (X → Y → Type 0) → List X → List Y → Type 0
Alongside R [] [] = ⊤
Alongside R [] (y ∷ ys) = ⊥
Alongside R (x ∷ xs) [] = ⊥
Alongside R (x ∷ xs) (y ∷ ys) = R x y × Alongside R xs ys

-- ---- rows

abbrev pub RowKey : Type 0
RowKey = String Global × Vec (String Global × String Global) Global

abbrev pub row_key_eq : RowKey → RowKey → Bool
row_key_eq a b = string_eq a.0 b.0 && pointwise (λ x y. string_eq x.0 y.0 && string_eq x.1 y.1) a.1.items b.1.items

-- a row with the name and the labels of the key
abbrev pub keyed : RowKey → Row
keyed key = record { name = string_bytes key.0; labels = map label_of key.1.items; value = pos 0 }

-- rows are what these numbered rows become, and the place of the row of each added key is found
pub record RowsStand (type : FamilyType) (rows : List Row) (places : RowKey → Option ℕ) (numbered : List NumberedRow) : Type 0 where
  pub are : rows ≡ merged_rows type numbered
  pub found : (key : RowKey) → is_kept type (keyed key) ≡ false → places key ≡ first_place (same_row (keyed key)) rows

abbrev pub RowsSoFar : FamilyType → GatheredRows → List NumberedRow → Type 0
RowsSoFar type rows numbered = RowsStand type (map row_of rows.rows.items) (get row_key_eq rows.places) numbered

-- one more row is taken where its sum fits
abbrev pub TakesRow : FamilyType → GatheredRows → GatheredRows → NumberedRow → Bool → Type 0
TakesRow type old new n true =
    (before : List NumberedRow) → RowsSoFar type old before
    → SumFits type before n × RowsSoFar type new (before ++ n ∷ [])
TakesRow type old new n false = (before : List NumberedRow) → RowsSoFar type old before → ¬ SumFits type before n

-- rows are taken where all sums fit
abbrev pub TakesRows : FamilyType → GatheredRows → GatheredRows → List NumberedRow → Bool → Type 0
TakesRows type old new rows true =
    (before : List NumberedRow) → RowsSoFar type old before → SumsFit type before
    → SumsFit type (before ++ rows) × RowsSoFar type new (before ++ rows)
TakesRows type old new rows false =
    (before : List NumberedRow) → RowsSoFar type old before → ¬ SumsFit type (before ++ rows)

-- what adding a value to the row at a place makes of rows
abbrev pub with_value : Row → ℤ → Row
with_value row value = record { name = row.name; labels = row.labels; value = value }

abbrev pub AddsValue : List Row → List Row → ℕ → ℤ → Bool → Type 0
AddsValue old new place value true =
    (row : Row) × (slice_get old place ≡ Some row) × FitsSigned w128 (row.value +ℤ value)
    × (new ≡ slice_set old place (with_value row (row.value +ℤ value)))
AddsValue old new place value false =
    (row : Row) → slice_get old place ≡ Some row → ¬ FitsSigned w128 (row.value +ℤ value)

-- ---- families

abbrev pub family_so_far : Gathered → text.Family
family_so_far g = record {
  help = option_map string_bytes g.help;
  name = string_bytes g.name;
  type = g.shape;
  rows = map row_of g.rows.rows.items;
}

-- what the families of one name became
pub record Stands (g : Gathered) (group : List Numbered) : Type 0 where
  pub help : option_map string_bytes g.help ≡ first_help group
  pub types : All (λ n. n.family.type ≡ g.shape) group
  pub sums : SumsFit g.shape (flat_map rows_of group)
  pub rows : RowsSoFar g.shape g.rows (flat_map rows_of group)

-- one more family is taken where it has the type of the others and all sums fit
abbrev pub TakesMember : Gathered → Gathered → Numbered → Bool → Type 0
TakesMember old new n true =
    (group : List Numbered) → Stands old group
    → Stands new (group ++ n ∷ [])
    × (n.family.type ≡ old.shape) × (new.shape ≡ old.shape) × (string_bytes new.name ≡ string_bytes old.name)
TakesMember old new n false =
    (group : List Numbered) → Stands old group → n.family.type ≡ old.shape
    → ¬ SumsFit old.shape (flat_map rows_of (group ++ n ∷ []))

-- the first families of each name, of families that stand behind others
abbrev pub firsts_behind : List Numbered → List Numbered → List Numbered
firsts_behind before [] = []
firsts_behind before (n ∷ families) =
    (if list_any (has_name n.family.name) before then [] else n ∷ []) ++ firsts_behind (before ++ n ∷ []) families

abbrev pub firsts : List Numbered → List Numbered
firsts families = firsts_behind [] families

-- what the families of the name of this one became
pub record StandsFor (all : List Numbered) (g : Gathered) (first : Numbered) : Type 0 where
  pub name : string_bytes g.name ≡ first.family.name
  pub type : g.shape ≡ first.family.type
  pub group : Stands g (filter (has_name first.family.name) all)

pub record FamiliesStand (merging : Merging) (all : List Numbered) : Type 0 where
  pub merges : Merges all
  pub are : Alongside (StandsFor all) merging.families.items (firsts all)
  pub found : (name : String Global)
      → get string_eq merging.places name ≡ first_place (has_name (string_bytes name)) (firsts all)

pub record IsPlaced (merging : Merging) (before : List Numbered) (n : Numbered) (place : ℕ) : Type 0 where
  pub are : Alongside (StandsFor before) merging.families.items (firsts (before ++ n ∷ []))
  pub found : (name : String Global)
      → get string_eq merging.places name ≡ first_place (has_name (string_bytes name)) (firsts (before ++ n ∷ []))
  pub there : first_place (has_name n.family.name) (firsts (before ++ n ∷ [])) ≡ Some place

-- the family into which one more is merged stands at this place; where there was none before, it has no rows
abbrev pub HasPlace : Merging → Merging → text.Family → ℕ → Type 0
HasPlace old new family place =
    (page : ℕ) (before : List Numbered) → FamiliesStand old before
    → IsPlaced new before (record { page = page; family = family }) place

-- one more family is taken where it merges with those before it
abbrev pub TakesFamily : Merging → Merging → Numbered → Bool → Type 0
TakesFamily old new n true = (before : List Numbered) → FamiliesStand old before → FamiliesStand new (before ++ n ∷ [])
TakesFamily old new n false = (before : List Numbered) → FamiliesStand old before → ¬ Merges (before ++ n ∷ [])
