-- What is kept of series for the rows of pages: of each its printed label set, and the places of the series of each family.
use Rattle.std.specs.Prelude.{◌≡◌, ℕ, List, [], ◌++◌, map, filter, flat_map, slice_get, ℤ, Option, Some, None, true, bytes_eq, codes, string_bytes}
use Rattle.std.specs.List.{enumerate_from}
use Rattle.std.specs.declared.string.String.{String}
use Rattle.std.specs.declared.vec.Vec.{Vec}
use Rattle.std.specs.declared.alloc.Global.{Global}
use Rattle.metrics_core.specs.Characters.{line}
use Rattle.metrics_core.specs.Numbers.{page_number}
use Rattle.metrics_core.specs.Keys.{KeyText, LabelText}
use Rattle.metrics_registry.specs.Live.{LiveSeries}
use Rattle.prom_format.specs.Names.{sanitized_metric_name}
use Rattle.prom_format.specs.Lines.{shown_label_set}
use Rattle.prom_format.specs.Pages.{label_set_text, type_text}
use Rattle.prom_format.specs.declared.families.FamilyType.{FamilyType}
use Rattle.prom_exporter.specs.Naming.{NamingText, shown_name, title_text}
use Rattle.prom_exporter.specs.State.{metric_name_of}
use Rattle.prom_exporter.specs.Values.{grouped}

-- of each series its label set, as it is printed, and of each family its metric name and the places of its series
pub record RowsText : Type 0 where
  pub label_sets : List (List ℕ)
  pub families : List (List ℕ × List ℕ)

-- the label set of a series, as it is printed
abbrev pub label_set_of : List LabelText → KeyText → List ℕ
label_set_of globals key = label_set_text (shown_label_set globals key.labels)

-- the metric name of a series, given with its place
abbrev pub name_at : ℕ × KeyText → List ℕ
name_at placed = sanitized_metric_name placed.1.name

-- a group of series, given with their places, as its name and the places
abbrev pub places_of : {X : Type 0} → List ℕ × List (ℕ × X) → List ℕ × List ℕ
places_of group = (group.0, map (λ placed. placed.0) group.1)

-- what is kept of series with these keys
abbrev pub rows_of : List LabelText → List KeyText → RowsText
rows_of globals keys = record {
  label_sets = map (label_set_of globals) keys;
  families = map places_of (grouped name_at (enumerate_from 0 keys));
}

-- those of some keys that have a metric name
abbrev pub keys_named : List ℕ → List KeyText → List KeyText
keys_named name keys = filter (λ key. bytes_eq (metric_name_of key) name) keys

abbrev pub keys_of : {X : Type 0} → List (LiveSeries X) → List KeyText
keys_of live = map (λ series. series.key) live

-- a family as the program keeps it
abbrev pub family_kept : String Global × Vec ℕ Global → List ℕ × List ℕ
family_kept entry = (string_bytes entry.0, entry.1.items)

-- the family at a place has a name
abbrev pub HasNameAt : List ℕ → List (String Global × Vec ℕ Global) → ℕ → Type 0
HasNameAt name entries place = (entry : String Global × Vec ℕ Global) × (slice_get entries place ≡ Some entry) × (bytes_eq name (string_bytes entry.0) ≡ true)

-- ---- the lines that are written of what is kept

-- a row: the full name of its family, the printed label set, a space and the value, in billionths
abbrev pub value_line : List ℕ → List ℕ → ℤ → List ℕ
value_line name labels value = line (name ++ labels ++ codes " " ++ page_number value)

module _ {X : Type 0} (shown : X → ℤ) where
  -- the row of a series
  abbrev pub kept_row : List ℕ → List ℕ → X → List ℕ
  kept_row name labels cell = value_line name labels (shown cell)

  -- the row of the series at a place, if there is one
  abbrev pub row_if : List ℕ → Option (List ℕ) → Option (LiveSeries X) → List ℕ
  row_if name (Some labels) (Some series) = kept_row name labels series.cell
  row_if name (Some labels) None = []
  row_if name None series = []

  abbrev pub row_at : List ℕ → List (List ℕ) → List (LiveSeries X) → ℕ → List ℕ
  row_at name label_sets live place = row_if name (slice_get label_sets place) (slice_get live place)

  -- the block of a family
  abbrev pub kept_block : NamingText → Option (List ℕ) → FamilyType → List (List ℕ) → List (LiveSeries X) → List ℕ × List ℕ → List ℕ
  kept_block naming suffix type label_sets live family =
      title_text naming suffix (type_text type) family.0 ++ flat_map (row_at (shown_name naming suffix family.0) label_sets live) family.1 ++ line []
