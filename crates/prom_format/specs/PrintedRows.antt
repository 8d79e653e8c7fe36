-- Rows of a series whose label set is printed already (Prometheus text exposition format, "Line format").
use Rattle.std.specs.Prelude.{◌≡◌, ℕ, List, [], ◌∷◌, ◌++◌, ℤ, Option, Some, None, codes}
use Rattle.metrics_core.specs.Characters.{line}
use Rattle.metrics_core.specs.Numbers.{page_number}
use Rattle.metrics_core.specs.Keys.{LabelText}
use Rattle.metrics_core.specs.declared.units.Unit.{Unit as UnitOf}
use Rattle.prom_format.specs.Names.{full_name}
use Rattle.prom_format.specs.Printed.{escaped_label_value}
use Rattle.prom_format.specs.Pages.{label_set_text}

-- the text is a label set
abbrev pub IsPrintedSet : List ℕ → Type 0
IsPrintedSet text = (labels : List LabelText) × (text ≡ label_set_text labels)

-- a comma in place of the last character
abbrev pub comma_last : List ℕ → List ℕ
comma_last [] = []
comma_last (c ∷ []) = codes ","
comma_last (c ∷ d ∷ cs) = c ∷ comma_last (d ∷ cs)

-- a label set up to where one more label stands in it: behind a brace where there is none, else behind a comma
abbrev pub opened : List ℕ → List ℕ
opened [] = codes "{"
opened (c ∷ cs) = comma_last (c ∷ cs)

-- a label set with one more label, of which the value is escaped already, at its end
abbrev pub with_label : List ℕ → List ℕ → List ℕ → List ℕ
with_label labels key value = opened labels ++ key ++ codes "=\"" ++ value ++ codes "\"}"

abbrev pub label_set_with : List ℕ → Option (List ℕ × List ℕ) → List ℕ
label_set_with labels None = labels
label_set_with labels (Some label) = with_label labels label.0 label.1

-- the row: the full name, the label set, and the value
abbrev pub row_line : List ℕ → Option UnitOf → Option (List ℕ) → List ℕ → Option (List ℕ × List ℕ) → ℤ → List ℕ
row_line name unit suffix labels label value = line (full_name name unit suffix ++ label_set_with labels label ++ codes " " ++ page_number value)

-- it is the row of the page grammar: a label set with one more label is that of the labels with this one behind
abbrev pub IsRowOfLabels : Type 0
IsRowOfLabels =
    (labels : List LabelText) (label : LabelText)
    → label_set_with (label_set_text labels) (Some (label.key, escaped_label_value label.value)) ≡ label_set_text (labels ++ label ∷ [])
