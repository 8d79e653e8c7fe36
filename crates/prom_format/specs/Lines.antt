-- The labels of a row as they are meant, and the lines of a page (Prometheus text exposition format, "Line format").
use Rattle.std.specs.Prelude.{ℕ, Bool, true, if◌then◌else◌, List, [], ◌∷◌, ◌++◌, map, flat_map, Option, Some, None, option_map, codes}
use Rattle.std.specs.Borrow.{Bor}
use Rattle.metrics_core.specs.Characters.{line}
use Rattle.metrics_core.specs.Keys.{LabelText, label_set}
use Rattle.metrics_core.specs.declared.units.Unit.{Unit as UnitOf}
use Rattle.prom_format.specs.Names.{sanitized_label_name, full_name}
use Rattle.prom_format.specs.Printed.{canonical_label_value, canonical_description}
use Rattle.prom_format.specs.Pages.{label_text, label_set_text, help_text}

-- a label as it is meant: a label name, and the canonical value
abbrev pub shown_label : LabelText → LabelText
shown_label label = record { key = sanitized_label_name label.key; value = canonical_label_value label.value }

-- the label set of a series as it is meant: the global labels, and those of its key
abbrev pub shown_label_set : List LabelText → List LabelText → List LabelText
shown_label_set globals labels = map shown_label (label_set globals labels)

-- the help line, type line and row that the writing calls make; the name is taken as it is
abbrev pub help_line : List ℕ → Option UnitOf → Option (List ℕ) → List ℕ → List ℕ
help_line name unit suffix text = help_text (full_name name unit suffix) (Some (canonical_description text))

abbrev pub type_line : List ℕ → Option UnitOf → Option (List ℕ) → List ℕ → List ℕ
type_line name unit suffix type = line (codes "# TYPE " ++ full_name name unit suffix ++ codes " " ++ type)

-- one more label of two texts that are lent, where there is one
abbrev pub lent_label : Option (Bor (List ℕ) × Bor (List ℕ)) → Option (List ℕ × List ℕ)
lent_label label = option_map (λ l. (l.0.now, l.1.now)) label

-- one more label, which is written as it is
abbrev pub additional_text : Option (List ℕ × List ℕ) → List (List ℕ)
additional_text None = []
additional_text (Some (name, value)) = (name ++ codes "=\"" ++ value ++ codes "\"") ∷ []

abbrev pub behind_commas : List (List ℕ) → List ℕ
behind_commas texts = flat_map (λ text. codes "," ++ text) texts

abbrev pub braced : List (List ℕ) → List ℕ
braced [] = []
braced (first ∷ others) = codes "{" ++ first ++ behind_commas others ++ codes "}"

-- the same piece by piece: texts of labels, each behind a comma, but the first behind a brace where none stands before it
abbrev pub separated : Bool → List (List ℕ) → List ℕ
separated any [] = []
separated any (text ∷ texts) = (if any then codes "," else codes "{") ++ text ++ separated true texts

-- whether any label stands there once these stand behind what was there
abbrev pub any_behind : Bool → List (List ℕ) → Bool
any_behind any [] = any
any_behind any (text ∷ texts) = true

-- the brace behind labels
abbrev pub closing : Bool → List ℕ
closing any = if any then codes "}" else []

-- the labels of a row, each as it is printed
abbrev pub label_texts : List LabelText → List (List ℕ)
label_texts labels = map (λ l. label_text (shown_label l)) labels

abbrev pub metric_line : List ℕ → Option (List ℕ) → List LabelText → Option (List ℕ × List ℕ) → List ℕ → Option UnitOf → List ℕ
metric_line name suffix labels additional value unit =
    line (full_name name unit suffix ++ braced (label_texts labels ++ additional_text additional) ++ codes " " ++ value)

-- what each row of a series begins with: its metric name and its label set
abbrev pub head_text : List ℕ → List LabelText → List ℕ
head_text name labels = name ++ label_set_text labels
