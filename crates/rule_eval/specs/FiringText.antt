-- The text of what fires (this project's rules).
use Rattle.std.specs.Prelude.{ℕ, suc, List, [], ◌∷◌, ◌++◌, map, zip, flat_map, length, ℤ, Option, None, Some, codes, decimal, slice_get}
use Rattle.metrics_core.specs.Characters.{line}
use Rattle.metrics_core.specs.Keys.{LabelText}
use Rattle.metrics_core.specs.Numbers.{page_number}
use Rattle.prom_format.specs.Names.{sanitized_label_name}
use Rattle.prom_format.specs.Pages.{Family, labels_text}
use Rattle.drive_script.specs.Words.{quoted}
use Rattle.rule_eval.specs.Firing.{FiringText, Group, firings_on}
use Rattle.rule_eval.specs.Rules.{RuleText}

-- the labels of a group: the rule's keys, made label keys, with the group's values
abbrev pub labels_of : List (List ℕ) → Group → List LabelText
labels_of keys values = map (λ pair. record { key = sanitized_label_name pair.0; value = pair.1 }) (zip keys values)

-- the line of a rule's group with this value, on the page of this number
abbrev pub firing_line : ℕ → RuleText → Group → ℤ → List ℕ
firing_line page rule group value =
    line (decimal page ++ codes " " ++ quoted rule.title ++ codes " {" ++ labels_text (labels_of rule.keys group) ++ codes "} " ++ page_number value)

-- the line of what fires, by the number of its rule
abbrev pub line_if : ℕ → FiringText → Option RuleText → List ℕ
line_if page firing None = []
line_if page firing (Some rule) = firing_line page rule firing.group firing.value

abbrev pub line_of : List RuleText → ℕ → FiringText → List ℕ
line_of rules page firing = line_if page firing (slice_get rules firing.rule)

-- the lines of each page, from the page of this number on
abbrev pub lines_from : List RuleText → ℕ → List (List FiringText) → List ℕ
lines_from rules page [] = []
lines_from rules page (fired ∷ others) = flat_map (line_of rules page) fired ++ lines_from rules (suc page) others

-- what is written of some pages, and how many lines that is
abbrev pub evaluated_text : List RuleText → List (List Family) → List ℕ
evaluated_text rules pages = lines_from rules 1 (firings_on rules [] pages)

abbrev pub count_fired : List RuleText → List (List Family) → ℕ
count_fired rules pages = length (flat_map (λ fired. fired) (firings_on rules [] pages))
