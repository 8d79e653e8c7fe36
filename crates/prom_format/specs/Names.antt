-- Metric names and label names (Prometheus data model, "Metric names and labels"), and the full name of a row.
use Rattle.std.specs.Prelude.{ℕ, ◌-◌, Bool, false, ◌&&◌, ◌||◌, ◌==◌, nat_eq, List, [], ◌∷◌, ◌++◌, map, length, take, Option, Some, None, chars, codes, find, unwrap_or, if◌then◌else◌, IsTrue}
use Rattle.std.specs.List.{list_all, ends_with}
use Rattle.metrics_core.specs.Characters.{is_digit, is_letter, underscore, colon}
use Rattle.metrics_core.specs.Units.{unit_text}
use Rattle.metrics_core.specs.declared.units.Unit.{Unit as UnitOf}
use Rattle.metrics_core.specs.declared.units.Unit.TheVariants.{Count, Percent}

-- a metric name begins with an ASCII letter, `_` or `:`, and goes on with these and digits: [a-zA-Z_:][a-zA-Z0-9_:]*
abbrev pub begins_metric_name : ℕ → Bool
begins_metric_name c = is_letter c || c == underscore || c == colon

-- a label name has the same rule without `:`: [a-zA-Z_][a-zA-Z0-9_]*
abbrev pub begins_label_name : ℕ → Bool
begins_label_name c = is_letter c || c == underscore

-- a name whose first character passes `first`, and each later one that or is a digit
abbrev pub is_name : (ℕ → Bool) → List ℕ → Bool
is_name first [] = false
is_name first (c ∷ cs) = first c && list_all (λ d. first d || is_digit d) cs

abbrev pub IsMetricName : List ℕ → Type 0
IsMetricName text = IsTrue (is_name begins_metric_name text)

abbrev pub IsLabelName : List ℕ → Type 0
IsLabelName text = IsTrue (is_name begins_label_name text)

-- each character that isn't allowed at its place becomes `_`, and the empty text becomes `_`
abbrev pub kept_or_underscore : (ℕ → Bool) → ℕ → ℕ
kept_or_underscore allowed c = if allowed c then c else underscore

abbrev pub sanitized_characters : (ℕ → Bool) → List ℕ → List ℕ
sanitized_characters first [] = underscore ∷ []
sanitized_characters first (c ∷ cs) = kept_or_underscore first c ∷ map (kept_or_underscore (λ d. first d || is_digit d)) cs

-- a metric name and a label name made of any text; the text's characters count, not its bytes
abbrev pub sanitized_metric_name : List ℕ → List ℕ
sanitized_metric_name text = sanitized_characters begins_metric_name (chars text)

abbrev pub sanitized_label_name : List ℕ → List ℕ
sanitized_label_name text = sanitized_characters begins_label_name (chars text)

-- whether a text ends with a word
abbrev pub ends_in : List ℕ → List ℕ → Bool
ends_in text word = ends_with nat_eq text word

-- the text with `_` and the word behind it, unless it ends with the word already
abbrev pub with_word : List ℕ → List ℕ → List ℕ
with_word text word = if ends_in text word then text else text ++ underscore ∷ word

-- the word of a unit in a name: none for counts, `ratio` for percent, otherwise its text
abbrev pub unit_word : UnitOf → Option (List ℕ)
unit_word Count = None
unit_word Percent = Some (codes "ratio")
unit_word unit = Some (unit_text unit)

-- the suffixes that a unit is put before, in the order in which they are looked for
abbrev pub standing_suffixes : List (List ℕ)
standing_suffixes = codes "_sum" ∷ codes "_count" ∷ codes "_bucket" ∷ codes "_total" ∷ []

-- the suffix that the name ends with, or nothing
abbrev pub standing_suffix : List ℕ → List ℕ
standing_suffix name = unwrap_or (find (ends_in name) standing_suffixes) []

-- the name with the unit's word before its standing suffix
abbrev pub with_unit_word : List ℕ → List ℕ → List ℕ
with_unit_word name word =
    with_word (take (length name - length (standing_suffix name)) name) word ++ standing_suffix name

abbrev pub with_unit_word_of : List ℕ → Option (List ℕ) → List ℕ
with_unit_word_of name None = name
with_unit_word_of name (Some word) = with_unit_word name word

-- the name with a unit, where there is one
abbrev pub with_unit : List ℕ → Option UnitOf → List ℕ
with_unit name None = name
with_unit name (Some unit) = with_unit_word_of name (unit_word unit)

-- the name with a suffix, where there is one
abbrev pub with_suffix : List ℕ → Option (List ℕ) → List ℕ
with_suffix name None = name
with_suffix name (Some word) = with_word name word

-- the full name: the metric name, then the unit, then the suffix (this project's rule)
abbrev pub full_name : List ℕ → Option UnitOf → Option (List ℕ) → List ℕ
full_name name unit suffix = with_suffix (with_unit name unit) suffix
