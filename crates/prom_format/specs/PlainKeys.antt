-- Keys whose rows begin with their own texts.
use Rattle.std.specs.Prelude.{◌≡◌, ℕ, Bool, true, ◌&&◌, not, nat_eq, List, [], ◌∷◌, ◌++◌, map, bytes_eq}
use Rattle.std.specs.List.{list_any}
use Rattle.metrics_core.specs.Characters.{backslash}
use Rattle.metrics_core.specs.Keys.{LabelText, KeyText}
use Rattle.prom_format.specs.Lines.{shown_label, shown_label_set}
use Rattle.prom_format.specs.Names.{begins_label_name, is_name, sanitized_metric_name}

-- whether one of the labels has the key
abbrev pub has_key : List LabelText → List ℕ → Bool
has_key labels key = list_any (λ label. bytes_eq key label.key) labels

-- whether the keys of labels are all different, and none is that of a global label
abbrev pub have_own_keys : List LabelText → List LabelText → Bool
have_own_keys globals [] = true
have_own_keys globals (label ∷ labels) =
    not (has_key globals label.key) && not (has_key labels label.key) && have_own_keys globals labels

-- whether a label's key is a label name, and no backslash stands in its value
abbrev pub is_plain_label : LabelText → Bool
is_plain_label label = is_name begins_label_name label.key && not (list_any (λ c. nat_eq c backslash) label.value)

-- A key prints plainly where its name is shown as it is, and its labels too, behind the global labels.
pub record PrintsPlainly (globals : List LabelText) (key : KeyText) : Type 0 where
  pub named : sanitized_metric_name key.name ≡ key.name
  pub labelled : shown_label_set globals key.labels ≡ map shown_label globals ++ key.labels
