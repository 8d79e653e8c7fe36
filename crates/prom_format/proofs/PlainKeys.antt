-- What is plain is shown as it is, and heads of plain keys tell the keys.
use Rattle.std.proofs.Common.{◌≡◌, ℕ, Bool, true, false, List, [], ◌∷◌, ◌++◌, map, refl, sym, ap, ◌∙◌}
use Rattle.std.specs.Prelude.{nat_eq, not, ◌==◌, if◌then◌else◌}
use Rattle.std.specs.List.{list_all, list_any}
use Rattle.std.proofs.lemmas.Bool.{and_parts, not-true, or_parts, cond-false}
use Rattle.std.proofs.lemmas.List.{append_cancel_left, map-append}
use Rattle.metrics_core.specs.Characters.{backslash, newline}
use Rattle.metrics_core.specs.Keys.{LabelText, KeyText, label_set}
use Rattle.prom_format.specs.Lines.{shown_label, shown_label_set}
use Rattle.prom_format.specs.Names.{begins_label_name, is_name, sanitized_metric_name}
use Rattle.prom_format.specs.PlainKeys.{PrintsPlainly, is_plain_label}
use Rattle.prom_format.specs.Printed.{canonical_label_value}
use Rattle.prom_format.proofs.NameLaws.{sanitized_label_name-of_name}
use Rattle.prom_format.proofs.Walk.{walked, settled_is_walked}

-- where nothing waits, any character but a backslash stays
stays : (newline_is backslash_is : Bool) (c : ℕ) (others held : List ℕ) → backslash_is ≡ false →
    (if newline_is then c ∷ others else if backslash_is then held else c ∷ others) ≡ c ∷ others
stays true backslash_is c others held none = refl
stays false backslash_is c others held none = cond-false backslash_is held (c ∷ others) none

walked_stays : (text : List ℕ) → list_any (λ c. nat_eq c backslash) text ≡ false → walked true false text ≡ text
walked_stays [] none = refl
walked_stays (c ∷ text) none =
    let parts = or_parts (nat_eq c backslash) (list_any (λ d. nat_eq d backslash) text) none in
    stays (c == newline) (c == backslash) c (walked true false text) (walked true true text) parts.0
    ∙ ap (λ others. c ∷ others) (walked_stays text parts.1)

canonical_stays : (text : List ℕ) → list_any (λ c. nat_eq c backslash) text ≡ false → canonical_label_value text ≡ text
canonical_stays text none = settled_is_walked true [] text ∙ walked_stays text none

shown_stays : (label : LabelText) → is_plain_label label ≡ true → shown_label label ≡ label
shown_stays label plain =
    let parts = and_parts (is_name begins_label_name label.key) (not (list_any (λ c. nat_eq c backslash) label.value)) plain in
    ap (λ key. record { key = key; value = canonical_label_value label.value }) (sanitized_label_name-of_name label.key parts.0)
    ∙ ap (λ value. record { key = label.key; value = value }) (canonical_stays label.value (not-true _ parts.1))

all_stay : (labels : List LabelText) → list_all is_plain_label labels ≡ true → map shown_label labels ≡ labels
all_stay [] plain = refl
all_stay (label ∷ labels) plain =
    let parts = and_parts (is_plain_label label) (list_all is_plain_label labels) plain in
    ap (λ first. first ∷ map shown_label labels) (shown_stays label parts.0) ∙ ap (λ others. label ∷ others) (all_stay labels parts.1)

pub shown_behind : (globals labels : List LabelText) → list_all is_plain_label labels ≡ true → label_set globals labels ≡ globals ++ labels →
    shown_label_set globals labels ≡ map shown_label globals ++ labels
shown_behind globals labels plain set =
    ap (map shown_label) set ∙ map-append shown_label globals labels ∙ ap (λ shown. map shown_label globals ++ shown) (all_stay labels plain)

pub plain_keys_told : (globals : List LabelText) (x y : KeyText) → PrintsPlainly globals x → PrintsPlainly globals y →
    sanitized_metric_name x.name ≡ sanitized_metric_name y.name → shown_label_set globals x.labels ≡ shown_label_set globals y.labels → x ≡ y
plain_keys_told globals x y plain plain_too names sets =
    let name = sym plain.named ∙ names ∙ plain_too.named in
    let labels = append_cancel_left (map shown_label globals) x.labels y.labels (sym plain.labelled ∙ sets ∙ plain_too.labelled) in
    ap (λ n. record { name = n; labels = x.labels }) name ∙ ap (λ l. record { name = y.name; labels = l }) labels
