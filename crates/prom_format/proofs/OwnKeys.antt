-- Labels with keys of their own go last one after another.
use Rattle.std.proofs.Common.{◌≡◌, ℕ, Bool, true, false, List, [], ◌∷◌, ◌++◌, fold, refl, sym, ap, ◌∙◌, append_assoc}
use Rattle.std.specs.Prelude.{bytes_eq, ◌&&◌, ◌||◌, not, is_some, Some, if◌then◌else◌}
use Rattle.std.specs.List.{AllByRecursion, IsDistinct}
use Rattle.std.specs.Map.{keys_of, lookup}
use Rattle.std.specs.String.{string_bytes, string_eq}
use Rattle.std.specs.declared.string.String.{String}
use Rattle.std.specs.declared.alloc.Global.{Global}
use Rattle.std.proofs.lemmas.Bool.{and_from, and_parts, or_from, or_parts, cond-false, false≢true, false_from_ne_true, not-true, not_from_false}
use Rattle.std.proofs.lemmas.List.{append-nil}
use Rattle.std.proofs.lemmas.List.Folds.{list_any-append}
use Rattle.std.proofs.lemmas.List.Sums.{fold-append}
use Rattle.std.proofs.lemmas.Slice.Eq.{bytes_eq-Decides}
use Rattle.metrics_core.specs.Keys.{LabelText, label_set, put_label}
use Rattle.prom_format.specs.LabelSets.{labels_of}
use Rattle.prom_format.specs.PlainKeys.{has_key, have_own_keys}

-- bytes that differ, read the other way
differ_too : (x y : List ℕ) → bytes_eq x y ≡ false → bytes_eq y x ≡ false
differ_too x y differ =
    false_from_ne_true (bytes_eq y x) (λ same. false≢true (sym differ ∙ (bytes_eq-Decides x y).1 (sym ((bytes_eq-Decides y x).0 same))))

put_new : (labels : List LabelText) (label : LabelText) → has_key labels label.key ≡ false → put_label labels label ≡ labels ++ label ∷ []
put_new [] label none = refl
put_new (first ∷ labels) label none =
    let parts = or_parts (bytes_eq label.key first.key) (has_key labels label.key) none in
    cond-false (bytes_eq first.key label.key) (label ∷ labels) (first ∷ put_label labels label) (differ_too label.key first.key parts.0)
    ∙ ap (λ others. first ∷ others) (put_new labels label parts.1)

-- the parts of the test for the first label
parts_of : (a b c : Bool) → (not a && not b && c) ≡ true → (a ≡ false) × (b ≡ false) × (c ≡ true)
parts_of a b c own =
    let outer = and_parts (not a && not b) c own in
    let inner = and_parts (not a) (not b) outer.0 in
    (not-true a inner.0, not-true b inner.1, outer.1)

own_from : (a b c : Bool) → a ≡ false → b ≡ false → c ≡ true → (not a && not b && c) ≡ true
own_from a b c e f g = and_from (not a && not b) c (and_from (not a) (not b) (not_from_false a e) (not_from_false b f)) g

-- the test goes on where the first label has a key of its own
pub own_step : (a b c : Bool) → a ≡ false → b ≡ false → c ≡ (not a && not b && c)
own_step a b c e f = sym (ap (λ t. not t && not b && c) e ∙ ap (λ t. not t && c) f)

-- one more label before them, whose key none of them has
own_behind : (done labels : List LabelText) (label : LabelText) → have_own_keys done labels ≡ true → has_key labels label.key ≡ false →
    have_own_keys (done ++ label ∷ []) labels ≡ true
own_behind done [] label own none = refl
own_behind done (first ∷ labels) label own none =
    let (fresh, apart, others) = parts_of (has_key done first.key) (has_key labels first.key) (have_own_keys done labels) own in
    let differ = or_parts (bytes_eq label.key first.key) (has_key labels label.key) none in
    let still_fresh : has_key (done ++ label ∷ []) first.key ≡ false =
    list_any-append (λ (l : LabelText). bytes_eq first.key l.key) done (label ∷ [])
    ∙ or_from (has_key done first.key) (has_key (label ∷ []) first.key) fresh (or_from (bytes_eq first.key label.key) false (differ_too label.key first.key differ.0) refl) in
    own_from (has_key (done ++ label ∷ []) first.key) (has_key labels first.key) (have_own_keys (done ++ label ∷ []) labels)
    still_fresh apart (own_behind done labels label others differ.1)

put_own : (done labels : List LabelText) → have_own_keys done labels ≡ true → fold put_label done labels ≡ done ++ labels
put_own done [] own = sym (append-nil done)
put_own done (label ∷ labels) own =
    let (fresh, apart, others) = parts_of (has_key done label.key) (has_key labels label.key) (have_own_keys done labels) own in
    ap (λ now. fold put_label now labels) (put_new done label fresh)
    ∙ put_own (done ++ label ∷ []) labels (own_behind done labels label others apart)
    ∙ append_assoc done (label ∷ []) labels

abbrev Entries : Type 0
Entries = List (String Global × String Global)

none_has : (key : String Global) (entries : Entries) → AllByRecursion (λ other. string_eq key other ≡ false) (keys_of entries) →
    has_key (labels_of entries) (string_bytes key) ≡ false
none_has key [] differ = refl
none_has key (entry ∷ entries) (first, others) =
    or_from (bytes_eq (string_bytes key) (string_bytes entry.0)) (has_key (labels_of entries) (string_bytes key)) first (none_has key entries others)

-- the labels of a map have keys of their own
distinct_own : (entries : Entries) → IsDistinct string_eq (keys_of entries) → have_own_keys [] (labels_of entries) ≡ true
unfolding IsDistinct
distinct_own [] distinct = refl
distinct_own (entry ∷ entries) (differ, distinct) =
    own_from false (has_key (labels_of entries) (string_bytes entry.0)) (have_own_keys [] (labels_of entries))
    refl (none_has entry.0 entries differ) (distinct_own entries distinct)

pub label_set_own : (globals : Entries) (labels : List LabelText) → IsDistinct string_eq (keys_of globals) → have_own_keys (labels_of globals) labels ≡ true →
    label_set (labels_of globals) labels ≡ labels_of globals ++ labels
label_set_own globals labels distinct own =
    fold-append put_label [] (labels_of globals) labels
    ∙ ap (λ done. fold put_label done labels) (put_own [] (labels_of globals) (distinct_own globals distinct))
    ∙ put_own (labels_of globals) labels own

-- a look-up finds the keys of labels
pub found_is : (key : List ℕ) (entries : Entries) → is_some (lookup (λ (k : String Global). bytes_eq key (string_bytes k)) entries) ≡ has_key (labels_of entries) key
found_is key [] = refl
found_is key (entry ∷ entries) = by (bytes_eq key (string_bytes entry.0)) (found_is key entries)
  where
    by : (b : Bool) → is_some (lookup (λ (k : String Global). bytes_eq key (string_bytes k)) entries) ≡ has_key (labels_of entries) key →
        is_some (if b then Some entry.1 else lookup (λ (k : String Global). bytes_eq key (string_bytes k)) entries) ≡ (b || has_key (labels_of entries) key)
    by true found = refl
    by false found = found
