-- An entry put into a map is a label put into its list.
use Rattle.std.proofs.Common.{◌≡◌, ℕ, Bool, true, false, List, [], ◌∷◌, map, refl, sym, ap, ◌∙◌}
use Rattle.std.specs.Prelude.{bytes_eq, if◌then◌else◌}
use Rattle.std.specs.Borrow.{Bor}
use Rattle.std.specs.String.{string_bytes, string_eq}
use Rattle.std.specs.declared.string.String.{String}
use Rattle.std.specs.declared.alloc.Global.{Global}
use Rattle.std.proofs.lemmas.Bool.{false≢true, false_from_ne_true, cond-true, cond-false}
use Rattle.std.proofs.lemmas.Slice.Eq.{bytes_eq-Decides}
use Rattle.indexmap.specs.IndexMap.{insert_entry}
use Rattle.metrics_core.specs.Keys.{LabelText, put_label}
use Rattle.prom_format.specs.LabelSets.{label_of_entry, label_of_lent, labels_of, labels_of_lent}

-- the test by bytes reads both ways
swapped : (x y : List ℕ) → bytes_eq x y ≡ true → bytes_eq y x ≡ true
swapped x y same = (bytes_eq-Decides y x).1 (sym ((bytes_eq-Decides x y).0 same))

-- the first entry, given what becomes of those behind it
first_put : (first label : LabelText) (left others : List LabelText) (same : Bool) → bytes_eq label.key first.key ≡ same →
    (if same then record { key = first.key; value = label.value } ∷ others else first ∷ left)
    ≡ (if bytes_eq first.key label.key then label ∷ others else first ∷ left)
first_put first label left others true same =
    ap (λ k. record { key = k; value = label.value } ∷ others) (sym ((bytes_eq-Decides label.key first.key).0 same))
    ∙ sym (cond-true (bytes_eq first.key label.key) (label ∷ others) (first ∷ left) (swapped label.key first.key same))
first_put first label left others false other =
    sym (cond-false (bytes_eq first.key label.key) (label ∷ others) (first ∷ left)
    (false_from_ne_true (bytes_eq first.key label.key) (λ same. false≢true (sym other ∙ swapped first.key label.key same))))

-- the labels of entries of any kind of text
module _ {K : Type 0} (text : K → List ℕ) where
  abbrev label_by : K × K → LabelText
  label_by (key, value) = record { key = text key; value = text value }

  abbrev same_text : K → K → Bool
  same_text a b = bytes_eq (text a) (text b)

  -- the labels of the entries, whichever the test answers
  chosen : (same : Bool) (first : K × K) (value : K) (left others : List (K × K)) →
      map label_by (if same then (first.0, value) ∷ others else first ∷ left)
      ≡ (if same then label_by (first.0, value) ∷ map label_by others else label_by first ∷ map label_by left)
  chosen true first value left others = refl
  chosen false first value left others = refl

  labels_by-insert : (entries : List (K × K)) (key value : K) →
      map label_by (insert_entry same_text entries key value) ≡ put_label (map label_by entries) (label_by (key, value))
  labels_by-insert [] key value = refl
  labels_by-insert (first ∷ entries) key value =
      chosen (same_text key first.0) first value (insert_entry same_text entries key value) entries
      ∙ ap (λ left. if same_text key first.0 then label_by (first.0, value) ∷ map label_by entries else label_by first ∷ left) (labels_by-insert entries key value)
      ∙ first_put (label_by first) (label_by (key, value)) (put_label (map label_by entries) (label_by (key, value))) (map label_by entries) (same_text key first.0) refl

pub labels_of-insert : (entries : List (String Global × String Global)) (key value : String Global) →
    labels_of (insert_entry string_eq entries key value) ≡ put_label (labels_of entries) (label_of_entry (key, value))
labels_of-insert = labels_by-insert string_bytes

pub labels_of_lent-insert : (entries : List (Bor (List ℕ) × Bor (List ℕ))) (key value : Bor (List ℕ)) →
    labels_of_lent (insert_entry (λ a b. bytes_eq a.now b.now) entries key value) ≡ put_label (labels_of_lent entries) (label_of_lent (key, value))
labels_of_lent-insert = labels_by-insert (λ t. t.now)
