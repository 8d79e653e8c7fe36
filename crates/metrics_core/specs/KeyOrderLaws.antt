-- The order of keys is total, and ties exactly the keys that are equal.
use Rattle.std.proofs.Common.{◌≡◌, ℕ, List, length, sym, ap, ◌∙◌, true}
use Rattle.std.specs.Prelude.{Decides, ◌&&◌}
use Rattle.std.specs.Ordering.{eq_by_cmp, is_eq, nat_cmp, ordering_then}
use Rattle.std.specs.declared.cmp.Ordering.{Ordering}
use Rattle.std.specs.Cmp.{IsTotalOrder, on_total, then_total, tied_then, nat_cmp_total, unsigned_ties, unsigned_Decides}
use Rattle.std.specs.Cmp.Lexicographic.{slice_cmp, lists_total, lists_ties, on_texts, texts_ties, pointwise_decides}
use Rattle.std.proofs.lemmas.Slice.Eq.{bytes_eq-Decides}
use Rattle.std.proofs.lemmas.Bool.Decides.{same_from_decides}
use Rattle.metrics_core.specs.Sorting.{sorted_by}
use Rattle.metrics_core.specs.SortingLaws.{same_sorted, counts_from_sorted, length-sorted_by}
use Rattle.metrics_core.specs.Keys.{LabelText, KeyText, label_cmp, occurrences, key_eq, key_cmp, SameKey}
use Rattle.metrics_core.specs.KeyLaws.{label_cmp_total, label_cmp_ties, label_eq_is, key_eq_is, both, and}

pub key_cmp_total : IsTotalOrder key_cmp
unfolding key_cmp
key_cmp_total =
    then_total (on_texts (λ (k : KeyText). k.name)) (then_total (on_total (λ (k : KeyText). length k.labels) nat_cmp_total) (on_total (λ (k : KeyText). sorted_by label_cmp k.labels) (lists_total label_cmp_total)))

abbrev in_order : List LabelText → List LabelText
in_order = sorted_by label_cmp

names_tied : (a b : List ℕ) → Decides (is_eq (slice_cmp nat_cmp a b)) (a ≡ b)
names_tied a b = (
  λ h. (bytes_eq-Decides a b).0 (texts_ties a b ∙ h),
  λ e. sym (texts_ties a b) ∙ (bytes_eq-Decides a b).1 e,
)

numbers_tied : (a b : ℕ) → a ≡ b → is_eq (nat_cmp a b) ≡ true
numbers_tied a b e = sym (unsigned_ties a b) ∙ (unsigned_Decides a b).1 e

labels_tied : (a b : List LabelText) → Decides (is_eq (slice_cmp label_cmp a b)) (a ≡ b)
labels_tied a b = (
  λ h. (pointwise_decides label_eq_is a b).0 (lists_ties label_cmp label_cmp_ties a b ∙ h),
  λ e. sym (lists_ties label_cmp label_cmp_ties a b) ∙ (pointwise_decides label_eq_is a b).1 e,
)

same_in_order : (a b : List LabelText) → ((l : LabelText) → occurrences a l ≡ occurrences b l) → in_order a ≡ in_order b
same_in_order = same_sorted label_cmp_total label_eq_is label_cmp_ties

same_length : (a b : List LabelText) → in_order a ≡ in_order b → length a ≡ length b
same_length a b e =
    sym (length-sorted_by label_cmp_total label_eq_is label_cmp_ties a) ∙ ap length e ∙ length-sorted_by label_cmp_total label_eq_is label_cmp_ties b

abbrev by_name : KeyText → KeyText → Ordering
by_name a b = slice_cmp nat_cmp a.name b.name

abbrev by_number : KeyText → KeyText → Ordering
by_number a b = nat_cmp (length a.labels) (length b.labels)

abbrev by_labels : KeyText → KeyText → Ordering
by_labels a b = slice_cmp label_cmp (in_order a.labels) (in_order b.labels)

key_cmp_is : (a b : KeyText) → Decides (eq_by_cmp key_cmp a b) (SameKey a b)
unfolding key_cmp
key_cmp_is a b = (λ h. split (parts h), λ (name, labels). join name (same_in_order a.labels b.labels labels))
  where
    parts : eq_by_cmp key_cmp a b ≡ true → (is_eq (by_name a b) ≡ true) × ((is_eq (by_number a b) && is_eq (by_labels a b)) ≡ true)
    parts h =
        both (is_eq (by_name a b)) (is_eq (by_number a b) && is_eq (by_labels a b))
        (ap (λ t. is_eq (by_name a b) && t) (tied_then (by_number a b) (by_labels a b)) ∙ tied_then (by_name a b) (ordering_then (by_number a b) (by_labels a b)) ∙ h)

    split : (is_eq (by_name a b) ≡ true) × ((is_eq (by_number a b) && is_eq (by_labels a b)) ≡ true) → SameKey a b
    split (name, others) = (
      (names_tied a.name b.name).0 name,
      counts_from_sorted label_cmp_total label_eq_is label_cmp_ties a.labels b.labels ((labels_tied (in_order a.labels) (in_order b.labels)).0 (both (is_eq (by_number a b)) (is_eq (by_labels a b)) others).1),
    )

    join : a.name ≡ b.name → in_order a.labels ≡ in_order b.labels → eq_by_cmp key_cmp a b ≡ true
    join name labels =
        sym (tied_then (by_name a b) (ordering_then (by_number a b) (by_labels a b)))
        ∙ and (is_eq (by_name a b)) (is_eq (ordering_then (by_number a b) (by_labels a b))) ((names_tied a.name b.name).1 name)
        (sym (tied_then (by_number a b) (by_labels a b))
        ∙ and (is_eq (by_number a b)) (is_eq (by_labels a b)) (numbers_tied (length a.labels) (length b.labels) (same_length a.labels b.labels labels)) ((labels_tied (in_order a.labels) (in_order b.labels)).1 labels))

pub key_cmp_ties : (a b : KeyText) → key_eq a b ≡ eq_by_cmp key_cmp a b
key_cmp_ties a b = same_from_decides (key_eq a b) (eq_by_cmp key_cmp a b) (key_eq_is a b) (key_cmp_is a b)
