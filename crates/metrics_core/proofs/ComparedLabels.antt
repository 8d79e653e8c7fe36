-- How two lists of labels compare in order, from the least label that they don't have equally often.
use Rattle.std.proofs.Common.{◌≡◌, List, [], ◌++◌, length, sym, ap, subst, ◌∙◌}
use Rattle.std.specs.Prelude.{Option, Some, None}
use Rattle.std.specs.Ordering.{is_eq, nat_cmp, ordering_then}
use Rattle.std.specs.declared.cmp.Ordering.TheVariants.{Equal}
use Rattle.std.specs.Cmp.{nat_cmp_total, tied_itself}
use Rattle.std.specs.Cmp.Lexicographic.{slice_cmp, lists_total}
use Rattle.metrics_core.specs.Sorting.{sorted_by}
use Rattle.metrics_core.specs.SortingLaws.{same_sorted, compare_sorted}
use Rattle.metrics_core.specs.Keys.{LabelText, KeyText, label_cmp, key_cmp, occurrences, same_multiset}
use Rattle.metrics_core.specs.KeyLaws.{label_cmp_total, label_cmp_ties, label_eq_is}
use Rattle.metrics_core.specs.KeyOrderLaws.{key_cmp_ties}
use Rattle.metrics_core.proofs.LeastDiffering.{IsLeast, found_by, found_by_is, none_differs, least_differs, same_below}

abbrev in_order : List LabelText → List LabelText
in_order = sorted_by label_cmp

-- one list in order is equal to itself
pub equal_in_order : (xs ys : List LabelText) → in_order xs ≡ in_order ys → Equal ≡ slice_cmp label_cmp (in_order xs) (in_order ys)
equal_in_order xs ys e =
    sym (tied_itself (lists_total label_cmp_total) (in_order xs)) ∙ ap (λ s. slice_cmp label_cmp (in_order xs) s) e

-- lists with the same labels are equal in order, and only they: it is so of keys with one name
unnamed : List LabelText → KeyText
unnamed labels = record { name = []; labels = labels }

pub equal_where_same : (xs ys : List LabelText) → length xs ≡ length ys → is_eq (slice_cmp label_cmp (in_order xs) (in_order ys)) ≡ same_multiset xs ys
unfolding unnamed key_cmp
equal_where_same xs ys long =
    let as_long : nat_cmp (length xs) (length ys) ≡ Equal = ap (nat_cmp (length xs)) (sym long) ∙ tied_itself nat_cmp_total (length xs) in
    sym (key_cmp_ties (unnamed xs) (unnamed ys) ∙ ap (λ r. is_eq (ordering_then r (slice_cmp label_cmp (in_order xs) (in_order ys)))) as_long)

abbrev pub found : List LabelText → List LabelText → Option LabelText
found xs ys = found_by label_cmp_total label_eq_is xs ys

is_least : (xs ys : List LabelText) (least : Option LabelText) → least ≡ found xs ys → IsLeast label_cmp_total label_eq_is xs ys least (xs ++ ys)
is_least xs ys least e =
    subst (λ r. IsLeast label_cmp_total label_eq_is xs ys r (xs ++ ys)) (sym e) (found_by_is label_cmp_total label_eq_is xs ys)

pub nothing_differs : (xs ys : List LabelText) (least : Option LabelText) → least ≡ found xs ys → least ≡ None → Equal ≡ slice_cmp label_cmp (in_order xs) (in_order ys)
nothing_differs xs ys least e nothing =
    equal_in_order xs ys (same_sorted label_cmp_total label_eq_is label_cmp_ties xs ys (none_differs label_cmp_total label_eq_is xs ys least nothing (is_least xs ys least e)))

pub label_differs : (xs ys : List LabelText) (least : Option LabelText) (l : LabelText) → length xs ≡ length ys → least ≡ found xs ys → least ≡ Some l → nat_cmp (occurrences ys l) (occurrences xs l) ≡ slice_cmp label_cmp (in_order xs) (in_order ys)
label_differs xs ys least l long e something =
    let was = is_least xs ys least e in
    sym (compare_sorted label_cmp_total label_eq_is label_cmp_ties xs ys long l (least_differs label_cmp_total label_eq_is xs ys l least something was) (same_below label_cmp_total label_eq_is xs ys l least something was))
