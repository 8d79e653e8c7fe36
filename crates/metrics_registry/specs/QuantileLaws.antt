-- What putting values in order keeps.
use Rattle.std.proofs.Common.{◌≡◌, ℕ, ◌+◌, ◌-◌, List, ◌++◌, length, refl, sym, ap, ◌∙◌, cond}
use Rattle.std.specs.Prelude.{ℤ, count_by, slice_get}
use Rattle.std.specs.Ordering.{int_eq}
use Rattle.std.specs.Cmp.{int_cmp_total, signed_Decides}
use Rattle.std.proofs.lemmas.List.Sums.{sum_by-append}
use Rattle.metrics_core.specs.SortingLaws as sorting
use Rattle.metrics_registry.specs.Quantiles.{ascending, rank, nearest_rank}

-- two lists with the same values are one list in order
pub same_ascending : (xs ys : List ℤ) → ((v : ℤ) → count_by (int_eq v) xs ≡ count_by (int_eq v) ys) → ascending xs ≡ ascending ys
same_ascending = sorting.same_sorted int_cmp_total signed_Decides (λ a b. refl)

pub count_by-ascending : (v : ℤ) (xs : List ℤ) → count_by (int_eq v) (ascending xs) ≡ count_by (int_eq v) xs
count_by-ascending v xs = sorting.sum_by-sorted_by int_cmp_total signed_Decides (λ a b. refl) (λ x. cond (int_eq v x) 1 0) xs

pub length-ascending : (xs : List ℤ) → length (ascending xs) ≡ length xs
length-ascending xs = sorting.length-sorted_by int_cmp_total signed_Decides (λ a b. refl) xs

-- the order of what was put in order before doesn't matter
pub ascending-left : (xs ys : List ℤ) → ascending (ascending xs ++ ys) ≡ ascending (xs ++ ys)
ascending-left xs ys =
    same_ascending (ascending xs ++ ys) (xs ++ ys) (λ v.
    sum_by-append (λ x. cond (int_eq v x) 1 0) (ascending xs) ys
    ∙ ap (λ n. n + count_by (int_eq v) ys) (count_by-ascending v xs)
    ∙ sym (sum_by-append (λ x. cond (int_eq v x) 1 0) xs ys))

pub ascending-right : (xs ys : List ℤ) → ascending (xs ++ ascending ys) ≡ ascending (xs ++ ys)
ascending-right xs ys =
    same_ascending (xs ++ ascending ys) (xs ++ ys) (λ v.
    sum_by-append (λ x. cond (int_eq v x) 1 0) xs (ascending ys)
    ∙ ap (λ n. count_by (int_eq v) xs + n) (count_by-ascending v ys)
    ∙ sym (sum_by-append (λ x. cond (int_eq v x) 1 0) xs ys))

pub ascending-again : (xs : List ℤ) → ascending (ascending xs) ≡ ascending xs
ascending-again xs = same_ascending (ascending xs) xs (λ v. count_by-ascending v xs)

-- so a quantile is that of the values in any order
pub nearest_rank-ascending : (q : ℕ) (xs : List ℤ) → nearest_rank q (ascending xs) ≡ nearest_rank q xs
nearest_rank-ascending q xs = λ j. slice_get (ascending-again xs j) (rank q (length-ascending xs j) - 1)
