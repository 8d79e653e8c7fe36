-- The values of entries, and what their order keeps.
use Rattle.std.proofs.Common.{◌≡◌, ℕ, zero, suc, ◌+◌, ◌-◌, ◌*◌, ◌<◌, ◌≤◌, true, false, cond, List, [], ◌∷◌, ◌++◌, length, Some, refl, sym, ap, ◌∙◌, arith, zero-add, length-append}
use Rattle.std.specs.Prelude.{ℤ, count_by, replicate, slice_get}
use Rattle.std.specs.Ordering.{int_cmp, int_eq, is_eq, is_lt}
use Rattle.std.specs.declared.cmp.Ordering.{Ordering}
use Rattle.std.specs.declared.cmp.Ordering.TheVariants.{Less, Equal, Greater}
use Rattle.std.specs.Cmp.{signed_Decides}
use Rattle.std.proofs.lemmas.List.{length-replicate}
use Rattle.std.proofs.lemmas.List.Folds.{sum_by-replicate}
use Rattle.std.proofs.lemmas.List.Sums.{sum_by-append}
use Rattle.metrics_core.specs.Sorting.{insert_by}
use Rattle.metrics_registry.specs.Quantiles.{ascending}
use Rattle.metrics_registry.specs.Bags.{repeated, copies}
use Rattle.metrics_registry.specs.QuantileLaws.{same_ascending, count_by-ascending, length-ascending}

count-replicate : (v k : ℤ) (n : ℕ) → count_by (int_eq v) (replicate n k) ≡ cond (int_eq v k) n 0
count-replicate v k n =
    sum_by-replicate (λ x. cond (int_eq v x) 1 0) n k
    ∙ (elim (int_eq v k) as (λ b. n * cond b 1 0 ≡ cond b n 0) [ true ↦ omega arith | false ↦ omega arith ])

pub copies-cons : (v k : ℤ) (n : ℕ) (es : List (ℤ × ℕ)) → copies v ((k, n) ∷ es) ≡ cond (int_eq v k) n 0 + copies v es
copies-cons v k n es =
    sum_by-append (λ x. cond (int_eq v x) 1 0) (replicate n k) (repeated es)
    ∙ ap (λ m. m + copies v es) (count-replicate v k n)

-- more of a value
pub ascending-put : (k : ℤ) (n : ℕ) (es fs : List (ℤ × ℕ)) → ((v : ℤ) → copies v fs ≡ copies v es + cond (int_eq v k) n 0)
    → ascending (repeated fs) ≡ ascending (ascending (repeated es) ++ replicate n k)
ascending-put k n es fs put =
    same_ascending (repeated fs) (ascending (repeated es) ++ replicate n k) (λ v.
    put v
    ∙ sym (sum_by-append (λ x. cond (int_eq v x) 1 0) (ascending (repeated es)) (replicate n k)
    ∙ (λ j. count_by-ascending v (repeated es) j + count-replicate v k n j)))

pub ascending-merged : (xs ys fs : List (ℤ × ℕ)) → ((v : ℤ) → copies v fs ≡ copies v xs + copies v ys)
    → ascending (repeated fs) ≡ ascending (ascending (repeated xs) ++ ascending (repeated ys))
ascending-merged xs ys fs merged =
    same_ascending (repeated fs) (ascending (repeated xs) ++ ascending (repeated ys)) (λ v.
    merged v
    ∙ sym (sum_by-append (λ x. cond (int_eq v x) 1 0) (ascending (repeated xs)) (ascending (repeated ys))
    ∙ (λ j. count_by-ascending v (repeated xs) j + count_by-ascending v (repeated ys) j)))

pub length-from : (xs ys : List ℤ) → ascending xs ≡ ascending ys → length xs ≡ length ys
length-from xs ys same = sym (length-ascending xs) ∙ ap length same ∙ length-ascending ys

-- so many more values
pub length-put : (k : ℤ) (n : ℕ) (es fs : List (ℤ × ℕ)) → ((v : ℤ) → copies v fs ≡ copies v es + cond (int_eq v k) n 0) → length (repeated fs) ≡ length (repeated es) + n
length-put k n es fs put =
    let all = ascending (repeated es) ++ replicate n k in
    omega (arith, length-from (repeated fs) all (ascending-put k n es fs put), length-append (ascending (repeated es)) (replicate n k), length-ascending (repeated es), length-replicate n k)

pub length-merged : (xs ys fs : List (ℤ × ℕ)) → ((v : ℤ) → copies v fs ≡ copies v xs + copies v ys) → length (repeated fs) ≡ length (repeated xs) + length (repeated ys)
length-merged xs ys fs merged =
    let all = ascending (repeated xs) ++ ascending (repeated ys) in
    omega (arith, length-from (repeated fs) all (ascending-merged xs ys fs merged), length-append (ascending (repeated xs)) (ascending (repeated ys)), length-ascending (repeated xs), length-ascending (repeated ys))

-- ---- the walk to a rank

pub walked-here : (k : ℤ) (n : ℕ) (es : List (ℤ × ℕ)) (left : ℕ) → 1 ≤ left → left ≤ n → slice_get (repeated ((k, n) ∷ es)) (left - 1) ≡ Some k
walked-here k n es left least here = within n (left - 1) (omega arith)
  where
    within : (m i : ℕ) → i < m → slice_get (replicate m k ++ repeated es) i ≡ Some k
    within zero i lt = absurd (omega arith)
    within (suc m) zero lt = refl
    within (suc m) (suc i) lt = within m i (omega arith)

pub walked-past : (k : ℤ) (n : ℕ) (es : List (ℤ × ℕ)) (left : ℕ) → n < left → slice_get (repeated ((k, n) ∷ es)) (left - 1) ≡ slice_get (repeated es) (left - n - 1)
walked-past k n es left past =
    let split : left - 1 ≡ n + (left - n - 1) = omega arith in
    ap (slice_get (repeated ((k, n) ∷ es))) split ∙ beyond n (left - n - 1)
  where
    beyond : (m i : ℕ) → slice_get (replicate m k ++ repeated es) (m + i) ≡ slice_get (repeated es) i
    beyond zero i = ap (slice_get (repeated es)) (zero-add i)
    beyond (suc m) i =
        let next : suc m + i ≡ suc (m + i) = omega arith in
        ap (slice_get (k ∷ (replicate m k ++ repeated es))) next ∙ beyond m i

-- ---- in order, the values stand as they would be put in order

-- a value is at most the first of a list
abbrev pub AtMostFirst : ℤ → List ℤ → Type 0
AtMostFirst k [] = Unit {0}
AtMostFirst k (x ∷ xs) = is_lt (int_cmp x k) ≡ false

insert-first : (k : ℤ) (xs : List ℤ) → AtMostFirst k xs → insert_by int_cmp k xs ≡ k ∷ xs
insert-first k [] least = refl
insert-first k (x ∷ xs) least = ap (λ b. cond b (x ∷ insert_by int_cmp k xs) (k ∷ x ∷ xs)) least

itself : (k : ℤ) → is_lt (int_cmp k k) ≡ false
itself k = ap is_lt (is_equal (int_cmp k k) ((signed_Decides k k).1 refl))
  where
    is_equal : (r : Ordering) → is_eq r ≡ true → r ≡ Equal
    is_equal Less e = cc
    is_equal Equal e = refl
    is_equal Greater e = cc

pub at_most_copies : (k : ℤ) (n : ℕ) (xs : List ℤ) → AtMostFirst k xs → AtMostFirst k (replicate n k ++ xs)
at_most_copies k zero xs least = least
at_most_copies k (suc n) xs least = itself k

pub ascending-copies : (k : ℤ) (n : ℕ) (xs : List ℤ) → AtMostFirst k xs → ascending xs ≡ xs → ascending (replicate n k ++ xs) ≡ replicate n k ++ xs
ascending-copies k zero xs least own = own
ascending-copies k (suc n) xs least own =
    ap (insert_by int_cmp k) (ascending-copies k n xs least own)
    ∙ insert-first k (replicate n k ++ xs) (at_most_copies k n xs least)
