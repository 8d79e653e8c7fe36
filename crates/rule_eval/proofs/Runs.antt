-- Runs of pages on which a group holds, and when it fires.
use Rattle.std.proofs.Common.{◌≡◌, ℕ, zero, suc, ◌-◌, ◌≤◌, Bool, true, false, cond, ◌&&◌, nat_le, min, List, [], ◌∷◌, ◌++◌, fold, length, drop, refl, sym, ap, subst, ◌∙◌, append_assoc, append-nil, length-append, drop_of_length-le, arith}
use Rattle.std.specs.List.{list_all}
use Rattle.std.proofs.lemmas.Bool.{le-leb, and_right}
use Rattle.std.proofs.lemmas.Bool.Decides.{nat_tests}
use Rattle.std.proofs.lemmas.List.{drop-append-le}
use Rattle.std.proofs.lemmas.List.Folds.{list_all-append}
use Rattle.std.proofs.lemmas.List.Sums.{fold_push}

-- what holds of no items, and of more items where it holds of those before the last, holds of all lists
from_the_end : {X : Type 0} (P : List X → Type 0) → P [] → ((xs : List X) (x : X) → P xs → P (xs ++ x ∷ [])) → (xs : List X) → P xs
from_the_end {X} P none more xs = go [] none xs
  where
    go : (done : List X) → P done → (xs : List X) → P (done ++ xs)
    go done here [] = subst P (sym (append-nil done)) here
    go done here (x ∷ xs) = subst P (append_assoc done (x ∷ []) xs) (go (done ++ x ∷ []) (more done x here) xs)

module _ {X : Type 0} (test : X → Bool) where
  -- whether the last k of some items pass
  abbrev pub last_pass : ℕ → List X → Bool
  last_pass k xs = nat_le k (length xs) && list_all test (drop (length xs - k) xs)

  abbrev pub one_more : ℕ → X → ℕ
  one_more run x = cond (test x) (suc run) 0

  -- how many of the last items in a row pass
  abbrev pub run_of : List X → ℕ
  run_of xs = fold one_more 0 xs

  none_asked : (xs : List X) → last_pass 0 xs ≡ nat_le 0 (run_of xs)
  none_asked xs =
      let first : nat_le 0 (length xs) ≡ true = le-leb 0 (length xs) (omega arith) in
      let second : nat_le 0 (run_of xs) ≡ true = le-leb 0 (run_of xs) (omega arith) in
      ap (λ b. b && list_all test (drop (length xs - 0) xs)) first
      ∙ ap (list_all test) (drop_of_length-le xs (omega arith))
      ∙ sym second

  all_of_one : (a : Bool) (xs : List X) (x : X) (b : Bool) → test x ≡ b
      → (a && list_all test (xs ++ x ∷ [])) ≡ (cond b (a && list_all test xs) false)
  all_of_one a xs x true p = ap (λ l. a && l) (list_all-append test xs (x ∷ []) ∙ ap (λ t. list_all test xs && (t && true)) p ∙ right (list_all test xs))
    where
      right : (b : Bool) → (b && true) ≡ b
      right true = refl
      right false = refl
  all_of_one a xs x false p =
      ap (λ l. a && l) (list_all-append test xs (x ∷ []) ∙ ap (λ t. list_all test xs && (t && true)) p ∙ and_right (list_all test xs) false refl)
      ∙ and_right a false refl

  taken : (k : ℕ) (xs : List X) (x : X)
      → last_pass (suc k) (xs ++ x ∷ []) ≡ (nat_le k (length xs) && list_all test (drop (length xs - k) xs ++ x ∷ []))
  taken k xs x =
      let long : length (xs ++ x ∷ []) ≡ suc (length xs) = omega (arith, length-append xs (x ∷ [])) in
      let behind : suc (length xs) - suc k ≡ length xs - k = omega arith in
      let same : nat_le (suc k) (suc (length xs)) ≡ nat_le k (length xs) = grind (arith, nat_tests) in
      ap (λ n. nat_le (suc k) n && list_all test (drop (n - suc k) (xs ++ x ∷ []))) long
      ∙ ap (λ n. nat_le (suc k) (suc (length xs)) && list_all test (drop n (xs ++ x ∷ []))) behind
      ∙ ap (λ b. b && list_all test (drop (length xs - k) (xs ++ x ∷ []))) same
      ∙ ap (λ l. nat_le k (length xs) && list_all test l) (drop-append-le (length xs - k) xs (x ∷ []) (omega arith))

  longer_run : (k r : ℕ) (b : Bool) → (cond b (nat_le k r) false) ≡ nat_le (suc k) (cond b (suc r) 0)
  longer_run k r true = grind (arith, nat_tests)
  longer_run k r false = grind (arith, nat_tests)

  one_more_asked : (k : ℕ) (xs : List X) (x : X) → last_pass k xs ≡ nat_le k (run_of xs)
      → last_pass (suc k) (xs ++ x ∷ []) ≡ nat_le (suc k) (run_of (xs ++ x ∷ []))
  one_more_asked k xs x before =
      taken k xs x
      ∙ all_of_one (nat_le k (length xs)) (drop (length xs - k) xs) x (test x) refl
      ∙ ap (λ b. cond (test x) b false) before
      ∙ longer_run k (run_of xs) (test x)
      ∙ ap (nat_le (suc k)) (sym (fold_push one_more 0 xs x))

  -- the last k pass where as many in a row do
  pub last_pass-is : (xs : List X) (k : ℕ) → last_pass k xs ≡ nat_le k (run_of xs)
  last_pass-is = from_the_end (λ xs. (k : ℕ) → last_pass k xs ≡ nat_le k (run_of xs)) none more
    where
      none : (k : ℕ) → last_pass k [] ≡ nat_le k (run_of [])
      none zero = none_asked []
      none (suc k) = grind (arith, nat_tests)

      more : (xs : List X) (x : X) → ((k : ℕ) → last_pass k xs ≡ nat_le k (run_of xs)) → (k : ℕ) → last_pass k (xs ++ x ∷ []) ≡ nat_le k (run_of (xs ++ x ∷ []))
      more xs x before zero = none_asked (xs ++ x ∷ [])
      more xs x before (suc k) = one_more_asked k xs x (before k)

  -- one more item
  pub run_of-push : (xs : List X) (x : X) → run_of (xs ++ x ∷ []) ≡ (cond (test x) (suc (run_of xs)) 0)
  run_of-push xs x = fold_push one_more 0 xs x

-- a run that is kept up to k, and one more
pub kept_longer : (k r : ℕ) → min k (suc (min k r)) ≡ min k (suc r)
kept_longer k r = omega arith

-- a kept run is k where the run is as long
pub fires_kept : (k r : ℕ) (passes : Bool) → 1 ≤ k → (passes && nat_le k (min k (suc (min k r)))) ≡ nat_le k (cond passes (suc r) 0)
fires_kept k r true some = grind (arith, nat_tests)
fires_kept k r false some = grind (arith, nat_tests)
