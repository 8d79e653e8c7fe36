-- The computed cut is a full cut.
use Rattle.std.proofs.Common.{◌≡◌, List, [], ◌∷◌, ◌++◌, length, refl, sym, ap, ◌∙◌, arith, ◌<◌, subst, Bool, true, false, cond, append_assoc, length-append}
use Rattle.std.specs.Prelude.{All, IsTrue, IsFalse}
use Rattle.std.proofs.lemmas.List.Elements.{All-head, All-tail, All-cons, All-nil}
use Rattle.dsd_writer.specs.Cuts.{joined, AreFull, IsFullCut, full_cut_behind, full_cut}

module _ {A : Type 0} (fits : List A → Bool) where
  -- the first run of a cut behind a run begins as that run does
  begins : (x : A) (run xs : List A) → (more : List A) × (runs : List (List A)) × (full_cut_behind fits (x ∷ run) xs ≡ (x ∷ more) ∷ runs)
  begins x run [] = (run, [], refl)
  begins x run (y ∷ xs) =
      elim (fits (x ∷ run ++ y ∷ [])) as (λ b. (more : List A) × (runs : List (List A)) × (cond b (full_cut_behind fits (x ∷ run ++ y ∷ []) xs) ((x ∷ run) ∷ full_cut_behind fits (y ∷ []) xs) ≡ (x ∷ more) ∷ runs)) [
        | true ↦ begins x (run ++ y ∷ []) xs
        | false ↦ (run, full_cut_behind fits (y ∷ []) xs, refl)
      ]

  whole_behind : (run xs : List A) → joined (full_cut_behind fits run xs) ≡ run ++ xs
  whole_behind run [] = refl
  whole_behind run (x ∷ xs) =
      elim (fits (run ++ x ∷ [])) as (λ b. joined (cond b (full_cut_behind fits (run ++ x ∷ []) xs) (run ∷ full_cut_behind fits (x ∷ []) xs)) ≡ run ++ (x ∷ xs)) [
        | true ↦ whole_behind (run ++ x ∷ []) xs ∙ append_assoc run (x ∷ []) xs
        | false ↦ ap (λ r. run ++ r) (whole_behind (x ∷ []) xs)
      ]

  pub full_cut_whole : (xs : List A) → joined (full_cut fits xs) ≡ xs
  full_cut_whole [] = refl
  full_cut_whole (x ∷ xs) = whole_behind (x ∷ []) xs

  -- a run that x would bring past the limit is full before a cut that begins at x
  full_before : (run : List A) (x : A) (xs : List A) → IsFalse (fits (run ++ x ∷ [])) → AreFull fits (full_cut_behind fits (x ∷ []) xs) → AreFull fits (run ∷ full_cut_behind fits (x ∷ []) xs)
  full_before run x xs past full = by (begins x [] xs)
    where
      by : (more : List A) × (runs : List (List A)) × (full_cut_behind fits (x ∷ []) xs ≡ (x ∷ more) ∷ runs) → AreFull fits (run ∷ full_cut_behind fits (x ∷ []) xs)
      by (more, runs, is) =
          let P : List (List A) → Type 0 = λ rs. AreFull fits (run ∷ rs) in
          let Q : List (List A) → Type 0 = λ rs. AreFull fits rs in
          subst P (sym is) (past, subst Q is full)

  full_behind : (run xs : List A) → AreFull fits (full_cut_behind fits run xs)
  full_behind run [] = tt
  full_behind run (x ∷ xs) =
      (elim (fits (run ++ x ∷ [])) as (λ b. fits (run ++ x ∷ []) ≡ b → AreFull fits (cond b (full_cut_behind fits (run ++ x ∷ []) xs) (run ∷ full_cut_behind fits (x ∷ []) xs))) [
        | true ↦ λ e. full_behind (run ++ x ∷ []) xs
        | false ↦ λ e. full_before run x xs e (full_behind (x ∷ []) xs)
      ]) refl

  some_behind : (run xs : List A) → 0 < length run → All (λ r. 0 < length r) (full_cut_behind fits run xs)
  some_behind run [] some = All-cons (λ (r : List A). 0 < length r) run [] some (All-nil (λ (r : List A). 0 < length r))
  some_behind run (x ∷ xs) some =
      elim (fits (run ++ x ∷ [])) as (λ b. All (λ r. 0 < length r) (cond b (full_cut_behind fits (run ++ x ∷ []) xs) (run ∷ full_cut_behind fits (x ∷ []) xs))) [
        | true ↦ some_behind (run ++ x ∷ []) xs (omega (arith, length-append run (x ∷ []), some))
        | false ↦ All-cons (λ (r : List A). 0 < length r) run (full_cut_behind fits (x ∷ []) xs) some (some_behind (x ∷ []) xs (omega arith))
      ]

  within_behind : (run xs : List A) → IsTrue (fits run) → All (λ x. IsTrue (fits (x ∷ []))) xs → All (λ r. IsTrue (fits r)) (full_cut_behind fits run xs)
  within_behind run [] h alone = All-cons (λ (r : List A). IsTrue (fits r)) run [] h (All-nil (λ (r : List A). IsTrue (fits r)))
  within_behind run (x ∷ xs) h alone =
      (elim (fits (run ++ x ∷ [])) as (λ b. fits (run ++ x ∷ []) ≡ b → All (λ r. IsTrue (fits r)) (cond b (full_cut_behind fits (run ++ x ∷ []) xs) (run ∷ full_cut_behind fits (x ∷ []) xs))) [
        | true ↦ λ e. within_behind (run ++ x ∷ []) xs e (All-tail (λ (y : A). IsTrue (fits (y ∷ []))) x xs alone)
        | false ↦ λ e. All-cons (λ (r : List A). IsTrue (fits r)) run (full_cut_behind fits (x ∷ []) xs) h
            (within_behind (x ∷ []) xs (All-head (λ (y : A). IsTrue (fits (y ∷ []))) x xs alone) (All-tail (λ (y : A). IsTrue (fits (y ∷ []))) x xs alone))
      ]) refl

  -- where each element is within the limit alone, the cut is full
  pub full_cut_is : (xs : List A) → All (λ x. IsTrue (fits (x ∷ []))) xs → IsFullCut fits xs (full_cut fits xs)
  full_cut_is [] alone = record { cut = record { whole = refl; some = All-nil (λ (r : List A). 0 < length r); within = All-nil (λ (r : List A). IsTrue (fits r)) }; full = tt }
  full_cut_is (x ∷ xs) alone = record {
    cut = record {
      whole = sym (whole_behind (x ∷ []) xs);
      some = some_behind (x ∷ []) xs (omega arith);
      within = within_behind (x ∷ []) xs (All-head (λ (y : A). IsTrue (fits (y ∷ []))) x xs alone) (All-tail (λ (y : A). IsTrue (fits (y ∷ []))) x xs alone);
    };
    full = full_behind (x ∷ []) xs;
  }
