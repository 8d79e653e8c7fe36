-- A full cut has the fewest runs: at each element it has begun no more runs than any other cut, and where it has begun as
-- many, its last run so far is no heavier.
use Rattle.std.proofs.Common.{◌≡◌, ℕ, ◌+◌, ◌<◌, ◌≤◌, Bool, true, false, cond, List, [], ◌∷◌, ◌++◌, length, sym, ap, ◌∙◌, arith, subst}
use Rattle.std.specs.Prelude.{All, IsTrue, sum_by}
use Rattle.std.proofs.lemmas.Bool.{leb-true, le-leb}
use Rattle.std.proofs.lemmas.List.Sums.{sum_by-append}
use Rattle.std.proofs.lemmas.List.Elements.{All-head, All-tail}
use Rattle.dsd_writer.specs.Cuts.{joined, IsCut, IsByWeight, IsFewest, full_cut_behind, full_cut}

module _ {A : Type 0} (fits : List A → Bool) (weight : A → ℕ) (bare limit : ℕ) (weighs : IsByWeight fits weight bare limit) where
  weight-cons : (x : A) (xs : List A) → sum_by weight (x ∷ xs) ≡ weight x + sum_by weight xs
  weight-cons x xs = omega (arith, sum_by-append weight (x ∷ []) xs)

  weight-push : (run : List A) (x : A) → sum_by weight (run ++ x ∷ []) ≡ sum_by weight run + weight x
  weight-push run x = omega (arith, sum_by-append weight run (x ∷ []))

  fits_within : (run : List A) → fits run ≡ true → bare + sum_by weight run ≤ limit
  fits_within run h = leb-true (bare + sum_by weight run) limit (sym (weighs run) ∙ h)

  within_fits : (run : List A) → bare + sum_by weight run ≤ limit → fits run ≡ true
  within_fits run h = weighs run ∙ le-leb (bare + sum_by weight run) limit h

  -- how another cut goes on: its open run, which weighs so much, takes `more`, and then come the runs
  record GoesOn (xs : List A) (taken : ℕ) (more : List A) (runs : List (List A)) : Type 0 where
    whole : xs ≡ more ++ joined runs
    open_fits : bare + (taken + sum_by weight more) ≤ limit
    some : All (λ run. 0 < length run) runs
    within : All (λ run. IsTrue (fits run)) runs

  -- the full cut is ahead of it
  record IsAhead (xs run : List A) (taken : ℕ) (runs : List (List A)) : Type 0 where
    no_heavier : sum_by weight run ≤ taken → length (full_cut_behind fits run xs) ≤ length runs + 1
    one_more : length (full_cut_behind fits run xs) ≤ length runs + 2

  -- one more element goes into the open run, or begins one
  bounded : (b : Bool) (run : List A) (longer begun : List (List A)) (n : ℕ) → length longer ≤ n → length begun + 1 ≤ n → length (cond b longer (run ∷ begun)) ≤ n
  bounded true run longer begun n p q = p
  bounded false run longer begun n p q = omega arith

  first_of : (x y : A) (xs ys : List A) → x ∷ xs ≡ y ∷ ys → x ≡ y
  first_of x y xs ys e = cc

  rest_of : (x y : A) (xs ys : List A) → x ∷ xs ≡ y ∷ ys → xs ≡ ys
  rest_of x y xs ys e = cc

  nothing_left : (x : A) (xs : List A) {B : Type 0} → x ∷ xs ≡ [] → B
  nothing_left x xs e = cc

  some_first : (runs : List (List A)) {B : Type 0} → All (λ run. 0 < length run) ([] ∷ runs) → B
  some_first runs some = absurd (omega (arith, All-head (λ (run : List A). 0 < length run) [] runs some))

  -- the first run of a cut, as the open run of what goes on
  goes_on : (xs next : List A) (y : A) (runs : List (List A)) → xs ≡ next ++ joined runs → All (λ run. 0 < length run) ((y ∷ next) ∷ runs) → All (λ run. IsTrue (fits run)) ((y ∷ next) ∷ runs) → GoesOn xs (weight y) next runs
  goes_on xs next y runs whole some within =
      let first = fits_within (y ∷ next) (All-head (λ (run : List A). IsTrue (fits run)) (y ∷ next) runs within) in
      record {
        whole = whole;
        open_fits = omega (arith, first, weight-cons y next);
        some = All-tail (λ (run : List A). 0 < length run) (y ∷ next) runs some;
        within = All-tail (λ (run : List A). IsTrue (fits run)) (y ∷ next) runs within;
      }

  ahead : (xs run : List A) (taken : ℕ) (more : List A) (runs : List (List A)) → GoesOn xs taken more runs → IsAhead xs run taken runs
  ahead [] run taken more runs on = record { no_heavier = λ h. omega arith; one_more = omega arith }
  ahead (x ∷ xs) run taken [] [] on = nothing_left x xs on.whole
  ahead (x ∷ xs) run taken [] ([] ∷ runs) on = some_first runs on.some
  ahead (x ∷ xs) run taken [] ((y ∷ next) ∷ runs) on =
      let goes = goes_on xs next y runs (rest_of x y xs (next ++ joined runs) on.whole) on.some on.within in
      let longer = ahead xs (run ++ x ∷ []) (weight y) next runs goes in
      let begun = ahead xs (x ∷ []) (weight y) next runs goes in
      let same = ap weight (first_of x y xs (next ++ joined runs) on.whole) in
      let begun_bound : length (full_cut_behind fits (x ∷ []) xs) ≤ length runs + 1 = begun.no_heavier (omega (arith, same)) in
      let bound : length (full_cut_behind fits run (x ∷ xs)) ≤ length runs + 2 =
      bounded (fits (run ++ x ∷ [])) run (full_cut_behind fits (run ++ x ∷ []) xs) (full_cut_behind fits (x ∷ []) xs) (length runs + 2) longer.one_more (omega arith) in
      record { no_heavier = λ h. omega arith; one_more = omega arith }
  ahead (x ∷ xs) run taken (y ∷ more) runs on =
      let same = ap weight (first_of x y xs (more ++ joined runs) on.whole) in
      let goes : GoesOn xs (taken + weight y) more runs =
      record {
        whole = rest_of x y xs (more ++ joined runs) on.whole;
        open_fits = omega (arith, on.open_fits, weight-cons y more);
        some = on.some;
        within = on.within;
      } in
      let longer = ahead xs (run ++ x ∷ []) (taken + weight y) more runs goes in
      let begun = ahead xs (x ∷ []) (taken + weight y) more runs goes in
      let begun_bound : length (full_cut_behind fits (x ∷ []) xs) ≤ length runs + 1 = begun.no_heavier (omega (arith, same)) in
      let pushed = weight-push run x in
      record {
        no_heavier = λ h.
            let room : fits (run ++ x ∷ []) ≡ true = within_fits (run ++ x ∷ []) (omega (arith, on.open_fits, weight-cons y more, same, pushed)) in
            let P : Bool → Type 0 = λ b. length (cond b (full_cut_behind fits (run ++ x ∷ []) xs) (run ∷ full_cut_behind fits (x ∷ []) xs)) ≤ length runs + 1 in
            subst P (sym room) (longer.no_heavier (omega (arith, same, pushed)));
        one_more = bounded (fits (run ++ x ∷ [])) run (full_cut_behind fits (run ++ x ∷ []) xs) (full_cut_behind fits (x ∷ []) xs) (length runs + 2) longer.one_more (omega arith);
      }

  fewest_of : (xs : List A) (others : List (List A)) → IsCut fits xs others → length (full_cut fits xs) ≤ length others
  fewest_of [] others cut = omega arith
  fewest_of (x ∷ xs) [] cut = nothing_left x xs cut.whole
  fewest_of (x ∷ xs) ([] ∷ runs) cut = some_first runs cut.some
  fewest_of (x ∷ xs) ((y ∷ next) ∷ runs) cut =
      let goes = goes_on xs next y runs (rest_of x y xs (next ++ joined runs) cut.whole) cut.some cut.within in
      let begun = ahead xs (x ∷ []) (weight y) next runs goes in
      let same = ap weight (first_of x y xs (next ++ joined runs) cut.whole) in
      omega (arith, begun.no_heavier (omega (arith, same)))

  -- among all cuts of the list within the limit, none has fewer runs than the full cut
  pub full_cut_fewest : (xs : List A) → IsFewest fits xs (full_cut fits xs)
  full_cut_fewest xs others cut = fewest_of xs others cut
