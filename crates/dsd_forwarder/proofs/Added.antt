-- A loop that adds an update to each of the exporter's own counters.
use Rattle.std.proofs.Common.{◌≡◌, ℕ, zero, suc, ◌<◌, ◌≤◌, List, [], ◌∷◌, ◌++◌, length, take, get_or, refl, sym, ap, subst, ◌∙◌, arith}
use Rattle.std.specs.Prelude.{slice_set}
use Rattle.dsd_exporter.specs.Updates.{UpdateText}
use Rattle.dsd_forwarder.specs.declared.telemetry.OwnCount.{OwnCount}
use Rattle.dsd_forwarder.specs.Telemetry.{AddsTo, EachAdds}

-- it was added to so many of them
abbrev pub SoFar : UpdateText → ℕ → List OwnCount → List OwnCount → Type 0
SoFar u zero xs zs = zs ≡ xs
SoFar u (suc i) [] zs = zs ≡ []
SoFar u (suc i) (x ∷ xs) [] = ⊥
SoFar u (suc i) (x ∷ xs) (z ∷ zs) = AddsTo u x z × SoFar u i xs zs

pub one_more : (u : UpdateText) (i : ℕ) (xs zs : List OwnCount) (d y : OwnCount) → i < length xs → SoFar u i xs zs → AddsTo u (get_or zs i d) y → SoFar u (suc i) xs (slice_set zs i y)
one_more u i [] zs d y within so_far adds = absurd (omega (arith, within))
one_more u zero (x ∷ xs) zs d y within so_far adds =
    subst (λ l. AddsTo u (get_or l 0 d) y → SoFar u 1 (x ∷ xs) (slice_set l 0 y)) (sym so_far) (λ a. (a, refl)) adds
one_more u (suc i) (x ∷ xs) [] d y within so_far adds = absurd so_far
one_more u (suc i) (x ∷ xs) (z ∷ zs) d y within so_far adds = (so_far.0, one_more u i xs zs d y (omega (arith, within)) so_far.1 adds)

pub all_of_them : (u : UpdateText) (i : ℕ) (xs zs : List OwnCount) → length xs ≤ i → SoFar u i xs zs → EachAdds u xs zs
all_of_them u zero [] zs within so_far = so_far
all_of_them u zero (x ∷ xs) zs within so_far = absurd (omega (arith, within))
all_of_them u (suc i) [] zs within so_far = so_far
all_of_them u (suc i) (x ∷ xs) [] within so_far = absurd so_far
all_of_them u (suc i) (x ∷ xs) (z ∷ zs) within so_far = (so_far.0, all_of_them u i xs zs (omega (arith, within)) so_far.1)

pub length-added : (u : UpdateText) (xs zs : List OwnCount) → EachAdds u xs zs → length zs ≡ length xs
length-added u [] zs each = ap length each
length-added u (x ∷ xs) [] each = absurd each
length-added u (x ∷ xs) (z ∷ zs) each = ap suc (length-added u xs zs each.1)

-- what a vector holds after all its elements were written
refilled-own : {A : Type 0} (ws rest : List A) → take (length ws) (ws ++ rest) ≡ ws
refilled-own [] rest = refl
refilled-own (w ∷ ws) rest = ap (λ l. w ∷ l) (refilled-own ws rest)

pub refilled : {A : Type 0} (len : ℕ) (ws rest : List A) → len ≡ length ws → take len (ws ++ rest) ≡ ws
refilled len ws rest long = ap (λ n. take n (ws ++ rest)) long ∙ refilled-own ws rest
