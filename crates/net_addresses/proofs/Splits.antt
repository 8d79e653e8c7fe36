-- A text is split in one way only at the first place of a character.
use Rattle.std.proofs.Common.{◌≡◌, ◌≢◌, ℕ, ◌<◌, List, [], ◌∷◌, ◌++◌, refl, Option, Some, None, Bor}
use Rattle.std.specs.Prelude.{MatchOption}
use Rattle.std.proofs.lemmas.Str.Pattern.{IsSplitOnceResult, split_parts}
use Rattle.std.proofs.lemmas.List.Elements.{All-head, All-tail, All-from_get_or}
use Rattle.net_addresses.specs.Readings.{Lacks}

-- what lacks a character doesn't have it
pub Lacks-split : (c : ℕ) (text xs ys : List ℕ) → Lacks c text → text ≢ xs ++ (c ∷ ys)
Lacks-split c [] [] ys h e = cc
Lacks-split c [] (x ∷ xs) ys h e = cc
Lacks-split c (t ∷ text) [] ys h e = All-head (λ x. x ≢ c) t text h (cc)
Lacks-split c (t ∷ text) (x ∷ xs) ys h e = Lacks-split c text xs ys (All-tail (λ x. x ≢ c) t text h) (cc)

pub same_split : (c : ℕ) (xs us ys vs : List ℕ) → Lacks c xs → Lacks c us → xs ++ (c ∷ ys) ≡ us ++ (c ∷ vs) → (xs ≡ us) × (ys ≡ vs)
same_split c [] [] ys vs h k e = (refl, cc)
same_split c [] (u ∷ us) ys vs h k e = absurd (All-head (λ x. x ≢ c) u us k (cc))
same_split c (x ∷ xs) [] ys vs h k e = absurd (All-head (λ x. x ≢ c) x xs h (cc))
same_split c (x ∷ xs) (u ∷ us) ys vs h k e =
    let rest = same_split c xs us ys vs (All-tail (λ x. x ≢ c) x xs h) (All-tail (λ x. x ≢ c) u us k) (cc) in
    (let first : x ≡ u = cc in let others : xs ≡ us = rest.0 in cc, rest.1)

-- the clause of `split_once` at a character, in these words
pub split_at_first : (c : ℕ) (text : List ℕ) (r : Option (Bor (List ℕ) × Bor (List ℕ))) → IsSplitOnceResult c text r → c < 128 → MatchOption r (Lacks c text) (λ x. (text ≡ x.0.now ++ (c ∷ x.1.now)) × Lacks c x.0.now)
split_at_first c text None h small = All-from_get_or (λ x. x ≢ c) text 0 (split_parts c text None h small)
split_at_first c text (Some x) h small =
    let parts = split_parts c text (Some x) h small in
    (parts.0, All-from_get_or (λ y. y ≢ c) x.0.now 0 parts.1)
