-- Which entries are left once the marked ones are removed.
use Rattle.std.proofs.Common.{◌≡◌, ◌<◌, ◌≤◌, ◌-◌, inl, inr, ℕ, zero, suc, List, [], ◌∷◌, ◌++◌, Some, slice_get, fold, reverse, refl, sym, ap, ◌∙◌, subst, append_assoc, arith, All, length, get_or}
use Rattle.std.specs.List.{AllPairs, cons_option, swap_remove}
use Rattle.std.specs.List.Sorted.{IsPermutation, IsStrictlyIncreasing}
use Rattle.std.specs.Option.{option_map_or}
use Rattle.std.proofs.lemmas.List.{reverse-append, get_or-take, get_or-set_other, length-set, length-take-le}
use Rattle.std.proofs.lemmas.List.Elements.{All-head, All-tail}
use Rattle.std.proofs.lemmas.List.Kept.{AllPairs-from_increasing}
use Rattle.std.proofs.lemmas.List.Sorted.{IsPermutation-refl, IsPermutation-trans, IsPermutation-append_left, IsPermutation-append_right, IsPermutation-swap_remove, IsPermutation-to_front}
use Rattle.std.proofs.lemmas.Option.{slice_get-get_or, slice_get_cases}
use Rattle.evmap_contents.specs.Fold.{without_place}
use Rattle.evmap_core.specs.Marked.{entries_at}
use Rattle.evmap_core.proofs.Fronts.{fold-append}

-- the places ascend from low, and are below n
abbrev Rise : ℕ → ℕ → List ℕ → Type 0
Rise low n [] = low ≤ n
Rise low n (p ∷ ps) = (low ≤ p) × Rise (suc p) n ps

rise : (low n : ℕ) (ps : List ℕ) → AllPairs (λ x y. x < y) ps → All (λ p. p < n) ps → All (λ p. low ≤ p) ps → low ≤ n → Rise low n ps
rise low n [] up within above h = h
rise low n (p ∷ ps) up within above h = (
  All-head (λ q. low ≤ q) p ps above,
  rise (suc p) n ps (λ i j d l m. up (suc i) (suc j) d (omega arith) (omega arith)) (All-tail (λ q. q < n) p ps within) (λ k d l. let b = up zero (suc k) d (omega arith) (omega arith) in omega arith)
      (let b : p < n = All-head (λ q. q < n) p ps within in omega arith),
)

module _ {X : Type 0} where
  -- where a place has an entry, the last one takes its place
  taken : (xs : List X) (p : ℕ) → p < length xs → (x : X) × (slice_get xs p ≡ Some x) × (get_or xs p x ≡ x) × (without_place xs p ≡ swap_remove xs p x)
  taken xs p l = elim (slice_get_cases xs p).1 [
    | inl t ↦ (t.0, t.2, t.3, ap (λ o. option_map_or (λ x. swap_remove xs p x) o xs) t.2)
    | inr t ↦ absurd (omega arith)
  ]

  shorter : (xs : List X) (p : ℕ) (x : X) → p < length xs → length (swap_remove xs p x) ≡ length xs - 1
  shorter xs p x l = length-take-le (length xs - 1) _ (rw length-set (omega arith))

  -- what stands below the place stays
  below : (xs : List X) (p k : ℕ) (x : X) → p < length xs → k < p → slice_get (swap_remove xs p x) k ≡ slice_get xs k
  below xs p k x l m =
      let n = shorter xs p x l in
      slice_get-get_or (swap_remove xs p x) k x (omega arith)
      ∙ ap (λ y. Some y) (get_or-take (length xs - 1) _ k x (omega arith) ∙ get_or-set_other xs p k _ x (λ e. omega arith))
      ∙ sym (slice_get-get_or xs k x (omega arith))

  module _ (es : List X) where
    -- the entries once these places are removed, from the last on
    abbrev left : List ℕ → List X
    left ps = fold without_place es (reverse ps)

    left-more : (p : ℕ) (ps : List ℕ) → left (p ∷ ps) ≡ without_place (left ps) p
    left-more p ps = ap (fold without_place es) (reverse-append (p ∷ []) ps) ∙ fold-append without_place es (reverse ps) (p ∷ [])

    stays-below : (low : ℕ) (ps : List ℕ) → Rise low (length es) ps → ((k : ℕ) → k < low → slice_get (left ps) k ≡ slice_get es k) × (low ≤ length (left ps))
    stays-below low [] h = (λ k l. refl, h)
    stays-below low (p ∷ ps) h =
        let i = stays-below (suc p) ps h.1 in
        let t = taken (left ps) p (omega (arith, i.1)) in
        let is = left-more p ps ∙ t.3 in (
          λ k l. ap (λ xs. slice_get xs k) is ∙ below (left ps) p k t.0 (omega (arith, i.1)) (omega (arith, h.0)) ∙ i.0 k (omega (arith, h.0)),
          subst (λ xs. low ≤ length xs) (sym is) (let n = shorter (left ps) p t.0 (omega (arith, i.1)) in omega (arith, h.0, i.1)),
        )

    parted : (low : ℕ) (ps : List ℕ) → Rise low (length es) ps → IsPermutation es (entries_at es ps ++ left ps)
    parted low [] h = IsPermutation-refl es
    parted low (p ∷ ps) h =
        let i = stays-below (suc p) ps h.1 in
        let t = taken (left ps) p (omega (arith, i.1)) in
        let gone = entries_at es ps in
        let rest = swap_remove (left ps) p t.0 in
        let here : slice_get es p ≡ Some t.0 = sym (i.0 p (omega arith)) ∙ t.1 in
        subst (λ xs. IsPermutation es (xs ++ left (p ∷ ps))) (sym (ap (λ o. cons_option o gone) here))
        (subst (λ xs. IsPermutation es (t.0 ∷ gone ++ xs)) (sym (left-more p ps ∙ t.3))
        (IsPermutation-trans es (gone ++ left ps) (t.0 ∷ gone ++ rest) (parted (suc p) ps h.1)
        (IsPermutation-trans (gone ++ left ps) (gone ++ t.0 ∷ rest) (t.0 ∷ gone ++ rest) (IsPermutation-append_right gone (left ps) (t.0 ∷ rest) (IsPermutation-swap_remove (left ps) p t.0 (omega (arith, i.1)) (sym t.2)))
        (subst (λ xs. IsPermutation xs (t.0 ∷ gone ++ rest)) (append_assoc gone (t.0 ∷ []) rest) (IsPermutation-append_left rest (gone ++ t.0 ∷ []) (t.0 ∷ gone) (IsPermutation-to_front gone t.0))))))

    pub marked-go : (ps : List ℕ) → IsStrictlyIncreasing ps → All (λ p. p < length es) ps → IsPermutation es (entries_at es ps ++ fold without_place es (reverse ps))
    marked-go ps up within = parted zero ps (rise zero (length es) ps (AllPairs-from_increasing ps up) within (λ k d l. omega arith) (omega arith))
