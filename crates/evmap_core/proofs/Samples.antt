-- Places and the entries at them.
use Rattle.std.proofs.Common.{◌≡◌, ◌<◌, inl, inr, ℕ, suc, List, [], ◌∷◌, Option, None, Some, slice_get, refl, sym, ap, ◌∙◌, arith}
use Rattle.std.proofs.Common.{All, length, min, eqb}
use Rattle.std.specs.List.{cons_option}
use Rattle.std.specs.List.Sorted.{IsPermutation, IsSorted}
use Rattle.std.specs.Ordering.{nat_cmp}
use Rattle.std.proofs.lemmas.List.Elements.{All-head, All-tail}
use Rattle.std.proofs.lemmas.List.Sorted.{All-permutation, length_permutation, IsNonDecreasingBy-from_sort}
use Rattle.std.proofs.lemmas.Map.Keys.{IsDistinct-IsPermutation, IsStrictlyIncreasing-from_distinct}
use Rattle.std.proofs.lemmas.Map.Made.{IsDistinct-from_AllPairs}
use Rattle.std.proofs.lemmas.Bool.Decides.{Decides-eqb, eqb_tells}
use Rattle.std.proofs.lemmas.Option.{slice_get-get_or, slice_get-map}
use Rattle.std.specs.Option.{option_map}
use Rattle.value_bags.specs.Entries.{with_keys}
use Rattle.rand.specs.Sample.{IsSampleOf}
use Rattle.evmap_core.specs.Marked.{ArePlaces, entries_at}

-- each place has an entry
pub entries_at-len : {X : Type 0} (es : List X) (ps : List ℕ) → All (λ p. p < length es) ps → length (entries_at es ps) ≡ length ps
entries_at-len es [] within = refl
entries_at-len [] (p ∷ ps) within = absurd (omega (arith, All-head (λ (p : ℕ). p < 0) p ps within))
entries_at-len (e ∷ es) (p ∷ ps) within =
    ap (λ o. length (cons_option o (entries_at (e ∷ es) ps))) (slice_get-get_or (e ∷ es) p e (All-head (λ (p : ℕ). p < length (e ∷ es)) p ps within))
    ∙ ap suc (entries_at-len (e ∷ es) ps (All-tail (λ (p : ℕ). p < length (e ∷ es)) p ps within))

-- whether two numbers are equal does not depend on their order
eqb-flips : (a b : ℕ) → eqb a b ≡ eqb b a
eqb-flips a b = elim (eqb_tells a b) [
  | inl h ↦ elim (eqb_tells b a) [ inl k ↦ h.0 ∙ sym k.0 | inr k ↦ absurd (k.1 (sym h.1)) ]
  | inr h ↦ elim (eqb_tells b a) [ inl k ↦ absurd (h.1 (sym k.1)) | inr k ↦ h.0 ∙ sym k.0 ]
]

-- a sample in order
pub ordered-sample : (len asked amount : ℕ) (drawn places : List ℕ) → amount ≡ min asked len → IsSampleOf len amount drawn → IsPermutation drawn places → IsSorted nat_cmp places → ArePlaces len asked places
ordered-sample len asked amount drawn places is sample moved sorted = record {
  ascend = IsStrictlyIncreasing-from_distinct places (IsNonDecreasingBy-from_sort (λ x. x) places sorted)
      (IsDistinct-IsPermutation eqb eqb-flips drawn places moved (IsDistinct-from_AllPairs Decides-eqb drawn sample.distinct));
  within = All-permutation (λ p. p < len) drawn places moved sample.in_range;
  amount = length_permutation drawn places moved ∙ sample.len ∙ is;
}

module _ {K L B : Type 0} (plain : K → L) where
  -- the entries at places are seen through plain keys
  pub entries_at-plain : (es : List (K × B)) (ps : List ℕ) → with_keys plain (entries_at es ps) ≡ entries_at (with_keys plain es) ps
  entries_at-plain es [] = refl
  entries_at-plain es (p ∷ ps) = at (slice_get es p) ∙ (λ j. cons_option (sym (slice_get-map (λ (e : K × B). (plain e.0, e.1)) es p) j) (entries_at-plain es ps j))
    where
      at : (o : Option (K × B)) → with_keys plain (cons_option o (entries_at es ps)) ≡ cons_option (option_map (λ e. (plain e.0, e.1)) o) (with_keys plain (entries_at es ps))
      at None = refl
      at (Some e) = refl
