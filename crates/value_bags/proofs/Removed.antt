-- An entry that goes, whose place the last one takes: what is left is a rearrangement of the others.
use Rattle.std.proofs.Common.{◌≡◌, ℕ, Bool, true, List, [], ◌∷◌, position, is_some, Option, Some, None, slice_get, get_or, refl, sym, ap, ◌∙◌, subst, true≢false}
use Rattle.std.specs.List.Sorted.{IsPermutation}
use Rattle.std.specs.Map.{lookup, keys_of}
use Rattle.std.specs.Option.{option_map}
use Rattle.std.proofs.lemmas.List.{get_or_default}
use Rattle.std.proofs.lemmas.List.Sorted.{IsPermutation-swap_remove}
use Rattle.std.proofs.lemmas.Option.{slice_get-map, slice_get-get_or}
use Rattle.std.proofs.lemmas.Map.Made.{lookup_key_passes}
use Rattle.indexmap.specs.IndexMap.{swap_remove_entry}
use Rattle.indexmap.proofs.MapLemmas.{Found-position, some_index, swap_remove_entry-found}

module _ {K B : Type 0} (test : K → Bool) where
  pub record Gone (es : List (K × B)) (b : B) : Type 0 where
    pub entry : K × B
    pub value : entry.1 ≡ b
    pub passes : test entry.0 ≡ true
    pub moved : IsPermutation es (entry ∷ swap_remove_entry test es)

  pub goes : (es : List (K × B)) (b : B) → lookup test es ≡ Some b → Gone es b
  goes [] b is = absurd (let h : None ≡ Some b = is in cc)
  goes (e ∷ es) b is = by (position test (keys_of (e ∷ es))) refl
    where
      by : (o : Option ℕ) → position test (keys_of (e ∷ es)) ≡ o → Gone (e ∷ es) b
      by None p = absurd (true≢false (sym (ap is_some is) ∙ sym (some_index test (e ∷ es)) ∙ ap is_some p))
      by (Some i) p =
          let f = Found-position test (e ∷ es) i p in
          let x = get_or (e ∷ es) i e in
          let at : slice_get (e ∷ es) i ≡ Some x = slice_get-get_or (e ∷ es) i e f.within in
          let value : Some x.1 ≡ Some b = sym (slice_get-map (λ (y : K × B). y.1) (e ∷ es) i ∙ ap (option_map (λ (y : K × B). y.1)) at) ∙ sym f.value ∙ is in
          let key = f.key ∙ slice_get-map (λ (y : K × B). y.0) (e ∷ es) i ∙ ap (option_map (λ (y : K × B). y.0)) at in
          record {
            entry = x;
            value = cc;
            passes = lookup_key_passes test (e ∷ es) x.0 key;
            moved = subst (λ l. IsPermutation (e ∷ es) (x ∷ l)) (sym (swap_remove_entry-found test (e ∷ es) i x p)) (IsPermutation-swap_remove (e ∷ es) i x f.within (get_or_default (e ∷ es) i e x f.within));
          }
