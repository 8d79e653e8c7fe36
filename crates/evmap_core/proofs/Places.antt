-- The bags at the places of a map.
use Rattle.std.proofs.Common.{◌≡◌, ℕ, Option, Some, None, IfSome, List, [], ◌∷◌, refl, ap, sym, ◌∙◌, is_some, slice_get}
use Rattle.std.proofs.lemmas.Option.{slice_get-map}
use Rattle.std.specs.Map.{values_of}
use Rattle.std.specs.Option.{option_map}
use Rattle.value_bags.specs.declared.bag.BagForm.{BagForm}
use Rattle.value_bags.specs.Entries.{with_keys}
use Rattle.evmap_contents.specs.declared.write.Contents.{Contents}
use Rattle.evmap_core.specs.Asked.{bag_at}

module _ {K L B : Type 0} (plain : K → L) where
  -- the bags stay under plain keys
  bags-plain : (es : List (K × B)) → values_of (with_keys plain es) ≡ values_of es
  bags-plain [] = refl
  bags-plain (e ∷ es) = ap (λ bs. e.1 ∷ bs) (bags-plain es)

  -- what an entry at a place has
  pub entry-at : (es : List (K × B)) (place : ℕ) (o : Option (K × B)) → o ≡ slice_get es place → option_map (λ e. e.1) o ≡ slice_get (values_of (with_keys plain es)) place
  entry-at es place o is = ap (option_map (λ e. e.1)) is ∙ sym (slice_get-map (λ (e : K × B). e.1) es place) ∙ ap (λ bs. slice_get bs place) (sym (bags-plain es))

module _ {K L V M : Type 0} (plain : K → L) (c : Contents L V M) (es : List (K × BagForm V)) (is : c.entries ≡ with_keys plain es) where
  -- the place that was found, or none
  pub found-at : (place : Option ℕ) (found : Option (BagForm V)) → is_some place ≡ is_some found → IfSome place (λ i. slice_get (values_of es) i ≡ found) → bag_at c place ≡ found
  found-at None None h at = refl
  found-at None (Some b) h at = absurd (cc h)
  found-at (Some i) found h at = ap (λ fs. slice_get (values_of fs) i) is ∙ ap (λ bs. slice_get bs i) (bags-plain plain es) ∙ at
