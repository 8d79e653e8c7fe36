-- One write on the entries of a map, seen through plain keys.
use Rattle.std.proofs.Common.{◌≡◌, ℕ, Bool, List, [], ◌∷◌, slice_get, Option, Some, None, Result, Ok, Err, OnErr, IfSome, IfNone, sym, ap, ◌∙◌, arith}
use Rattle.std.specs.List.{swap_remove}
use Rattle.std.specs.Option.{option_map, option_map_or}
use Rattle.std.specs.Map.{lookup, set_value}
use Rattle.std.proofs.lemmas.Option.{slice_get-map}
use Rattle.indexmap.proofs.SetLemmas.{map-swap_remove}
use Rattle.value_bags.specs.Entries.{alter, with_keys}
use Rattle.value_bags.proofs.Changes.{alter-present, alter-absent, lookup-plain}
use Rattle.evmap_contents.specs.Fold.{without_place}

-- what is known of a refusal, whatever it says
pub on_err : {T E Q : Type 0} (r : Result T E) → Q → OnErr r Q
on_err (Ok x) q = tt
on_err (Err e) q = q

module _ {K L : Type 0} (eq : K → K → Bool) (plain : K → L) (same : L → L → Bool) (agrees : (a b : K) → eq a b ≡ same (plain a) (plain b)) {B : Type 0} (k : K) (f : B → B) (es new : List (K × B)) where
  -- what a key has is changed in its place
  pub altered : (b w : B) → new ≡ set_value (eq k) es w → w ≡ f b → lookup (eq k) es ≡ Some b → with_keys plain new ≡ alter (same (plain k)) f (with_keys plain es)
  altered b w e is some = ap (with_keys plain) e ∙ ap (λ x. with_keys plain (set_value (eq k) es x)) is ∙ sym (alter-present eq plain same agrees k f b es some)

  -- there is no such key
  pub unaltered : new ≡ es → lookup (eq k) es ≡ None → with_keys plain new ≡ alter (same (plain k)) f (with_keys plain es)
  unaltered e none = ap (with_keys plain) e ∙ sym (alter-absent (same (plain k)) f (with_keys plain es) (sym (lookup-plain eq plain same agrees k es) ∙ none))

module _ {K L B : Type 0} (plain : K → L) where
  -- the entry at a place goes
  pub without_place-plain : (es new : List (K × B)) (i : ℕ) (r : Option (K × B)) → r ≡ slice_get es i → IfSome r (λ p. new ≡ swap_remove es i p) → IfNone r (new ≡ es) → with_keys plain new ≡ without_place (with_keys plain es) i
  without_place-plain es new i None at some none =
      ap (with_keys plain) none ∙ sym (ap (λ o. option_map_or (λ x. swap_remove (with_keys plain es) i x) o (with_keys plain es)) (slice_get-map (λ (e : K × B). (plain e.0, e.1)) es i ∙ ap (option_map (λ (e : K × B). (plain e.0, e.1))) (sym at)))
  without_place-plain [] new i (Some p) at some none = absurd (let h : Some p ≡ None = at in cc)
  without_place-plain (e ∷ es) new i (Some p) at some none =
      ap (with_keys plain) some ∙ map-swap_remove (λ (x : K × B). (plain x.0, x.1)) (e ∷ es) i p (omega arith)
      ∙ sym (ap (λ o. option_map_or (λ x. swap_remove (with_keys plain (e ∷ es)) i x) o (with_keys plain (e ∷ es))) (slice_get-map (λ (x : K × B). (plain x.0, x.1)) (e ∷ es) i ∙ ap (option_map (λ (x : K × B). (plain x.0, x.1))) (sym at)))
