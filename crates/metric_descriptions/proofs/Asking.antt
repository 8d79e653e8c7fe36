-- What is answered of a name, and what is said where no write waits.
use Rattle.std.proofs.Common.{◌≡◌, ℕ, false, List, [], ◌∷◌, fold, option_map, Option, Some, None, refl, sym, ap, ◌∙◌, subst, ⊎_elim, arith}
use Rattle.std.specs.List.{AllByRecursion, Contains}
use Rattle.std.proofs.lemmas.List.Elements.{Contains-push_cases}
use Rattle.metrics_core.specs.Texts.{cow_text}
use Rattle.value_bags.specs.declared.bag.BagForm.{BagForm}
use Rattle.value_bags.specs.Bags.{bag_len, values_of}
use Rattle.evmap_contents.specs.declared.write.Write.{Write}
use Rattle.evmap_contents.specs.declared.write.Write.TheVariants.{Insert, Update, Clear, RemoveValue, RemoveEntry, Purge, Retain, Fit, FitAll, Reserve, RemovePlaces, SetMeta, Ready}
use Rattle.evmap_core.specs.Asked.{IsOneOf}
use Rattle.evmap_core.specs.Front.{has_write}
use Rattle.metric_descriptions.specs.Descriptions.{Description}
use Rattle.metric_descriptions.specs.Written.{Text, stored, written, with_write, Describes}
use Rattle.metric_descriptions.proofs.Writing.{SaysThat}

alone : (text v : Text) → Contains (text ∷ []) v → text ≡ v
alone text v h = ⊎_elim (λ (none : Contains [] v). absurd (omega (arith, none.1))) (λ (e : text ≡ v). e) (Contains-push_cases [] text v h)

-- one of the values of a bag that says what a description says
pub one-said : (o : Option (BagForm Text)) (p : Option Description) (answer : Option Text) → IsOneOf o answer → SaysThat o p
    → option_map stored answer ≡ option_map written p
one-said None None answer one h = ap (option_map stored) one
one-said (Some bag) (Some d) None one h = absurd (omega (arith, ap bag_len h.1, one))
one-said (Some bag) (Some d) (Some v) one h =
    let e : h.0 ≡ v = alone h.0 v (subst (λ b. Contains (values_of b) v) h.1 one) in
    λ j. Some (((ap (λ (t : Text). cow_text t.0) (sym e)) ∙ sym h.2) j, ((ap (λ (t : Text). t.1) (sym e)) ∙ sym h.3) j)
one-said None (Some _) answer one h = absurd h
one-said (Some _) None answer one h = absurd h

module _ {P : Type 0} where
  -- the mark of the first publish alone says nothing
  pub silent : (ws : List (Write (List ℕ) Text Unit P)) → AllByRecursion Describes ws → has_write ws ≡ false → (ds : List Description) → fold with_write ds ws ≡ ds
  silent [] k none ds = refl
  silent (Update _ _ ∷ ws) k none ds = cc
  silent (Ready ∷ ws) k none ds = silent ws k.1 none ds
  silent (Insert _ _ ∷ ws) k none ds = absurd k.0
  silent (Clear _ ∷ ws) k none ds = absurd k.0
  silent (RemoveValue _ _ ∷ ws) k none ds = absurd k.0
  silent (RemoveEntry _ ∷ ws) k none ds = absurd k.0
  silent (Purge ∷ ws) k none ds = absurd k.0
  silent (Retain _ _ ∷ ws) k none ds = absurd k.0
  silent (Fit _ ∷ ws) k none ds = absurd k.0
  silent (FitAll ∷ ws) k none ds = absurd k.0
  silent (Reserve _ _ ∷ ws) k none ds = absurd k.0
  silent (RemovePlaces _ ∷ ws) k none ds = absurd k.0
  silent (SetMeta _ ∷ ws) k none ds = absurd k.0
