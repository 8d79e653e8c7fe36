-- Entries at places that were found.
use Rattle.std.proofs.Common.{◌≡◌, ◌<◌, ℕ, Bool, true, Option, Some, None, MatchOption, IfSome, is_some, sym, ap, ◌∙◌, subst}
use Rattle.std.specs.Option.{IfNone}
use Rattle.left_right.specs.Sides.{view}
use Rattle.left_right.specs.declared.reader.Reading.{Reading}
use Rattle.evmap_contents.specs.declared.write.Write.{Write}
use Rattle.evmap_contents.specs.declared.write.Contents.{Contents}
use Rattle.evmap_contents.specs.Views.{contents}
use Rattle.evmap_core.specs.declared.known_fronts.KnownFronts.{KnownFronts}
use Rattle.evmap_core.specs.declared.store.Store.{Store}
use Rattle.evmap_core.specs.declared.guard.Guard.{Guard}
use Rattle.evmap_core.specs.Asked.{bag_under, bag_at, count_at}
use Rattle.evmap_core.specs.Front.{IsFrontFor, Answers}
use Rattle.evmap_core.specs.Guards.{HasFound, ShowsFront, FindsBag, FindsOne}
use Rattle.evmap_core.proofs.Readings.{answered}

-- a place at which the bag of the key stands, or the key is not there
abbrev pub IsPlaceOf : {L V M : Type 0} → (L → L → Bool) → L → Contents L V M → Option ℕ → Type 0
IsPlaceOf same key c place = (bag_at c place ≡ bag_under same key c) × (is_some place ≡ is_some (bag_under same key c))

-- the same, where the bag has a value
abbrev pub IsFilledPlaceOf : {L V M : Type 0} → (L → L → Bool) → L → Contents L V M → Option ℕ → Type 0
IsFilledPlaceOf same key c place = MatchOption place (count_at (bag_under same key c) ≡ 0) (λ p. (bag_at c (Some p) ≡ bag_under same key c) × (0 < count_at (bag_under same key c)))

module _ {L V M : Type 0} (same : L → L → Bool) (key : L) (c : Contents L V M) where
  filled-is : (place : Option ℕ) → is_some place ≡ true → IsFilledPlaceOf same key c place → (bag_at c place ≡ bag_under same key c) × (0 < count_at (bag_under same key c))
  filled-is (Some p) there h = h
  filled-is None there h = absurd (cc there)

module _ {K L V M P S H D R X Q Z : Type 0} (plain : K → L) (step : Contents L V M → Write L V M P → Contents L V M) (same : L → L → Bool) (key : L) (reading : Reading (Store K V M P S L H) (KnownFronts L V M P) Q Z) (place : Option ℕ) where
  -- the front of an entry is that of the reading that it has
  pub shows : (before : Option (KnownFronts L V M P)) (o : Option (Guard D R X (Reading (Store K V M P S L H) (KnownFronts L V M P) Q Z) (Option ℕ))) → IsFrontFor plain step before reading.part.value (view reading.place)
      → reading.part.value.inner.ready ≡ true → MatchOption o (place ≡ None) (HasFound reading place) → IfSome o (ShowsFront plain step before)
  shows before None front late h = tt
  shows before (Some e) front late h = (subst (λ r. IsFrontFor plain step before r.part.value (view r.place)) (sym h.0) front, ap (λ r. r.part.value.inner.ready) h.0 ∙ late)

  -- and it looks at the place that was found there
  moved : (Found : Contents L V M → Option ℕ → Type 0) (x : Store K V M P S L H) (e : Guard D R X (Reading (Store K V M P S L H) (KnownFronts L V M P) Q Z) (Option ℕ)) → x ≡ reading.part.value → HasFound reading place e → Found (contents plain x.inner) place
      → Found (contents plain e.reading.part.value.inner) e.at
  moved Found x e is h found =
      subst (λ at. Found (contents plain e.reading.part.value.inner) at) (sym h.1)
      (subst (λ r. Found (contents plain r.part.value.inner) place) (sym h.0) (subst (λ y. Found (contents plain y.inner) place) is found))

  pub finds-bag : (x : Store K V M P S L H) (o : Option (Guard D R X (Reading (Store K V M P S L H) (KnownFronts L V M P) Q Z) (Option ℕ))) → x ≡ reading.part.value → IsPlaceOf same key (contents plain x.inner) place
      → MatchOption o (place ≡ None) (HasFound reading place) → IfSome o (FindsBag plain same key)
  finds-bag x None is found h = tt
  finds-bag x (Some e) is found h = let there = moved (IsPlaceOf same key) x e is h found in (there.0, sym there.1 ∙ ap is_some h.1 ∙ h.2)

  pub finds-one : (x : Store K V M P S L H) (o : Option (Guard D R X (Reading (Store K V M P S L H) (KnownFronts L V M P) Q Z) (Option ℕ))) → x ≡ reading.part.value → IsFilledPlaceOf same key (contents plain x.inner) place
      → MatchOption o (place ≡ None) (HasFound reading place) → IfSome o (FindsOne plain same key)
  finds-one x None is found h = tt
  finds-one x (Some e) is found h = filled-is same key (contents plain e.reading.part.value.inner) e.at (ap is_some h.1 ∙ h.2) (moved (IsFilledPlaceOf same key) x e is h found)

  -- where no place was found, the reader has read that
  pub none-found : (Found : Contents L V M → Option ℕ → Type 0) (found : Contents L V M → Type 0) (unread : Type 0) (before after : Option (KnownFronts L V M P)) (x : Store K V M P S L H)
      (o : Option (Guard D R X (Reading (Store K V M P S L H) (KnownFronts L V M P) Q Z) (Option ℕ))) → ((c : Contents L V M) → Found c None → found c) → IsFrontFor plain step before reading.part.value (view reading.place)
      → reading.part.value.inner.ready ≡ true → x ≡ reading.part.value → Found (contents plain x.inner) place → MatchOption o (place ≡ None) (HasFound reading place) → IfNone o (after ≡ Some (view reading.place))
      → IfNone o (Answers step found unread before after)
  none-found Found found unread before after x (Some e) f front late is h there a = tt
  none-found Found found unread before after x None f front late is h there a =
      answered plain step found unread before after reading.part.value (view reading.place) front late a (subst (λ y. found (contents plain y.inner)) is (f (contents plain x.inner) (subst (Found (contents plain x.inner)) there h)))
