-- Worked rows.
use Rattle.std.specs.Prelude.{◌≡◌, ℕ, nat_eq, true, List, [], ◌∷◌, refl}
use Rattle.value_bags.specs.declared.bag.BagForm.{BagForm}
use Rattle.value_bags.specs.declared.bag.BagForm.TheVariants.{Short, Long}
use Rattle.evmap_contents.specs.declared.write.Write.{Write}
use Rattle.evmap_contents.specs.declared.write.Write.TheVariants.{Insert, Update, Clear, RemoveValue, RemoveEntry, FitAll, Reserve, RemovePlaces}
use Rattle.evmap_contents.specs.Fold.{made_with, after_all}

-- the entries after these writes
abbrev left : List (Write ℕ ℕ ℕ ℕ) → List (ℕ × BagForm ℕ)
left ws = (after_all nat_eq nat_eq (λ _ _. true) (made_with 0) ws).entries

-- the last key takes the place of one that goes
removed : left (Insert 1 7 ∷ Insert 2 7 ∷ Insert 3 7 ∷ RemoveEntry 1 ∷ []) ≡ (3, Short (7 ∷ [])) ∷ (2, Short (7 ∷ [])) ∷ []
removed = refl

by-place : left (Insert 1 7 ∷ Insert 2 7 ∷ Insert 3 7 ∷ RemovePlaces (9 ∷ 2 ∷ 0 ∷ []) ∷ []) ≡ (2, Short (7 ∷ [])) ∷ []
by-place = refl

updated : left (Insert 1 7 ∷ Insert 1 8 ∷ Update 1 9 ∷ []) ≡ (1, Short (9 ∷ [])) ∷ []
updated = refl

emptied : left (Insert 1 7 ∷ Insert 1 7 ∷ Clear 1 ∷ Clear 2 ∷ []) ≡ (1, Short []) ∷ (2, Short []) ∷ []
emptied = refl

one-less : left (Insert 1 7 ∷ Insert 1 7 ∷ RemoveValue 1 7 ∷ RemoveValue 2 7 ∷ []) ≡ (1, Short (7 ∷ [])) ∷ []
one-less = refl

roomy : left (Insert 1 7 ∷ Reserve 1 31 ∷ Reserve 2 33 ∷ []) ≡ (1, Long ((7, 1) ∷ [])) ∷ (2, Long []) ∷ []
roomy = refl

fitted : left (Insert 1 7 ∷ Reserve 1 31 ∷ Reserve 2 33 ∷ FitAll ∷ []) ≡ (1, Short (7 ∷ [])) ∷ (2, Short []) ∷ []
fitted = refl
