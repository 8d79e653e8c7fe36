-- What a function answers at each key with its bag.
use Rattle.std.specs.Prelude.{◌≡◌, ⊤, List, [], ◌∷◌, Option, MatchOption, Result, IfOk}
use Rattle.std.specs.Fn.{Mut, Called}
use denote.Ref.{Bor}

-- `plain` says what is seen of a key, and `seen` what f is shown of a bag
module _ {F K L W B R : Type 0} (plain : K → L) (seen : W → B) (g : Mut F (Bor K × (Bor B × Unit {0})) R) where
  -- f, called at a `&` to the key and one to its bag, may answer r and become h
  pub record CalledAt (f : F) (entry : L × W) (r : R) (h : F) : Type 0 where
    pub key : Bor K
    pub bag : Bor B
    pub shows : (plain key.now ≡ entry.0) × (bag.now ≡ seen entry.1)
    pub called : Called g f (key, (bag, tt)) r h

  -- f, called at each entry in order, has given these answers
  abbrev pub AnswersEach : F → List (L × W) → List R → Type 0
  AnswersEach f [] [] = ⊤
  AnswersEach f [] (r ∷ rs) = ⊥
  AnswersEach f (e ∷ es) [] = ⊥
  AnswersEach f (e ∷ es) (r ∷ rs) = (h : F) × CalledAt f e r h × AnswersEach h es rs

-- what was found is `right`, unless it was refused
abbrev pub IsFoundOr : {A E : Type 0} → (A → Type 0) → Result (Option A) E → Type 0
IsFoundOr right result = IfOk result (λ o. MatchOption o ⊥ right)
