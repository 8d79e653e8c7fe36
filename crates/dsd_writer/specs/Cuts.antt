-- How a list is cut into runs within a limit, in order, each run full before the next begins (this project's rule).
use Rattle.std.specs.Prelude.{◌≡◌, ℕ, ◌+◌, ◌<◌, ◌≤◌, Bool, nat_le, List, [], ◌∷◌, ◌++◌, length, sum, sum_by, All, IsTrue, IsFalse, if◌then◌else◌}

-- the runs, one after another
abbrev pub joined : {A : Type 0} → List (List A) → List A
joined [] = []
joined (run ∷ runs) = run ++ joined runs

-- each run would go past the limit with the first element of the next one
abbrev pub AreFull : {A : Type 0} → (List A → Bool) → List (List A) → Type 0
AreFull fits [] = Unit {0}
AreFull fits (run ∷ []) = Unit {0}
AreFull fits (run ∷ [] ∷ runs) = ⊥
AreFull fits (run ∷ (x ∷ next) ∷ runs) = IsFalse (fits (run ++ x ∷ [])) × AreFull fits ((x ∷ next) ∷ runs)

-- a cut within the limit: runs that aren't empty, that are together the list, and each of which fits
pub record IsCut {A : Type 0} (fits : List A → Bool) (xs : List A) (runs : List (List A)) : Type 0 where
  pub whole : xs ≡ joined runs
  pub some : All (λ run. 0 < length run) runs
  pub within : All (λ run. IsTrue (fits run)) runs

-- a full cut: each run but the last one is full
pub record IsFullCut {A : Type 0} (fits : List A → Bool) (xs : List A) (runs : List (List A)) : Type 0 where
  pub cut : IsCut fits xs runs
  pub full : AreFull fits runs

-- the full cut of a list of which a run has been taken already
abbrev pub full_cut_behind : {A : Type 0} → (List A → Bool) → List A → List A → List (List A)
full_cut_behind fits run [] = run ∷ []
full_cut_behind fits run (x ∷ xs) =
    if fits (run ++ x ∷ []) then full_cut_behind fits (run ++ x ∷ []) xs else run ∷ full_cut_behind fits (x ∷ []) xs

-- the full cut of a list whose elements fit each alone
abbrev pub full_cut : {A : Type 0} → (List A → Bool) → List A → List (List A)
full_cut fits [] = []
full_cut fits (x ∷ xs) = full_cut_behind fits (x ∷ []) xs

-- elements have weights, and a run fits where its weights and a weight of its own, `bare`, are at most the limit
abbrev pub IsByWeight : {A : Type 0} → (List A → Bool) → (A → ℕ) → ℕ → ℕ → Type 0
IsByWeight {A} fits weight bare limit = (run : List A) → fits run ≡ nat_le (bare + sum_by weight run) limit

-- among all cuts of the list within the limit none has fewer runs
abbrev pub IsFewest : {A : Type 0} → (List A → Bool) → List A → List (List A) → Type 0
IsFewest {A} fits xs runs = (others : List (List A)) → IsCut fits xs others → length runs ≤ length others

-- a full cut of which no other cut within the limit has fewer runs
pub record IsBestCut {A : Type 0} (fits : List A → Bool) (xs : List A) (runs : List (List A)) : Type 0 where
  pub full : IsFullCut fits xs runs
  pub fewest : IsFewest fits xs runs

-- whether the weights of a run and a weight of its own, `bare`, are at most the limit
abbrev pub weigh_within : ℕ → ℕ → List ℕ → Bool
weigh_within bare limit run = nat_le (bare + sum run) limit

-- each text has at most so many bytes
abbrev pub AreWithin : ℕ → List (List ℕ) → Type 0
AreWithin limit texts = All (λ text. length text ≤ limit) texts
