-- How what a lane asks for stands in a history.
use Rattle.std.specs.Prelude.{◌≡◌, ◌⊎◌, ℕ, ◌+◌, ◌%◌, ◌^◌, ◌≤◌, List, [], ◌∷◌, ◌++◌, length}
use Rattle.legal_history.specs.declared.history.Entry.{Entry}
use Rattle.legal_history.specs.declared.history.View.{View}
use Rattle.legal_history.specs.History.{after, calls, looked, Sees}

module _ {M : Type 0} where
  -- a pass made calls, of which `fits` holds, behind a history that begins with all that it had seen
  abbrev pub Made : (List M → Type 0) → View M → View M → Type 0
  Made fits v w = (calls : List M) × fits calls × ((log : List (Entry M)) × Sees v log × (w ≡ after v log calls))

  -- what was asked for, one after the other, stands as these calls
  abbrev pub StandAs : {K : Type 0} → (K → List M → Type 0) → List K → List M → Type 0
  StandAs stands [] calls = calls ≡ []
  StandAs stands (k ∷ ks) calls = (first rest : List M) × stands k first × StandAs stands ks rest × (calls ≡ first ++ rest)

  -- a pass read behind a history that begins with all that it had seen. The reading stands there as these calls, or as none, where the pass is as it was
  abbrev pub Found : List M → View M → View M → Type 0
  Found made v w = (log : List (Entry M)) × Sees v log × ((w ≡ after v log made) ⊎ ((made ≡ []) × (w ≡ v)))

  -- the value after a history that begins with all that the pass had seen; the pass has then seen it
  abbrev pub Shows : {R : Type 0} → (List M → R) → View M → R → View M → Type 0
  Shows value_of v reading w = (log : List (Entry M)) × Sees v log × (reading ≡ value_of (calls log)) × (w ≡ looked v log)

  -- n is, modulo 2 ^ 64, how many calls were counted of a history that begins with all that the pass had seen; the pass has then seen that history.
  -- The root finds all of its calls counted, but for one at most of each pass that is out
  abbrev pub CountsCalls : View M → ℕ → View M → Type 0
  CountsCalls v n w =
      (count : ℕ) × (n ≡ count % 2 ^ 64)
      × ((log : List (Entry M)) × Sees v log × (count ≤ length log) × (v.number ≡ 0 → length log ≤ count + v.out) × (w ≡ looked v log))
