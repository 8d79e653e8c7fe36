-- Where in a history the calls of some passes stand.
use Rattle.std.specs.Prelude.{ℕ, ◌+◌, ◌<◌, ◌≤◌, ◌==◌, Bool, true, false, List, [], ◌∷◌}
use Rattle.legal_history.specs.declared.history.Entry.{Entry}
use Rattle.legal_history.specs.declared.history.View.{View}
use Rattle.legal_history.specs.History.{numbers}

-- one test or the other holds
abbrev pub or_if : Bool → Bool → Bool
or_if true b = true
or_if false b = b

-- whether the number stands in the list
abbrev pub has : ℕ → List ℕ → Bool
has t [] = false
has t (x ∷ xs) = or_if (x == t) (has t xs)

-- the place goes in front where the test holds
abbrev pub place_if : Bool → ℕ → List ℕ → List ℕ
place_if true k ks = k ∷ ks
place_if false k ks = ks

module _ {C : Type 0} where
  -- the positions of the calls of the passes with these numbers, from position k on
  abbrev pub places_from : List ℕ → ℕ → List (Entry C) → List ℕ
  places_from ns k [] = []
  places_from ns k (e ∷ es) = place_if (has e.by ns) k (places_from ns (k + 1) es)

  -- the places of a pass: its own calls, and those of the passes that it took back
  abbrev pub places : View C → List ℕ
  places v = places_from (v.number ∷ numbers v.joined) 0 v.seen

-- the n numbers from k on
abbrev pub run_of : {A : Type 0} → ℕ → List A → List ℕ
run_of k [] = []
run_of k (x ∷ xs) = k ∷ run_of (k + 1) xs

-- the numbers ascend, each at least k and below n
abbrev pub Ascend : ℕ → ℕ → List ℕ → Type 0
Ascend k n [] = Unit {0}
Ascend k n (p ∷ ps) = (k ≤ p) × (p < n) × Ascend (p + 1) n ps
