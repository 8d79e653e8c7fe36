-- Orders of a round: which lane's next call comes next.
use Rattle.std.specs.Prelude.{◌≡◌, ℕ, ◌+◌, ◌==◌, Bool, true, false, List, [], ◌∷◌, ◌++◌, length}
use Rattle.legal_history.specs.declared.history.Entry.{Entry}
use Rattle.legal_history.specs.History.{calls}

-- 1 where the test holds, else 0
abbrev pub flag : Bool → ℕ
flag true = 1
flag false = 0

-- how often l stands in the list
abbrev pub times : ℕ → List ℕ → ℕ
times l [] = 0
times l (x ∷ xs) = flag (x == l) + times l xs

module _ {C : Type 0} where
  abbrev pub first_of : List C → List C
  first_of [] = []
  first_of (c ∷ cs) = c ∷ []

  abbrev pub rest_of : List C → List C
  rest_of [] = []
  rest_of (c ∷ cs) = cs

  abbrev pub rest_if : Bool → List C → List C
  rest_if true cs = rest_of cs
  rest_if false cs = cs

  -- the lists of all lanes, without the first call of lane l
  abbrev pub without_first : ℕ → (ℕ → List C) → ℕ → List C
  without_first l lists k = rest_if (k == l) (lists k)

  -- the calls got by taking, at each number, the next call of that lane
  abbrev pub taken : List ℕ → (ℕ → List C) → List C
  taken [] lists = []
  taken (l ∷ ls) lists = first_of (lists l) ++ taken ls (without_first l lists)

  -- each lane stands in the order as often as its list has calls
  abbrev pub IsOrder : List ℕ → (ℕ → List C) → Type 0
  IsOrder order lists = (l : ℕ) → times l order ≡ length (lists l)

  -- the history grew by the calls of all lanes, each lane's in its order
  abbrev pub GrewInOrder : (ℕ → List C) → List (Entry C) → List (Entry C) → Type 0
  GrewInOrder lists before now = (order : List ℕ) × IsOrder order lists × (calls now ≡ calls before ++ taken order lists)
