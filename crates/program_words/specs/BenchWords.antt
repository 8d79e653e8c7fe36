-- The words of the command `bench` (this project's rule).
use Rattle.std.specs.Prelude.{◌≡◌, ℕ, ◌≤◌, List, [], ◌∷◌, Option, Some, None, codes, decimal}

-- a decimal number from 1 to 10000, without zeros or a sign in front
abbrev pub IsRounds : List ℕ → ℕ → Type 0
IsRounds text count = (1 ≤ count) × (count ≤ 10000) × (text ≡ decimal count)

-- the words: the command, then the number of rounds
abbrev pub AreBenchWords : List (List ℕ) → ℕ → Type 0
AreBenchWords words count = (number : List ℕ) × (words ≡ codes "bench" ∷ number ∷ []) × IsRounds number count

-- the words are those of the command `bench`, with this number of rounds and no other; or they are none of it
abbrev pub HasBenchWords : List (List ℕ) → Option ℕ → Type 0
HasBenchWords words None = (count : ℕ) → ¬ (AreBenchWords words count)
HasBenchWords words (Some count) = AreBenchWords words count × ((other : ℕ) → AreBenchWords words other → other ≡ count)
