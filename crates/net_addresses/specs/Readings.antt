-- What it means to read a value from a text that a grammar relates to it.
use Rattle.std.specs.Prelude.{◌≡◌, ◌≢◌, ℕ, List, All, Option, MatchOption}

-- the value is one that the text writes, and there is none only where the text writes none
abbrev pub Reads : {A : Type 0} → (List ℕ → A → Type 0) → List ℕ → Option A → Type 0
Reads {A} Writes text found = MatchOption found ((value : A) → ¬ (Writes text value)) (Writes text)

-- no text writes two values
abbrev pub HasOneReading : {A : Type 0} → (List ℕ → A → Type 0) → Type 0
HasOneReading {A} Writes = (text : List ℕ) (one other : A) → Writes text one → Writes text other → one ≡ other

-- a character, as one byte, stands nowhere in a text
abbrev pub Lacks : ℕ → List ℕ → Type 0
Lacks mark text = All (λ c. c ≢ mark) text
