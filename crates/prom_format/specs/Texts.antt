-- What a call that appends to a text leaves of it.
use Rattle.std.specs.Prelude.{◌≡◌, ℕ, List, length, take}

-- what was there still begins the text
abbrev pub Begins : List ℕ → List ℕ → Type 0
Begins old new = take (length old) new ≡ old
