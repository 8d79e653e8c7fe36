-- Words that are drawn from a source, and a linear congruential generator (this project's rule).
use Rattle.std.specs.Prelude.{◌≡◌, ℕ, zero, suc, ◌+◌, ◌*◌, List, [], ◌∷◌, Option, Some, IfSome}
use Rattle.metrics_core.specs.Numbers.{in_64_bits}

-- a word is drawn: where the words to come are told, it is the first of them, and the others are still to come
abbrev pub DrawsOne : Option (ℕ → ℕ) → ℕ → Option (ℕ → ℕ) → Type 0
DrawsOne before word after = IfSome before (λ words. (word ≡ words 0) × (after ≡ Some (λ k. words (suc k))))

-- words are drawn one after another
abbrev pub Draws : Option (ℕ → ℕ) → List ℕ → Option (ℕ → ℕ) → Type 0
Draws before [] after = after ≡ before
Draws before (word ∷ words) after = (between : Option (ℕ → ℕ)) × DrawsOne before word between × Draws between words after

-- the word behind a word of the generator
abbrev pub lcg_step : ℕ → ℕ
lcg_step word = in_64_bits (6364136223846793005 * word + 1442695040888963407)

-- the words behind a word, from 0
abbrev pub lcg_words : ℕ → ℕ → ℕ
lcg_words word zero = lcg_step word
lcg_words word (suc k) = lcg_words (lcg_step word) k
