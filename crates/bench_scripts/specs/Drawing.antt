-- How far a generator has come in the draws of a script.
use Rattle.std.specs.Prelude.{◌≡◌, ℕ, ◌+◌}
use Rattle.metrics_core.specs.Words.{lcg_words}
use Rattle.metrics_core.specs.declared.words.Lcg.{Lcg}

-- so many words of the generator that starts at 0 are drawn: those to come are the ones behind them
abbrev pub HasDrawn : ℕ → Lcg → Type 0
HasDrawn n words = (k : ℕ) → lcg_words words.word k ≡ lcg_words 0 (n + k)
