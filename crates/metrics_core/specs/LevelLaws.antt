-- A level is found by its words, and by no others.
use Rattle.std.proofs.Common.{◌≡◌, ℕ, List, [], ◌∷◌, refl, sym, ap, ◌∙◌, Bool, true, false, cond, ◌⊎◌, inl, inr}
use Rattle.std.specs.Prelude.{bytes_eq, ◌||◌, find, Option, Some, IfSome}
use Rattle.std.proofs.lemmas.Slice.Eq.{bytes_eq-Decides}
use Rattle.metrics_core.specs.declared.levels.Level.{Level as LevelOf}
use Rattle.metrics_core.specs.declared.levels.Level.TheVariants.{Trace, Debug, Info, Warn, Error}
use Rattle.metrics_core.specs.Levels.{lower_word, upper_word, has_word, IsWordOf}

-- the level of a word
abbrev pub level_of : List ℕ → Option LevelOf
level_of word = find (has_word word) (Trace ∷ Debug ∷ Info ∷ Warn ∷ Error ∷ [])

by_lower : (level : LevelOf) → level_of (lower_word level) ≡ Some level
by_lower Trace = refl
by_lower Debug = refl
by_lower Info = refl
by_lower Warn = refl
by_lower Error = refl

by_upper : (level : LevelOf) → level_of (upper_word level) ≡ Some level
by_upper Trace = refl
by_upper Debug = refl
by_upper Info = refl
by_upper Warn = refl
by_upper Error = refl

pub level_of-word : (level : LevelOf) (word : List ℕ) → IsWordOf level word → level_of word ≡ Some level
level_of-word level word (inl e) = ap level_of e ∙ by_lower level
level_of-word level word (inr e) = ap level_of e ∙ by_upper level

one_of : (a b : Bool) → (a || b) ≡ true → (a ≡ true) ⊎ (b ≡ true)
one_of true b h = inl refl
one_of false b h = inr h

word_of : (level : LevelOf) (word : List ℕ) → (bytes_eq (lower_word level) word ≡ true) ⊎ (bytes_eq (upper_word level) word ≡ true) → IsWordOf level word
word_of level word (inl h) = inl (sym ((bytes_eq-Decides (lower_word level) word).0 h))
word_of level word (inr h) = inr (sym ((bytes_eq-Decides (upper_word level) word).0 h))

found : (word : List ℕ) (among : List LevelOf) → IfSome (find (has_word word) among) (λ level. IsWordOf level word)
found word [] = tt
found word (level ∷ others) =
    (elim (has_word word level) as (λ b. has_word word level ≡ b → IfSome (cond b (Some level) (find (has_word word) others)) (λ l. IsWordOf l word)) [
      | true ↦ λ has. word_of level word (one_of (bytes_eq (lower_word level) word) (bytes_eq (upper_word level) word) has)
      | false ↦ λ has_not. found word others
    ]) refl

pub word-level_of : (word : List ℕ) → IfSome (level_of word) (λ level. IsWordOf level word)
word-level_of word = found word (Trace ∷ Debug ∷ Info ∷ Warn ∷ Error ∷ [])
