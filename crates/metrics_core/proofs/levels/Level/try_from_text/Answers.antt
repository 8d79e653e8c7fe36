use Rattle.std.proofs.Common.{sym, ◌∙◌, subst}
use Rattle.std.specs.Prelude.{IfSome}
use Rattle.metrics_core.specs.Levels.{IsWordOf}
use Rattle.metrics_core.specs.LevelLaws.{word-level_of}
use Rattle.metrics_core.proofs.levels.Level.try_from_text.Goals as goal

-- the level that was found has the word, and the word is the trimmed text
pub returns-in-Some-clause-others : goal.returns-in-Some-clause-others
returns-in-Some-clause-others c =
    let word = c.trim-word.result.now in
    let has : IsWordOf c.in-Some.level word = subst (λ found. IfSome found (λ level. IsWordOf level word)) (sym c.level_among.ensures ∙ c.in-Some.is) (word-level_of word) in
    subst (λ text. IsWordOf c.in-Some.level text) c.trim-word.ensures.trim has
