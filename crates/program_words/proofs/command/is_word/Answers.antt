use Rattle.program_words.proofs.WordSteps.{one_word}
use Rattle.program_words.proofs.command.is_word.Goals as goal

pub returns-in-len1 : goal.returns-in-len1
returns-in-len1 c = one_word c.args.words.now _ _ _ c.in-len1.len_at_least c.in-len1.len_below c.eq.ensures
