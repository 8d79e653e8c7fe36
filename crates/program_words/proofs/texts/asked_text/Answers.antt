use Rattle.program_words.proofs.Asking.{asked_by_word}
use Rattle.program_words.proofs.texts.asked_text.Goals as goal

pub returns-in-len1 : goal.returns-in-len1
returns-in-len1 c = asked_by_word c.args.words.now _ c.text_of.result c.in-len1.len_at_least c.in-len1.len_below c.text_of.ensures
