use Rattle.bench_scripts.proofs.Draws.{drawn_value, one_drawn}
use Rattle.bench_scripts.proofs.calls.next_draw.Goals as goal

pub returns-clause-value : goal.returns-clause-value
returns-clause-value c n drawn = drawn_value c.args.words.now n c.next_word.result drawn c.next_word.ensures.0

pub returns-clause-words : goal.returns-clause-words
returns-clause-words c n drawn = one_drawn c.args.words.now c.next_word.new.self n drawn c.next_word.ensures.1
