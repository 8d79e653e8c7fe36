use Rattle.program_words.proofs.CommandSteps.{words_bench}
use Rattle.program_words.proofs.bench_words.bench_words.Goals as goal

pub returns : goal.returns
returns c = words_bench c.args.words.now _ _ c.ne.result c.read_rounds.result c.in-len2.len_at_least c.in-len2.len_below c.ne.ensures c.if-ne.false c.read_rounds.ensures
