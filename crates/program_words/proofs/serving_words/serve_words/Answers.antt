use Rattle.program_words.proofs.ServingWords.{words_ask}
use Rattle.program_words.proofs.serving_words.serve_words.Goals as goal

pub returns-in-Some-2 : goal.returns-in-Some-2
returns-in-Some-2 c =
    let are = rw c.in-Some-2.is at c.in_ok-networks.ensures in
    words_ask c.args.words.now _ c.in-Some.count c.in-Some-2.networks.items c.in-len2-up.len_at_least c.if-ne.ensures c.in-Some.ensures are
