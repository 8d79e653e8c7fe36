use Rattle.program_words.proofs.WordSteps.{alone, with_address}
use Rattle.program_words.proofs.agent.drive_address.Goals as goal

pub returns-in-empty : goal.returns-in-empty
returns-in-empty c = alone c.args.words.now _ c.ne.result _ c.in-len1-up.len_at_least c.ne.ensures c.if-ne.false c.in-empty.len_below c.default_agent.ensures

pub returns-in-len1 : goal.returns-in-len1
returns-in-len1 c = with_address c.args.words.now _ _ c.ne.result c.served_address.result c.in-len1-up.len_at_least c.ne.ensures c.if-ne.false c.in-len1.len_at_least c.in-len1.len_below c.served_address.ensures
