use Rattle.net_addresses.proofs.Splits.{split_at_first}
use Rattle.net_addresses.proofs.parts.parts_round.Goals as goal

pub returns : goal.returns
returns c = split_at_first c.args.mark c.args.text.now c.split_once.result c.split_once.ensures.cases c.requires
