use Rattle.dsd_addresses.proofs.Schemes.{scheme_split}
use Rattle.dsd_addresses.proofs.remote_addr.scheme_of.Goals as goal

pub returns : goal.returns
returns c = scheme_split c.args.text.now c.split_once.result c.split_once.ensures.cases
