use Rattle.std.proofs.NetLemmas.Theorems.{IsIpText_unique}
use Rattle.net_addresses.proofs.ips.ip_texts_have_one_reading.Goals as goal

pub returns : goal.returns
returns c = IsIpText_unique
