use Rattle.net_addresses.proofs.Texts.{network_unique}
use Rattle.net_addresses.proofs.networks.network_texts_have_one_reading.Goals as goal

pub returns : goal.returns
returns c = network_unique
