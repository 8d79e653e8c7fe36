use Rattle.dsd_addresses.proofs.Schemes.{remote_unique}
use Rattle.dsd_addresses.proofs.remote_addr.remote_texts_have_one_reading.Goals as goal

pub returns : goal.returns
returns c = remote_unique
