use Rattle.net_addresses.proofs.Texts.{socket_unique}
use Rattle.net_addresses.proofs.sockets.socket_texts_have_one_reading.Goals as goal

pub returns : goal.returns
returns c = socket_unique
