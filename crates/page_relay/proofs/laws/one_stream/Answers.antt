use Rattle.page_relay.proofs.OneStream.{stream_told}
use Rattle.page_relay.proofs.laws.one_stream.Goals as goal

pub returns : goal.returns
returns c = stream_told
