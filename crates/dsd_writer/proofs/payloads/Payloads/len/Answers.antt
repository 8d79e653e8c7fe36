use Rattle.std.proofs.Common.{arith}
use Rattle.std.proofs.lemmas.List.{length-drop}
use Rattle.dsd_writer.specs.Packing.{pieces_at}
use Rattle.dsd_writer.proofs.Pieces.{length-pieces_at}
use Rattle.dsd_writer.proofs.payloads.Payloads.len.Goals as goal

pub returns : goal.returns
returns c =
    let payloads = c.args.self.now in
    let starts = payloads.buffer.now.starts.items in
    let bytes = payloads.buffer.now.bytes.items in
    omega (arith, length-drop payloads.next (pieces_at starts bytes), length-pieces_at starts bytes)
