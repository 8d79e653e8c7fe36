use Rattle.std.proofs.Common.{Bool, sym, ap, ◌∙◌}
use Rattle.dsd_writer.specs.Packing.{framed_payloads, payloads_at, pieces_at}
use Rattle.dsd_writer.proofs.Pieces.{framed_bare}
use Rattle.dsd_writer.proofs.packing.seal.Goals as goal

pub returns-else-on_stream-clause-pieces : goal.returns-else-on_stream-clause-pieces
returns-else-on_stream-clause-pieces c =
    let bytes = c.args.bytes.now.items in
    let starts = c.args.starts.now in
    framed_bare (pieces_at starts bytes) ∙ ap (λ (b : Bool). framed_payloads b (payloads_at b starts bytes)) (sym c.if-on_stream.false)
