use Rattle.std.proofs.Common.{◌+◌, ℕ, List, ◌∷◌, length, drop, take, get_or, sym, ap, ◌∙◌, arith}
use Rattle.std.proofs.lemmas.List.{drop_all}
use Rattle.dsd_writer.specs.Packing.{pieces_at}
use Rattle.dsd_writer.proofs.Pieces.{EndsAt, length-pieces_at, piece_apart}
use Rattle.dsd_writer.proofs.payloads.Payloads.next_payload.Goals as goal

pub returns-then-self-starts-clause-next : goal.returns-then-self-starts-clause-next
returns-then-self-starts-clause-next c =
    let starts = c.args.self.now.buffer.now.starts.items in
    let bytes = c.args.self.now.buffer.now.bytes.items in
    drop_all c.args.self.now.next (pieces_at starts bytes) (omega (arith, length-pieces_at starts bytes, c.if-self-starts.true, ap length c.as_slice-starts.ensures.value))

pub returns-then-self-starts-clause-none : goal.returns-then-self-starts-clause-none
returns-then-self-starts-clause-none c =
    let starts = c.args.self.now.buffer.now.starts.items in
    let bytes = c.args.self.now.buffer.now.bytes.items in
    drop_all c.args.self.now.next (pieces_at starts bytes) (omega (arith, length-pieces_at starts bytes, c.if-self-starts.true, ap length c.as_slice-starts.ensures.value))

pub returns-clause-next : goal.returns-clause-next
returns-clause-next c =
    let starts = c.args.self.now.buffer.now.starts.items in
    let bytes = c.args.self.now.buffer.now.bytes.items in
    let next = c.args.self.now.next in
    let starts_are = c.as_slice-starts.ensures.value in
    let bytes_are = c.as_slice-bytes.ensures.value in
    let ends : EndsAt starts next (length bytes) c.end_of-end.result = record {
      low = omega (arith, c.if-self-starts.false, ap length starts_are);
      next = λ more. c.end_of-end.ensures.next (omega (arith, more, ap length starts_are)) ∙ ap (λ (s : List ℕ). get_or s (next + 1) 0) starts_are;
      last = λ none. c.end_of-end.ensures.last (omega (arith, none, ap length starts_are)) ∙ omega (arith, ap length bytes_are);
    } in
    piece_apart starts bytes next c.end_of-end.result ends
    ∙ ap (λ piece. piece ∷ drop (next + 1) (pieces_at starts bytes))
    ((λ j. drop (get_or (sym starts_are j) next 0) (take c.end_of-end.result (sym bytes_are j))) ∙ sym c.between.ensures)
