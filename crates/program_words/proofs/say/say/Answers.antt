use Rattle.std.proofs.Common.{◌+◌, drop, flat_map, inr, ap, subst, arith}
use Rattle.std.proofs.lemmas.List.{drop_more}
use Rattle.metrics_core.specs.Outside.{GrewUpTo}
use Rattle.metrics_core.proofs.Grown.{grew_up_to-prefix}
use Rattle.program_words.proofs.say.say.Goals as goal

pub returns-in-Err : goal.returns-in-Err
returns-in-Err g c =
    let before = g.E.Sink.written c.args.err.now in
    let middle = g.E.Sink.written c.loop-piece.err in
    let whole = flat_map (λ piece. piece.now) c.args.pieces.now in
    let rest = flat_map (λ piece. piece.now) (drop (c.loop-piece.piece-index + 1) c.args.pieces.now) in
    let left = ap (λ pieces. flat_map (λ piece. piece.now) pieces) (drop_more c.args.pieces.now c.loop-piece.piece-index _ c.loop-piece-test.true) in
    record {
      said = inr (
        omega (arith, c.in-Err.ensures.cause, c.loop-piece.invariant.never_falls),
        grew_up_to-prefix before middle _ whole _ rest (subst (GrewUpTo before middle whole) left c.loop-piece.invariant.grew) c.in-Err.ensures.prefix,
      );
    }
