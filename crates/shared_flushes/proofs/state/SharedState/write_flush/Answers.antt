use Rattle.std.proofs.Common.{subst}
use Rattle.dsd_exporter.specs.Exporter.{Exporter}
use Rattle.dsd_exporter.specs.Flushing.{Found, Flushes}
use Rattle.dsd_exporter.specs.Sending.{WritesFlush}
use Rattle.shared_flushes.proofs.Bare.{flush_leaves}
use Rattle.shared_flushes.proofs.Standing.{no_call, during}
use Rattle.shared_flushes.proofs.state.SharedState.write_flush.Goals as goal

pub leave-requires-clause-value : goal.leave-requires-clause-value
leave-requires-clause-value g c =
    let now = c.write_flush.new in
    let writes = subst (λ (x : Exporter). WritesFlush c.args.moment x now.state c.args.flush_state.now now.flush_state c.args.writer.now now.writer c.args.telemetry.now now.telemetry (g.W.Words.to_come c.args.words.now) (g.W.Words.to_come now.words) c.in-Ok.left_out)
    c.deref_mut.ensures.value c.in-Ok.ensures.written in
    no_call c.args.pass.now.seat.me c.enter-state.new.seat.me c.enter-state.result now.state c.enter-state.ensures.entered (flush_leaves writes.flushes)

pub returns-in-Ok-clause-written : goal.returns-in-Ok-clause-written
returns-in-Ok-clause-written g c =
    let now = c.write_flush.new in
    let writes = subst (λ (x : Exporter). WritesFlush c.args.moment x now.state c.args.flush_state.now now.flush_state c.args.writer.now now.writer c.args.telemetry.now now.telemetry (g.W.Words.to_come c.args.words.now) (g.W.Words.to_come now.words) c.in-Ok.left_out)
    c.deref_mut.ensures.value c.in-Ok.ensures.written in
    during (λ x y. WritesFlush c.args.moment x y c.args.flush_state.now now.flush_state c.args.writer.now now.writer c.args.telemetry.now now.telemetry (g.W.Words.to_come c.args.words.now) (g.W.Words.to_come now.words) c.in-Ok.left_out)
    c.args.pass.now.seat.me c.enter-state.new.seat.me c.leave.new.seat.me c.enter-state.result now.state c.enter-state.ensures.entered (flush_leaves writes.flushes) c.leave.ensures.left writes

pub leave-requires-in-Err-clause-value : goal.leave-requires-in-Err-clause-value
leave-requires-in-Err-clause-value g c =
    let now = c.write_flush.new in
    let flushes = subst (λ (x : Exporter). (found : Found) × Flushes c.args.moment found x now.state c.args.flush_state.now now.flush_state c.args.writer.now now.writer c.args.telemetry.now now.telemetry (g.W.Words.to_come c.args.words.now) (g.W.Words.to_come now.words))
    c.deref_mut.ensures.value c.in-Err.ensures.refused in
    no_call c.args.pass.now.seat.me c.enter-state.new.seat.me c.enter-state.result now.state c.enter-state.ensures.entered (flush_leaves flushes.1)

pub returns-in-Err-clause-refused : goal.returns-in-Err-clause-refused
returns-in-Err-clause-refused g c =
    let now = c.write_flush.new in
    let flushes = subst (λ (x : Exporter). (found : Found) × Flushes c.args.moment found x now.state c.args.flush_state.now now.flush_state c.args.writer.now now.writer c.args.telemetry.now now.telemetry (g.W.Words.to_come c.args.words.now) (g.W.Words.to_come now.words))
    c.deref_mut.ensures.value c.in-Err.ensures.refused in
    during (λ x y. (found : Found) × Flushes c.args.moment found x y c.args.flush_state.now now.flush_state c.args.writer.now now.writer c.args.telemetry.now now.telemetry (g.W.Words.to_come c.args.words.now) (g.W.Words.to_come now.words))
    c.args.pass.now.seat.me c.enter-state.new.seat.me c.leave-in-Err.new.seat.me c.enter-state.result now.state c.enter-state.ensures.entered (flush_leaves flushes.1) c.leave-in-Err.ensures.left flushes
