use Rattle.prom_exporter.specs.Exporter.{state_of}
use Rattle.flush_delivery.proofs.Applying.{delivered, err_then, ok_then, undelivered}
use Rattle.flush_delivery.proofs.delivery.deliver.Goals as goal

pub returns-in-Ok-clause-delivered : goal.returns-in-Ok-clause-delivered
returns-in-Ok-clause-delivered g c =
    ok_then _ _ c.apply_written.result c.apply_written.ensures.applied
    (delivered c.args.moment c.args.from.now c.flush.new.self c.args.flush_state.now c.flush.new.flush_state c.args.writer.now c.apply_written.new.writer c.args.telemetry.now c.flush.new.telemetry
    (g.W.Words.to_come c.args.words.now) (g.W.Words.to_come c.flush.new.words) (state_of c.args.to.now) (state_of c.apply_written.new.to)
    c.flush.new.writer c.in-Ok.ensures.flushed.0 c.ranges.moment.fits c.requires.plain c.in-Ok.ensures.flushed.1 c.in-Ok.ensures.flushed.2 c.in-Ok.ensures.home c.apply_written.ensures.emptied)

pub returns-in-Ok-clause-refused : goal.returns-in-Ok-clause-refused
returns-in-Ok-clause-refused g c =
    err_then _ _ c.apply_written.result c.apply_written.ensures.refused
    (undelivered c.args.moment c.args.from.now c.flush.new.self c.args.flush_state.now c.flush.new.flush_state c.args.writer.now c.apply_written.new.writer c.args.telemetry.now c.flush.new.telemetry
    (g.W.Words.to_come c.args.words.now) (g.W.Words.to_come c.flush.new.words) (state_of c.args.to.now) (state_of c.apply_written.new.to)
    c.flush.new.writer c.in-Ok.ensures.flushed.0 c.in-Ok.ensures.flushed.1 c.in-Ok.ensures.flushed.2 c.apply_written.ensures.emptied)
