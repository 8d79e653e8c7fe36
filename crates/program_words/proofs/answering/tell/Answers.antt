use Rattle.std.proofs.Common.{refl, subst}
use Rattle.metrics_core.specs.Outside.{GrewBy, GrewByPrefix}
use Rattle.program_words.specs.Devices.{SinkRun, sink_run}
use Rattle.program_words.proofs.Asking.{told_in_part, told_whole}
use Rattle.program_words.proofs.answering.tell.Goals as goal

pub returns-in-Ok : goal.returns-in-Ok
returns-in-Ok g c =
    let out : SinkRun = sink_run g.K.Sink.written g.K.Sink.faults c.args.out.now c.write_whole.new.sink in
    let err : SinkRun = sink_run g.E.Sink.written g.E.Sink.faults c.args.err.now c.args.err.now in
    told_whole c.args.text.now out err (subst (λ t. GrewBy out.written out.written' t) c.as_bytes.ensures.value c.in-Ok.ensures.whole) refl

pub returns-in-Err : goal.returns-in-Err
returns-in-Err g c =
    let out : SinkRun = sink_run g.K.Sink.written g.K.Sink.faults c.args.out.now c.write_whole.new.sink in
    let err : SinkRun = sink_run g.E.Sink.written g.E.Sink.faults c.args.err.now c.say_fault.new.err in
    told_in_part c.args.text.now out err c.in-Err.ensures.cause
    (subst (λ t. GrewByPrefix out.written out.written' t) c.as_bytes.ensures.value c.in-Err.ensures.prefix) c.say_fault.ensures.said
