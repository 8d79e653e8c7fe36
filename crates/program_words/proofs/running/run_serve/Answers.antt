use Rattle.std.proofs.Common.{ℕ, subst, sym}
use Rattle.std.specs.Prelude.{IfSome, Result}
use Rattle.metrics_core.specs.Characters.{line}
use Rattle.metrics_core.specs.Outside.{Rose}
use Rattle.prom_serve.specs.declared.serving.Served.{Served}
use Rattle.program_words.specs.Answers.{LeavesSource}
use Rattle.program_words.specs.Devices.{ListenerRun, SinkRun, SourceRun, listener_run, sink_run, source_run}
use Rattle.program_words.specs.Ends.{IsServeEnd}
use Rattle.program_words.specs.Serving.{IsServeComplete, done, serve_end_status, serve_fault_text, served_text}
use Rattle.program_words.specs.declared.serving.ServeScriptFault.{ServeScriptFault}
use Rattle.program_words.proofs.ServeEnds.{served_ends, unserved_ends, unserved_line}
use Rattle.program_words.proofs.running.run_serve.Goals as goal

pub returns-in-Ok-clause-ends : goal.returns-in-Ok-clause-ends
returns-in-Ok-clause-ends g c =
    let source : SourceRun = source_run g.S.Source.left g.S.Source.faults c.args.source.now c.serve_script.new.source in
    let err : SinkRun = sink_run g.E.Sink.written g.E.Sink.faults c.args.err.now c.say_served.new.err in
    let listener : ListenerRun = listener_run g.N.Listener.given g.N.Listener.finished g.N.Listener.lost g.N.Listener.faults c.args.listener.now c.serve_script.new.listener in
    let Left : Result Served ServeScriptFault → Type 0 = λ r. IfSome source.left (λ bytes. LeavesSource bytes source.left' (serve_end_status r)) in
    let Whole : Result Served ServeScriptFault → Type 0 = λ r. IfSome source.left
    (λ bytes. IsServeComplete bytes (Rose source.faults source.faults') (Rose listener.faults listener.faults') (serve_end_status r)) in
    served_ends c.args.count c.args.networks.now source err listener c.in-Ok.ensures.served c.in-Ok.ensures.counted.accepted (subst Left c.in-Ok.is c.serve_script.ensures.left)
    (subst Whole c.in-Ok.is c.serve_script.ensures.complete)
    (record { text = line (served_text c.in-Ok.served); meant = done c.in-Ok.served c.in-Ok.ensures.counted.counted.total c.in-Ok.ensures.counted.counted.lost; written = c.say_served.ensures.said })

pub returns-in-Err-clause-ends : goal.returns-in-Err-clause-ends
returns-in-Err-clause-ends g c =
    let source : SourceRun = source_run g.S.Source.left g.S.Source.faults c.args.source.now c.serve_script.new.source in
    let err : SinkRun = sink_run g.E.Sink.written g.E.Sink.faults c.args.err.now c.say_serve_fault.new.err in
    let listener : ListenerRun = listener_run g.N.Listener.given g.N.Listener.finished g.N.Listener.lost g.N.Listener.faults c.args.listener.now c.serve_script.new.listener in
    let fault = c.in-Err.fault in
    let Left : Result Served ServeScriptFault → Type 0 = λ r. IfSome source.left (λ bytes. LeavesSource bytes source.left' (serve_end_status r)) in
    let Whole : Result Served ServeScriptFault → Type 0 = λ r. IfSome source.left
    (λ bytes. IsServeComplete bytes (Rose source.faults source.faults') (Rose listener.faults listener.faults') (serve_end_status r)) in
    let P : ℕ → Type 0 = λ status. IsServeEnd c.args.count c.args.networks.now source err listener status in
    subst P (sym c.serve_status_of.ensures)
    (unserved_ends c.args.count c.args.networks.now source err listener fault c.in-Err.ensures.cause c.in-Err.ensures.leaves.in_part
    (subst Left c.in-Err.is c.serve_script.ensures.left) (subst Whole c.in-Err.is c.serve_script.ensures.complete)
    (record {
      text = line (serve_fault_text fault);
      meant = unserved_line c.args.count source.left listener.lost listener.lost' _ _ fault c.in-Err.ensures.cause;
      written = c.say_serve_fault.ensures.said;
    }))
