use Rattle.std.proofs.Common.{ℕ, subst, sym}
use Rattle.metrics_core.specs.Characters.{line}
use Rattle.drive_script.specs.Faults.{fault_text}
use Rattle.program_words.specs.Answers.{report_text}
use Rattle.program_words.specs.BenchSaid.{done}
use Rattle.program_words.specs.Devices.{SinkRun, sink_run}
use Rattle.program_words.specs.Ends.{IsBenchEnd}
use Rattle.program_words.proofs.BenchEnds.{benched_ends, cut_ends, cut_line}
use Rattle.program_words.proofs.running.run_bench.Goals as goal

pub returns-in-Ok : goal.returns-in-Ok
returns-in-Ok g c =
    let out : SinkRun = sink_run g.K.Sink.written g.K.Sink.faults c.args.out.now c.bench.new.out in
    let err : SinkRun = sink_run g.E.Sink.written g.E.Sink.faults c.args.err.now c.say_report.new.err in
    record {
      ends = benched_ends c.args.rounds out err c.in-Ok.ensures.written
          (record { text = line (report_text c.in-Ok.report); meant = done c.in-Ok.report c.in-Ok.ensures.reported; written = c.say_report.ensures.said });
    }

pub returns-in-Err : goal.returns-in-Err
returns-in-Err g c =
    let out : SinkRun = sink_run g.K.Sink.written g.K.Sink.faults c.args.out.now c.bench.new.out in
    let err : SinkRun = sink_run g.E.Sink.written g.E.Sink.faults c.args.err.now c.say_fault.new.err in
    let fault = c.in-Err.fault in
    let P : ℕ → Type 0 = λ status. IsBenchEnd c.args.rounds out err status in
    record {
      ends = subst P (sym c.status_of.ensures)
          (cut_ends c.args.rounds out err fault c.in-Err.ensures.cause c.in-Err.ensures.prefix
          (record { text = line (fault_text fault); meant = cut_line c.args.rounds _ fault c.in-Err.ensures.cause; written = c.say_fault.ensures.said }));
    }
