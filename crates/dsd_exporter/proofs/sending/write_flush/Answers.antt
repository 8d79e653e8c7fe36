use Rattle.std.proofs.Common.{◌+◌, ◌<◌, ◌^◌, arith, sym, ap, ◌∙◌}
use Rattle.metrics_core.specs.Numbers.{in_64_bits}
use Rattle.dsd_exporter.specs.State.{left_out_of_items}
use Rattle.dsd_exporter.proofs.LeftOut.{left_out_counted}
use Rattle.dsd_exporter.proofs.sending.write_flush.Goals as goal

pub returns-clause-written : goal.returns-clause-written
returns-clause-written g c =
    let flushed = c.in_ok-flush.ensures.flushed in
    let before = c.points_left_out-before.ensures in
    let few : c.args.telemetry.now.points_left_out < 2 ^ 64 = omega (arith, before) in
    record {
      found = flushed.0;
      flushes = flushed.1;
      whole = flushed.2;
      home = c.in_ok-flush.ensures.home;
      dropped = λ items sends.
          (let counted = left_out_counted items c.args.writer.now c.flush.new.writer c.args.telemetry.now c.flush.new.telemetry few sends in
          c.grown.ensures (left_out_of_items c.args.writer.now.limit items)
          (c.points_left_out.ensures ∙ counted ∙ ap (λ n. in_64_bits (n + left_out_of_items c.args.writer.now.limit items)) (sym before)));
    }
