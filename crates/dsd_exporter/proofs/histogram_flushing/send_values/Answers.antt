use Rattle.std.specs.Option.{option_copied}
use Rattle.dsd_exporter.proofs.Sent.{samples_sent}
use Rattle.dsd_exporter.proofs.histogram_flushing.send_values.Goals as goal

pub returns-clause-sent : goal.returns-clause-sent
returns-clause-sent c updates =
    samples_sent c.args.distributions (option_copied c.args.prefix) c.args.key.now c.args.rate c.args.values.now c.args.writer.now c.write_values.new.writer c.args.telemetry.now c.count_samples.new.self c.in_ok-written.written c.saturating_sub-kept.result updates
    c.write_values.ensures.settings c.in_ok-written.ensures.lines c.in_ok-written.ensures.written (rw (← c.points_dropped-left_out.ensures.left_out) c.saturating_sub-kept.ensures) (rw (← c.points_dropped-left_out.ensures.left_out) c.count_samples.ensures)
