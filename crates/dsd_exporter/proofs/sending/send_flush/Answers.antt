use Rattle.std.proofs.Common.{sym, subst}
use Rattle.dsd_exporter.specs.Sending.{WritesFlush}
use Rattle.dsd_exporter.proofs.sending.send_flush.Goals as goal

pub returns-clause-sent : goal.returns-clause-sent
returns-clause-sent g c = record {
  written = c.write_flush.new.writer;
  flushed = c.write_flush.new.telemetry;
  writes = subst (WritesFlush _ _ _ _ _ _ _ _ _ _ _) (sym c.send_written.ensures.dropped) c.in_ok-dropped.ensures.written;
  sends = c.send_written.ensures.sent;
}
