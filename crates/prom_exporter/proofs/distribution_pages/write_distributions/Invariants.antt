use Rattle.std.proofs.Common.{◌≤◌, List, map}
use Rattle.std.specs.Prelude.{string_bytes}
use Rattle.std.specs.Map.Iter.{deref_pair}
use Rattle.metrics_core.specs.Keys.{LabelText}
use Rattle.prom_exporter.specs.Rows.{family_kept}
use Rattle.prom_exporter.specs.SampledRows.{sampled_block, HasRowsOf}
use Rattle.prom_exporter.specs.Sending.{SendsMore}
use Rattle.prom_exporter.proofs.Written.{blocks}
use Rattle.prom_exporter.proofs.distribution_pages.write_distributions.Given as goal

-- the blocks so far were sent or wait
abbrev pub invariant-loop-name : goal.invariant-loop-name
invariant-loop-name g l = record {
  sent : (globals : List LabelText) → HasRowsOf globals l.series l.rows
      → SendsMore (g.K.Sink.written l.initial.sink) (g.K.Sink.written l.sink) (string_bytes l.initial.buffer) (string_bytes l.buffer) (blocks (sampled_block l.naming globals l.moment l.series l.distributions) family_kept (map deref_pair l.yielded));
  never_falls : g.K.Sink.faults l.initial.sink ≤ g.K.Sink.faults l.sink;
}
