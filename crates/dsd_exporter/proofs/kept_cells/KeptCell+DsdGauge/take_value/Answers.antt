use Rattle.std.proofs.Common.{refl, inr}
use Rattle.flushed_cells.specs.Gauges.{gauge_start}
use Rattle.dsd_exporter.proofs.Waiting.{flushed_gauge, unmade_gauge}
use Rattle.dsd_exporter.proofs.kept_cells.KeptCell+DsdGauge.take_value.Goals as goal

pub note_rest-requires-after_bounds : goal.note_rest-requires-after_bounds
note_rest-requires-after_bounds g c κs = flushed_gauge _ _ c.read-taken.result c.read-taken.ensures.read

pub returns-in-None : goal.returns-in-None
returns-in-None g c = rw (← c.self.view_is, c.in-None.is) (gauge_start, refl, inr unmade_gauge)
