use Rattle.std.proofs.Common.{refl, inr}
use Rattle.flushed_cells.specs.Counters.{counter_start}
use Rattle.dsd_exporter.proofs.Waiting.{flushed_counter, unmade_counter}
use Rattle.dsd_exporter.proofs.kept_cells.KeptCell+DsdCounter.take_delta.Goals as goal

pub note_rest-requires-after_bounds : goal.note_rest-requires-after_bounds
note_rest-requires-after_bounds g c κs = flushed_counter _ _ c.read-taken.result c.read-taken.ensures.read

pub returns-in-None : goal.returns-in-None
returns-in-None g c = rw (← c.self.view_is, c.in-None.is) (counter_start, refl, inr unmade_counter)
