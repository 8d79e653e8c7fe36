use Rattle.std.proofs.Common.{Some, ap, not, refl, ◌∙◌, inr}
use Rattle.flushed_cells.specs.Counters.{counter_start}
use Rattle.dsd_exporter.specs.Exporter.{kept_thing}
use Rattle.dsd_exporter.proofs.Counters.{nothing_waits}
use Rattle.dsd_exporter.proofs.Waiting.{unmade_counter}
use Rattle.dsd_exporter.proofs.kept_cells.KeptCell+DsdCounter.take_nothing.Goals as goal

pub note_rest-requires-after_bounds : goal.note_rest-requires-after_bounds
note_rest-requires-after_bounds g c κs =
    nothing_waits (kept_thing (Some c.in-Some.owned)) (kept_thing (Some c.read_still-still.new.self)) c.read_still-still.result (c.is_none.ensures ∙ ap not c.if-is_none.false) c.read_still-still.ensures.read

pub returns-in-None-clause-taken : goal.returns-in-None-clause-taken
returns-in-None-clause-taken g c = rw (← c.self.view_is, c.in-None.is) (counter_start, refl, refl, inr unmade_counter)
