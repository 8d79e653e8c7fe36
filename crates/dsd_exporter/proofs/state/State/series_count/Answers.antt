use Rattle.std.proofs.Common.{sym, ◌∙◌}
use Rattle.dsd_exporter.specs.contracts.state.State.{the_view}
use Rattle.dsd_exporter.proofs.LaneThings.{many_things}
use Rattle.dsd_exporter.proofs.state.State.series_count.Goals as goal

pub returns-clause-count : goal.returns-clause-count
returns-clause-count c = rw (← c.self.view_is) (c.count.ensures ∙ sym (many_things (the_view c.self.inside)))
