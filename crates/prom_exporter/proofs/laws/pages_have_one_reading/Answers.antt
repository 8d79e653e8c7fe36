use Rattle.prom_exporter.proofs.InRange.{shown_in_range, written_in_range, reads_once}
use Rattle.prom_exporter.proofs.laws.pages_have_one_reading.Goals as goal

pub returns-clause-in_range : goal.returns-clause-in_range
returns-clause-in_range c = shown_in_range

pub returns-clause-written_in_range : goal.returns-clause-written_in_range
returns-clause-written_in_range c = written_in_range

pub returns-clause-reading : goal.returns-clause-reading
returns-clause-reading c = reads_once
