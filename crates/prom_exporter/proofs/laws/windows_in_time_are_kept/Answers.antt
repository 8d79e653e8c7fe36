use Rattle.prom_exporter.proofs.KeptWindows.{in_time-kept}
use Rattle.prom_exporter.proofs.laws.windows_in_time_are_kept.Goals as goal

pub returns : goal.returns
returns c = in_time-kept
