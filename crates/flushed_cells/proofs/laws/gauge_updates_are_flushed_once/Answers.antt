use Rattle.std.proofs.Common.{ap, ◌∙◌, arith}
use Rattle.metrics_core.specs.Numbers.{in_64_bits}
use Rattle.flushed_cells.specs.Gauges.{gauge_start}
use Rattle.flushed_cells.proofs.Histories.{gauge_updates_once}
use Rattle.flushed_cells.proofs.laws.gauge_updates_are_flushed_once.Goals as goal

pub returns : goal.returns
returns c = λ cs s r. gauge_updates_once cs gauge_start s r ∙ ap in_64_bits (omega arith)
