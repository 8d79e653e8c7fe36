use Rattle.std.proofs.Common.{ap, ◌∙◌, arith}
use Rattle.metrics_core.specs.Numbers.{in_64_bits}
use Rattle.flushed_cells.specs.Counters.{counter_start}
use Rattle.flushed_cells.proofs.Histories.{updates_once}
use Rattle.flushed_cells.proofs.laws.counter_updates_are_flushed_once.Goals as goal

pub returns : goal.returns
returns c = λ cs s r. updates_once cs counter_start s r ∙ ap in_64_bits (omega arith)
