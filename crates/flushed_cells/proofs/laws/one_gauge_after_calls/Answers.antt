use Rattle.std.proofs.Common.{refl}
use Rattle.flushed_cells.specs.Gauges.{gauge_start}
use Rattle.flushed_cells.proofs.Histories.{one_gauge}
use Rattle.flushed_cells.proofs.laws.one_gauge_after_calls.Goals as goal

pub returns : goal.returns
returns c = λ cs s t a b. one_gauge cs gauge_start gauge_start s t refl a b
