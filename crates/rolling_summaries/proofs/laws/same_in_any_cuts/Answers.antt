use Rattle.rolling_summaries.proofs.Cuts.{same_in_any_cuts}
use Rattle.rolling_summaries.proofs.laws.same_in_any_cuts.Goals as goal

pub returns : goal.returns
returns c = same_in_any_cuts
