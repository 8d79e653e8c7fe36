use Rattle.native_histograms.proofs.Observed as observed
use Rattle.native_histograms.proofs.laws.same_in_any_cuts.Goals as goal

pub returns : goal.returns
returns c = observed.same_in_any_cuts
