use Rattle.std.proofs.Common.{◌+◌, refl, sum}
use Rattle.std.specs.Prelude.{nat_le}
use Rattle.dsd_writer.proofs.CutLemmas.{full_cut_is}
use Rattle.dsd_writer.proofs.Fewest.{full_cut_fewest}
use Rattle.dsd_writer.proofs.laws.full_cuts_have_the_fewest_runs.Goals as goal

pub returns-clause-full : goal.returns-clause-full
returns-clause-full c = λ weights bare limit alone. full_cut_is (λ run. nat_le (bare + sum run) limit) weights alone

pub returns-clause-fewest : goal.returns-clause-fewest
returns-clause-fewest c = λ weights bare limit. full_cut_fewest (λ run. nat_le (bare + sum run) limit) (λ weight. weight) bare limit (λ run. refl) weights
