use Rattle.std.proofs.Common.{IsPermutation, subst}
use Rattle.evmap_core.proofs.Samples.{ordered-sample}
use Rattle.evmap_core.proofs.random.random_places.Goals as goal

pub returns : goal.returns
returns g c = ordered-sample _ _ _ _ _ c.min.ensures c.in_ok-sample.ensures (subst (λ xs. IsPermutation xs c.sort_unstable.new.self.items) c.into_vec-places.ensures c.sort_unstable.ensures.permutation) c.sort_unstable.ensures.sorted
