use Rattle.std.proofs.Common.{arith}
use Rattle.std.proofs.lemmas.Int.{ints}
use Rattle.native_histograms.proofs.Indices.{start_index}
use Rattle.native_histograms.proofs.buckets.index_at_start.Goals as goal

pub returns-then-scaled-bound : goal.returns-then-scaled-bound
returns-then-scaled-bound c =
    let i = c.loop-place.invariant in
    let bound = i.0 in
    omega (arith, ints, start_index c.args.magnitude c.loop-place.place c.requires.least c.requires.most (omega arith) (λ j is. let h = i.1 j is in omega arith))

pub returns : goal.returns
returns c =
    let i = c.loop-place.invariant in
    start_index c.args.magnitude 63 c.requires.least c.requires.most (omega arith) (λ j is. let h = i.1 j (omega arith) in omega arith)
