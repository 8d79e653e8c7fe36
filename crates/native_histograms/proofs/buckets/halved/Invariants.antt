use Rattle.std.proofs.Common.{◌≡◌, None}
use Rattle.std.specs.Prelude.{ℤ, fold}
use Rattle.std.specs.Map.{lookup}
use Rattle.std.specs.Ordering.{int_eq}
use Rattle.native_histograms.specs.Placed.{half_up, raised_at}
use Rattle.native_histograms.proofs.buckets.halved.Given as goal

abbrev pub invariant-loop-index : goal.invariant-loop-index
invariant-loop-index l =
    (q : ℤ) → fold (λ o e. raised_at (half_up e.0) e.1 q o) (lookup (λ i. int_eq q i) l.halved.entries) l.index-iterator
    ≡ fold (λ o e. raised_at (half_up e.0) e.1 q o) None l.buckets.entries
