use Rattle.std.proofs.Common.{pos, ap, ◌∙◌, map}
use Rattle.metrics_registry.specs.Buckets.{bucket_of}
use Rattle.metrics_registry.proofs.Observed.{buckets-none}
use Rattle.metrics_registry.proofs.cumulative.CumulativeHistogram.new.Goals as goal

pub returns : goal.returns
returns c =
    let buckets = ap (map bucket_of) c.in_ok-buckets.ensures ∙ buckets-none c.args.bounds.now in
    λ j. record { buckets = buckets j; sum = pos 0; count = 0 }
