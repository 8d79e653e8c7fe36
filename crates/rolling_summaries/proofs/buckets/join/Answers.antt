use Rattle.std.proofs.Common.{◌++◌, ap, ◌∙◌}
use Rattle.std.specs.Prelude.{replicate}
use Rattle.std.proofs.lemmas.Result.{on_ok_weaker}
use Rattle.metrics_registry.specs.Quantiles.{ascending}
use Rattle.rolling_summaries.proofs.Kept.{joined-at}
use Rattle.rolling_summaries.proofs.buckets.join.Goals as goal

pub returns-clause-joined : goal.returns-clause-joined
returns-clause-joined c =
    let kept = c.args.kept.now.items in
    let bucket = c.index_mut-bucket.result.now in
    on_ok_weaker c.add.result
    (λ added.
    joined-at (replicate c.args.count c.args.value.0) c.add.new.self c.args.place kept bucket c.requires c.index_mut-bucket.ensures.value
    (added ∙ ap (λ n. ascending (bucket.values ++ replicate n c.args.value.0)) c.from.ensures))
    c.add.ensures.added
