use Rattle.std.proofs.Common.{◌++◌, map, take, drop, get_or, sym, ap, ◌∙◌, add-one, pos}
use Rattle.std.specs.Prelude.{slice_set}
use Rattle.metrics_registry.specs.Buckets.{raised_bucket}
use Rattle.metrics_registry.proofs.Observed.{map_step}
use Rattle.metrics_registry.proofs.cumulative.raise_all.Goals as goal

pub loop-bucket-preserved : goal.loop-bucket-preserved
loop-bucket-preserved c =
    let f = raised_bucket c.args.value.0 c.args.count in
    let i = c.loop-bucket.bucket-index in
    let ys = c.args.buckets.now in
    ap (λ b. slice_set c.loop-bucket.buckets i b) c.raised.ensures
    ∙ ap (λ xs. slice_set xs i (f (get_or xs i (record { 0 = pos 0 }, 0)))) c.loop-bucket.invariant
    ∙ map_step f ys i (record { 0 = pos 0 }, 0) c.loop-bucket-test.true
    ∙ ap (λ n. map f (take n ys) ++ drop n ys) (sym (add-one i))
