use Rattle.std.proofs.Common.{◌≡◌, w32, sym, ap, ◌∙◌, rules}
use Rattle.std.specs.Prelude.{fold, FitsSigned}
use Rattle.std.specs.Int.{cast_signed, cast_unsigned}
use Rattle.std.specs.Map.{lookup}
use Rattle.std.specs.Ordering.{int_eq}
use Rattle.std.proofs.lemmas.Int.{to_z-of_z}
use Rattle.native_histograms.specs.Placed.{half_up, raised_at}
use Rattle.native_histograms.proofs.Bucketed.{halves}
use Rattle.native_histograms.proofs.buckets.halved.Goals as goal

pub loop-index-preserved : goal.loop-index-preserved
loop-index-preserved c = λ q.
    let fits : FitsSigned w32 c.half_up.result = search rules in
    let found : FitsSigned w32 c.in-Some.index.now = search rules in
    let own : cast_signed w32 (cast_unsigned w32 c.half_up.result) ≡ half_up c.in-Some.index.now =
    to_z-of_z w32 c.half_up.result fits ∙ c.half_up.ensures ∙ ap half_up (to_z-of_z w32 c.in-Some.index.now found) in
    ap (λ o. fold (λ o e. raised_at (half_up e.0) e.1 q o) o c.next.new.self)
    (c.in_ok-add.ensures.raised q ∙ ap (λ k. raised_at k c.in-Some.count.now q (lookup (λ i. int_eq q i) c.loop-index.halved.entries)) own)
    ∙ ap (fold (λ o e. raised_at (half_up e.0) e.1 q o) (lookup (λ i. int_eq q i) c.loop-index.halved.entries)) (sym c.in-Some.ensures.steps)
    ∙ c.loop-index.invariant q

pub returns : goal.returns
returns c =
    halves c.args.buckets.now.entries c.loop-index.halved.entries c.len-len.ensures.ordered (λ q.
    ap (fold (λ o e. raised_at (half_up e.0) e.1 q o) (lookup (λ i. int_eq q i) c.loop-index.halved.entries)) (sym c.in-None.ensures.steps.0)
    ∙ c.loop-index.invariant q)
