use Rattle.std.proofs.Common.{sym, ap, subst, ◌∙◌}
use Rattle.std.specs.Prelude.{FitsSigned}
use Rattle.std.specs.Int.{w128}
use Rattle.std.proofs.lemmas.Int.{wrapping_add_is}
use Rattle.metrics_core.specs.Numbers.{add_128}
use Rattle.distributions.proofs.Recorded.{sum_with-times}
use Rattle.distributions.proofs.distribution.sum_with.Goals as goal

pub returns : goal.returns
returns c =
    ap (add_128 c.args.sum) c.product.ensures.product
    ∙ wrapping_add_is w128 c.args.sum _ c.ranges.sum (subst (FitsSigned w128) c.product.ensures.product c.product.ensures.fits)
    ∙ sym (sum_with-times c.args.value.0 c.product.ensures.value_fits c.args.count c.args.sum c.ranges.sum)
