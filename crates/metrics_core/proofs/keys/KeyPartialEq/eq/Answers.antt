use Rattle.std.proofs.Common.{sym, subst}
use Rattle.std.specs.Prelude.{Decides}
use Rattle.metrics_core.specs.Keys.{SameKey}
use Rattle.metrics_core.specs.KeyLaws.{key_eq_is}
use Rattle.metrics_core.proofs.keys.KeyPartialEq.eq.Goals as goal

-- the test decides whether the keys are the same
pub returns-clause-same : goal.returns-clause-same
returns-clause-same c =
    let a = c.args.self.now in
    let b = c.args.other.now in
    subst (λ r. Decides r (SameKey a b)) (sym c.equals.ensures) (key_eq_is a b)
