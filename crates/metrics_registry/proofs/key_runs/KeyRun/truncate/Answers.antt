use Rattle.std.proofs.Common.{sym, subst}
use Rattle.metrics_registry.specs.KeyRuns.{RanksRise, AreUpTo}
use Rattle.metrics_registry.proofs.KeyRuns.{rise-take, up_to-take}
use Rattle.metrics_registry.proofs.key_runs.KeyRun.truncate.Goals as goal

pub invariant_of-self : goal.invariant_of-self
invariant_of-self c =
    let ks = c.self.inside.keys.items in
    record {
      rise = λ said. let rise = c.self.invariant.rise said in
          subst (λ list. RanksRise list × AreUpTo c.self.inside.last list) (sym c.truncate.ensures.items) (rise-take c.args.count ks rise.0, up_to-take c.args.count c.self.inside.last ks rise.1);
    }
