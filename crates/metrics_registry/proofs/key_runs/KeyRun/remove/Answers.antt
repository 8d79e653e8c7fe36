use Rattle.std.proofs.Common.{sym, subst}
use Rattle.metrics_registry.specs.KeyRuns.{RanksRise, AreUpTo}
use Rattle.metrics_registry.proofs.KeyRuns.{rise-remove, up_to-remove}
use Rattle.metrics_registry.proofs.key_runs.KeyRun.remove.Goals as goal

pub invariant_of-self : goal.invariant_of-self
invariant_of-self c =
    let ks = c.self.inside.keys.items in
    record {
      rise = λ said. let rise = c.self.invariant.rise said in
          subst (λ list. RanksRise list × AreUpTo c.self.inside.last list) (sym c.remove_at.ensures) (rise-remove c.args.place ks rise.0, up_to-remove c.args.place c.self.inside.last ks rise.1);
    }
