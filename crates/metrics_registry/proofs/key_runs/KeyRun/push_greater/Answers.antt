use Rattle.std.proofs.Common.{◌≡◌, ◌<◌, false, sym, subst, arith}
use Rattle.std.specs.List.{list_any}
use Rattle.metrics_core.specs.Keys.{key_eq}
use Rattle.metrics_registry.specs.KeyRuns.{RanksRise, AreUpTo, key_rank}
use Rattle.metrics_registry.proofs.KeyRuns.{none_up_to, rise-push, up_to-push}
use Rattle.metrics_registry.proofs.key_runs.KeyRun.push_greater.Goals as goal

pub invariant_of-self : goal.invariant_of-self
invariant_of-self c =
    let ks = c.self.inside.keys.items in
    let rank = c.rank_of-rank.result in
    let rise = c.self.invariant.rise c.if-not-self.false in
    let greater : c.self.inside.last < rank = omega (arith, c.if-rank-self.false) in
    let own : key_rank c.args.key ≡ rank = sym c.rank_of-rank.ensures in
    record {
      rise = λ _. subst (λ list. RanksRise list × AreUpTo rank list) (sym c.in-Ok.ensures.items) (
        rise-push c.self.inside.last ks c.args.key rise.0 rise.1 (omega (arith, greater, own)),
        up_to-push c.self.inside.last rank ks c.args.key rise.1 (omega (arith, greater)) (omega (arith, own)),
      );
    }

pub returns-in-Ok-clause-new : goal.returns-in-Ok-clause-new
returns-in-Ok-clause-new c =
    let rise = c.self.invariant.rise c.if-not-self.false in
    let greater : c.self.inside.last < key_rank c.args.key = omega (arith, c.if-rank-self.false, c.rank_of-rank.ensures) in
    subst (λ list. list_any (key_eq c.args.key) list.keys ≡ false) c.self.view_is (none_up_to c.self.inside.last c.args.key c.self.inside.keys.items rise.1 greater)

pub returns-in-Err-clause-absent : goal.returns-in-Err-clause-absent
returns-in-Err-clause-absent c =
    let rise = c.self.invariant.rise c.if-not-self.false in
    let greater : c.self.inside.last < key_rank c.args.key = omega (arith, c.if-rank-self.false, c.rank_of-rank.ensures) in
    subst (λ list. list_any (key_eq c.args.key) list.keys ≡ false) c.self.view_is (none_up_to c.self.inside.last c.args.key c.self.inside.keys.items rise.1 greater)
