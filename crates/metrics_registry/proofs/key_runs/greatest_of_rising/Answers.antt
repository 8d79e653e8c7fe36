use Rattle.std.proofs.Common.{◌≡◌, ◌+◌, ◌++◌, ◌∷◌, ◌<◌, [], take, sym, ap, subst, ◌∙◌, arith}
use Rattle.std.proofs.lemmas.List.{take_more}
use Rattle.metrics_registry.specs.KeyRuns.{RanksRise, AreUpTo, key_rank}
use Rattle.metrics_registry.proofs.KeyRuns.{rise-push, up_to-push}
use Rattle.metrics_registry.proofs.key_runs.greatest_of_rising.Goals as goal

pub loop-key-preserved : goal.loop-key-preserved
loop-key-preserved c =
    let ks = c.args.keys.now in
    let i = c.loop-key.key-index in
    let key = c.key-item.result in
    let last = c.loop-key.last in
    let rank = c.rank_of-rank.result in
    let more : take (i + 1) ks ≡ take i ks ++ key ∷ [] =
    take_more ks i key c.loop-key-test.true ∙ ap (λ k. take i ks ++ k ∷ []) (sym c.key-item.is) in
    let greater : last < rank = omega (arith, c.if-rank-last.false) in
    let own : key_rank key ≡ rank = sym c.rank_of-rank.ensures in
    record {
      rise = subst RanksRise (sym more) (rise-push last (take i ks) key c.loop-key.invariant.rise c.loop-key.invariant.all (omega (arith, greater, own)));
      all = subst (AreUpTo rank) (sym more) (up_to-push last rank (take i ks) key c.loop-key.invariant.all (omega (arith, greater)) (omega (arith, own)));
    }
