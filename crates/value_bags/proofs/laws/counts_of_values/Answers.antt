use Rattle.value_bags.proofs.Times as times
use Rattle.value_bags.proofs.laws.counts_of_values.Goals as goal

pub returns : goal.returns
returns g c =
    let eq = g.V.PartialEq.eq in
    let laws = g.met.V.Eq.laws in
    let bag = c.args.bag.now in
    let proper = c.len-len.ensures.proper in
    record {
      listed = times.count-values eq laws bag;
      pushed = times.times-pushed eq laws bag;
      removed = λ v w. times.times-removed eq laws bag v w proper;
      cleared = times.times-cleared eq laws bag;
      retained = times.times-retained eq laws (g.P.Keep.keeps c.args.test.now) (g.met.P.Keep.alike c.args.test.now) bag;
      fitted = λ w. times.times-fitted eq laws bag w proper;
      reserved = λ n w. times.times-reserved eq laws n bag w;
    }
