use Rattle.std.proofs.Common.{length, ap, sym, subst, arith}
use Rattle.std.specs.Prelude.{replicate}
use Rattle.rolling_summaries.specs.Standing.{StandsFor}
use Rattle.rolling_summaries.specs.Summaries.{Apart, AreOrdered}
use Rattle.rolling_summaries.proofs.Kept.{within-kept_after}
use Rattle.rolling_summaries.proofs.Ordered.{Apart-kept_after, ordered-kept_after}
use Rattle.rolling_summaries.proofs.Landed.{stands-added}
use Rattle.rolling_summaries.proofs.summary.RollingSummary.add.Goals as goal

pub invariant_of-self-2 : goal.invariant_of-self-2
invariant_of-self-2 c =
    let within = within-kept_after c.self.inside.limit c.self.inside.width c.args.now (replicate c.args.count c.args.value.0) c.self.inside.kept.items c.self.invariant.within in
    record {
      some = c.self.invariant.some;
      wide = c.self.invariant.wide;
      fits = c.self.invariant.fits;
      within = omega (arith, within, ap length c.in_ok-put.ensures.put);
      apart =
          subst (Apart c.self.inside.width) (sym c.in_ok-put.ensures.put)
          (Apart-kept_after c.self.inside.limit c.self.inside.width c.args.now (replicate c.args.count c.args.value.0) c.self.inside.kept.items c.self.invariant.some c.self.invariant.wide c.self.invariant.apart);
      ordered =
          subst AreOrdered (sym c.in_ok-put.ensures.put)
          (ordered-kept_after c.self.inside.limit c.self.inside.width c.args.now (replicate c.args.count c.args.value.0) c.self.inside.kept.items c.self.invariant.ordered);
    }

pub returns-clause-stands : goal.returns-clause-stands
returns-clause-stands c samples stands before =
    stands-added c.self.inside.limit c.self.inside.width c.self.inside.kept.items c.put.new.kept.items c.self.inside.count c.from.result c.args.now c.args.count c.args.value.0 samples c.self.invariant.some c.self.invariant.wide (omega arith) c.from.ensures c.in_ok-put.ensures.put
    (subst (λ s. StandsFor s samples) (sym c.self.view_is) stands) before
