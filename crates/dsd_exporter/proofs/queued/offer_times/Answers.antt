use Rattle.std.proofs.Common.{[], ◌∷◌, refl, ap, subst, arith}
use Rattle.dsd_exporter.specs.Flushing.{Offers}
use Rattle.dsd_exporter.proofs.Offering.{Beside, offers_then, replicate_more}
use Rattle.dsd_exporter.proofs.queued.offer_times.Goals as goal

pub loop-made-preserved : goal.loop-made-preserved
loop-made-preserved g c =
    let before : Beside = (c.args.sample.now, g.W.Words.to_come c.args.words.now) in
    let after : Beside = (c.push.new.self, g.W.Words.to_come c.push.new.words) in
    let here = c.loop-made-test.true in
    record {
      offers =
          subst (λ values. Offers before values after) (replicate_more c.loop-made.made c.args.value)
          (offers_then before _ after _ (c.args.value ∷ []) c.loop-made.invariant.offers (after, ((λ room. (let k = c.push.ensures.kept room in (k.0, ap g.W.Words.to_come k.1))), c.push.ensures.sampled), refl));
      few = omega (arith, here);
    }
