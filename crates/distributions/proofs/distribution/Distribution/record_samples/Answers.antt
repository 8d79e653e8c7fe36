use Rattle.std.proofs.Common.{subst, sym, pos}
use Rattle.std.proofs.lemmas.List.{map_more}
use Rattle.distributions.specs.Recording.{StandsForMore, sample_of}
use Rattle.distributions.proofs.Recorded.{stands_more, folds_more}
use Rattle.distributions.proofs.distribution.Distribution.record_samples.Goals as goal

pub loop-done-preserved : goal.loop-done-preserved
loop-done-preserved c =
    let within = c.loop-done-test.true in (
      folds_more _ _ _ c.args.samples.now c.loop-done.done (record { 0 = pos 0 }, 0) within c.loop-done.invariant.0 c.in-Ok.ensures.recorded,
      subst (λ samples. StandsForMore c.args.self.now samples c.record.new.self) (sym (map_more sample_of c.args.samples.now c.loop-done.done (record { 0 = pos 0 }, 0) within))
          (stands_more c.args.self.now c.loop-done.self c.record.new.self _ _ c.loop-done.invariant.1 c.in-Ok.ensures.stands),
    )
