use Rattle.std.proofs.Common.{ap, subst, arith}
use Rattle.metrics_registry.specs.Reservoirs.{empty_reservoir}
use Rattle.dsd_exporter.specs.Samples.{samples_in}
use Rattle.dsd_exporter.specs.Flushing.{Offers, IsSample}
use Rattle.dsd_exporter.proofs.Offering.{Beside, offers_then, samples_more, take_whole, is_sample}
use Rattle.dsd_exporter.proofs.queued.QueuedSamples.sample.Goals as goal

pub loop-entry-preserved : goal.loop-entry-preserved
loop-entry-preserved g c =
    let before : Beside = (empty_reservoir c.args.size, g.W.Words.to_come c.args.words.now) in
    let after : Beside = (c.offer_times.new.sample, g.W.Words.to_come c.offer_times.new.words) in
    subst (λ values. Offers before values after) (samples_more c.as_slice-entries.result.now c.loop-entry.entry-index _ c.loop-entry-test.true)
    (offers_then before _ after _ _ c.loop-entry.invariant c.offer_times.ensures)

pub returns-clause-sample : goal.returns-clause-sample
returns-clause-sample g c =
    let entries = c.as_slice-entries.result.now in
    let before : Beside = (empty_reservoir c.args.size, g.W.Words.to_come c.args.words.now) in
    let after : Beside = (c.loop-entry.sample, g.W.Words.to_come c.loop-entry.words) in
    let past = c.loop-entry-test.false in
    let fits = c.ranges.size.fits in
    let all = ap samples_in (take_whole entries c.loop-entry.entry-index (omega (arith, past))) in
    rw (← c.self.view_is)
    (subst (λ es. IsSample c.args.size (samples_in es) c.loop-entry.sample (g.W.Words.to_come c.args.words.now) (g.W.Words.to_come c.loop-entry.words)) c.as_slice-entries.ensures.value
    (is_sample c.args.size (samples_in entries) c.loop-entry.sample _ _ (omega (arith, fits)) (subst (λ values. Offers before values after) all c.loop-entry.invariant)))
