use Rattle.std.proofs.Common.{sym, subst, ap, ◌∙◌}
use Rattle.sample_queue.specs.Queues.{FoundEmpty}
use Rattle.histogram_series.specs.Series.{SampleSeries}
use Rattle.histogram_series.specs.Drains.{Drains}
use Rattle.histogram_series.proofs.Drained.{drains-recorded, drains-next, drains-grow, drains-same, drains-empty, drains-seen, drains-all}
use Rattle.histogram_series.proofs.series.HistogramSeries.drain.Goals as goal

pub returns-then-not-take_next-clause-grows : goal.returns-then-not-take_next-clause-grows
returns-then-not-take_next-clause-grows g c =
    drains-grow _ _ (subst (Drains c.args.self.now) (sym c.if-not-take_next.ensures.same) c.loop.invariant.2)

pub returns-then-not-take_next-clause-same_entries : goal.returns-then-not-take_next-clause-same_entries
returns-then-not-take_next-clause-same_entries g c =
    drains-same _ _ (subst (Drains c.args.self.now) (sym c.if-not-take_next.ensures.same) c.loop.invariant.2)

pub returns-then-not-take_next-clause-all_recorded : goal.returns-then-not-take_next-clause-all_recorded
returns-then-not-take_next-clause-all_recorded g c =
    let same = c.if-not-take_next.ensures.same in
    drains-all _ _ (subst (Drains c.args.self.now) (sym same) c.loop.invariant.2)
    (ap (λ (s : SampleSeries). s.stray) same ∙ c.loop.invariant.3)
    (subst (λ (s : SampleSeries). FoundEmpty s.root) (sym same) c.if-not-take_next.ensures.empty)

pub returns-then-not-take_next-clause-all_seen : goal.returns-then-not-take_next-clause-all_seen
returns-then-not-take_next-clause-all_seen g c =
    let same = c.if-not-take_next.ensures.same in
    drains-seen _ _ (subst (Drains c.args.self.now) (sym same) c.loop.invariant.2)
    (ap (λ (s : SampleSeries). s.stray) same ∙ c.loop.invariant.3)
    (subst (λ (s : SampleSeries). FoundEmpty s.root) (sym same) c.if-not-take_next.ensures.empty)

pub returns-then-not-take_next-clause-emptied : goal.returns-then-not-take_next-clause-emptied
returns-then-not-take_next-clause-emptied g c =
    let same = c.if-not-take_next.ensures.same in
    drains-empty _ _ (subst (Drains c.args.self.now) (sym same) c.loop.invariant.2)
    (subst (λ (s : SampleSeries). FoundEmpty s.root) (sym same) c.if-not-take_next.ensures.empty)

pub loop-preserved : goal.loop-preserved
loop-preserved g c =
    let next = drains-next _ _ _ c.loop.invariant.2 c.if-not-take_next.ensures.taken in
    let done = c.in_ok-record_stray-2.ensures.recorded in
    (tt, tt, drains-recorded _ _ _ next done, ap (λ (s : SampleSeries). s.stray) done)

pub returns-in_err-record_stray-2-clause-drains : goal.returns-in_err-record_stray-2-clause-drains
returns-in_err-record_stray-2-clause-drains g c =
    subst (Drains c.args.self.now) (sym c.in_err-record_stray-2.ensures.refused) (drains-next _ _ _ c.loop.invariant.2 c.if-not-take_next.ensures.taken)

pub returns-in_err-record_stray-2-clause-grows : goal.returns-in_err-record_stray-2-clause-grows
returns-in_err-record_stray-2-clause-grows g c =
    drains-grow _ _ (subst (Drains c.args.self.now) (sym c.in_err-record_stray-2.ensures.refused) (drains-next _ _ _ c.loop.invariant.2 c.if-not-take_next.ensures.taken))

pub returns-in_err-record_stray-2-clause-same_entries : goal.returns-in_err-record_stray-2-clause-same_entries
returns-in_err-record_stray-2-clause-same_entries g c =
    drains-same _ _ (subst (Drains c.args.self.now) (sym c.in_err-record_stray-2.ensures.refused) (drains-next _ _ _ c.loop.invariant.2 c.if-not-take_next.ensures.taken))
