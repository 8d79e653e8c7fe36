use Rattle.std.proofs.Common.{None, ap, ◌∙◌}
use Rattle.sample_queue.specs.Queues.{popped}
use Rattle.histogram_series.specs.Drains.{with_none_waiting}
use Rattle.histogram_series.proofs.Kept.{waiting-recorded}
use Rattle.histogram_series.proofs.series.HistogramSeries.record_stray.Goals as goal

pub invariant_of-self-in-Some : goal.invariant_of-self-in-Some
invariant_of-self-in-Some c =
    let done = c.in_ok-record.ensures in
    let known = waiting-recorded (popped c.self.inside.queue.root.mine) c.self.inside.stray c.in-Some.entry c.self.inside.distribution c.record.new.self c.in-Some.is c.self.invariant done.recorded done.stands in
    (known.0, known.1)

pub returns-in_ok-record-clause-recorded : goal.returns-in_ok-record-clause-recorded
returns-in_ok-record-clause-recorded c =
    let done = c.in_ok-record.ensures in
    let known = waiting-recorded (popped c.self.inside.queue.root.mine) c.self.inside.stray c.in-Some.entry c.self.inside.distribution c.record.new.self c.in-Some.is c.self.invariant done.recorded done.stands in
    (λ i. record { cell = c.self.inside.queue.fixed; root = c.self.inside.queue.root; stray = None; kind = known.2 i }) ∙ ap with_none_waiting c.self.view_is
