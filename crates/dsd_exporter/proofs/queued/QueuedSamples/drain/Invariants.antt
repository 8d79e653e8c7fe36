use Rattle.dsd_exporter.specs.Flushing.{Drains}
use Rattle.dsd_exporter.proofs.queued.QueuedSamples.drain.Given as goal

-- entries were taken out
abbrev pub invariant-loop : goal.invariant-loop
invariant-loop g l =
    (goal.iterator-loop g).can_next l.iterator' × (goal.iterator-loop g).is_finite l.iterator' × Drains l.fn.self l.self
