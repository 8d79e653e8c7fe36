use Rattle.dsd_exporter.proofs.Draining.{drains_then}
use Rattle.dsd_exporter.proofs.queued.QueuedSamples.drain.Goals as goal

pub returns-in_err-take_next-clause-drains : goal.returns-in_err-take_next-clause-drains
returns-in_err-take_next-clause-drains g c = drains_then _ _ _ c.loop.invariant.2 c.take_next.ensures.drains

pub returns-then-not-branch-clause-drains : goal.returns-then-not-branch-clause-drains
returns-then-not-branch-clause-drains g c = drains_then _ _ _ c.loop.invariant.2 c.take_next.ensures.drains

pub loop-preserved : goal.loop-preserved
loop-preserved g c = (tt, tt, drains_then _ _ _ c.loop.invariant.2 c.take_next.ensures.drains)
