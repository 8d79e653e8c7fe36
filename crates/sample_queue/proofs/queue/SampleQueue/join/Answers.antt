use Rattle.sample_queue.specs.Passes.{view_of}
use Rattle.sample_queue.proofs.Rooted.{merges}
use Rattle.sample_queue.proofs.queue.SampleQueue.join.Goals as goal

pub absorb-requires-clause-rule : goal.absorb-requires-clause-rule
absorb-requires-clause-rule g c = λ items views k at apart there.
    merges items views c.args.pass.now.seat.id (view_of c.args.pass.now) c.args.child.seat.id (view_of c.args.child) c.args.pass.now.live c.requires.root c.args.child.live k at apart there
