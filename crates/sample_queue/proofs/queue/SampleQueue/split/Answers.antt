use Rattle.sample_queue.specs.Passes.{view_of}
use Rattle.sample_queue.proofs.Rooted.{forks}
use Rattle.sample_queue.proofs.queue.SampleQueue.split.Goals as goal

pub another-seat-requires-clause-rule : goal.another-seat-requires-clause-rule
another-seat-requires-clause-rule g c = λ items views k at. forks items views c.args.pass.now.seat.id (view_of c.args.pass.now) c.args.pass.now.live c.requires.root k at
