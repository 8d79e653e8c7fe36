use Rattle.std.proofs.Common.{refl}
use Rattle.sample_queue.specs.declared.calls.QueueCall.TheVariants.{Push}
use Rattle.sample_queue.specs.Queues.{entry_of}
use Rattle.sample_queue.specs.Passes.{view_of}
use Rattle.sample_queue.proofs.Rooted.{turns}
use Rattle.sample_queue.proofs.queue.SampleQueue.push.Goals as goal

pub push_as-requires-clause-rule : goal.push_as-requires-clause-rule
push_as-requires-clause-rule g c = λ n items views room k at. turns items _ views c.args.pass.now.seat.id (view_of c.args.pass.now) (Push (entry_of c.args.item c.args.count)) c.args.pass.now.live tt refl k at
