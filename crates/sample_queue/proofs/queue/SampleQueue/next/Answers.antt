use Rattle.std.proofs.Common.{◌∷◌, refl}
use Rattle.sample_queue.specs.declared.calls.QueueCall.TheVariants.{Pop}
use Rattle.sample_queue.specs.Passes.{view_of}
use Rattle.sample_queue.proofs.InOrder.{alone}
use Rattle.sample_queue.proofs.Rooted.{turns, finds}
use Rattle.sample_queue.proofs.queue.SampleQueue.next.Goals as goal

pub pop_as-requires-clause-rule : goal.pop_as-requires-clause-rule
pop_as-requires-clause-rule g c = (
  (λ x items views k at. turns (x ∷ items) items views c.args.pass.now.seat.id (view_of c.args.pass.now) (Pop x) c.args.pass.now.live c.requires.root refl k at),
  (λ items views k at. finds items views c.args.pass.now.seat.id (view_of c.args.pass.now) c.args.pass.now.live c.requires.root k at),
)

pub returns-clause-alone : goal.returns-clause-alone
returns-clause-alone g c = λ root none items run. alone _ (view_of c.args.pass.now) c.pop_as.new.pass.me.view.client c.pop_as.result c.pop_as.ensures.rule root none items run
