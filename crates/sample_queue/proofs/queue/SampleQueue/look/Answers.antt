use Rattle.std.proofs.Common.{[], refl, ◌∙◌}
use Rattle.legal_history.proofs.Objects.{tells}
use Rattle.legal_history.proofs.Told.{sees_its_own, after_none}
use Rattle.sample_queue.specs.Queues.{QueueStep}
use Rattle.sample_queue.specs.Passes.{view_of}
use Rattle.sample_queue.proofs.queue.SampleQueue.look.Goals as goal

pub len_as-requires-clause-rule : goal.len_as-requires-clause-rule
len_as-requires-clause-rule g c = λ items views k at. tells QueueStep [] items views c.args.pass.now.seat.id (view_of c.args.pass.now) c.args.pass.now.live k.0 at

pub returns-clause-none : goal.returns-clause-none
returns-clause-none g c =
    let v = view_of c.args.pass.now in
    let told = c.len_as.ensures.rule.2 in
    ([], refl, (v.seen, sees_its_own v told.0 told.1, c.len_as.ensures.queue.2 ∙ after_none v))
