use Rattle.std.proofs.Common.{List, [], subst}
use Rattle.legal_history.specs.declared.history.Entry.{Entry}
use Rattle.legal_history.specs.History.{calls}
use Rattle.legal_history.specs.Object.{Runs}
use Rattle.sample_queue.specs.declared.calls.QueueCall.{QueueCall}
use Rattle.legal_history.proofs.Objects.{tells}
use Rattle.sample_queue.specs.Queues.{QueueStep}
use Rattle.sample_queue.specs.Passes.{view_of}
use Rattle.sample_queue.proofs.queue.SampleQueue.settle.Goals as goal

pub len_as-requires-clause-rule : goal.len_as-requires-clause-rule
len_as-requires-clause-rule g c = λ items views k at. tells QueueStep [] items views c.args.pass.now.seat.id (view_of c.args.pass.now) c.args.pass.now.live k.0 at

pub returns-clause-settled : goal.returns-clause-settled
returns-clause-settled g c = (c.len_as.ensures.rule.2.1.whole c.requires.root.0 c.requires.root.1).1

pub returns-clause-items : goal.returns-clause-items
returns-clause-items g c =
    let held = c.len_as.ensures.rule in
    (held.0, subst (λ (log : List (Entry (QueueCall _))). Runs QueueStep [] (calls log) held.0) (held.2.1.whole c.requires.root.0 c.requires.root.1).0 held.2.2)
