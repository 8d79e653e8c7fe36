use Rattle.std.proofs.Common.{sym, ◌∙◌}
use Rattle.metric_descriptions.proofs.Books.{nothing-waits, publishes-text, publishes-book}
use Rattle.metric_descriptions.proofs.descriptions.show.Goals as goal

pub returns-then-not-has_pending-clause-published :
    goal.returns-then-not-has_pending-clause-published
returns-then-not-has_pending-clause-published g c = nothing-waits c.args.writer.now c.requires (sym c.has_pending.ensures ∙ c.if-not-has_pending.true)

pub returns-clause-published : goal.returns-clause-published
returns-clause-published g c = publishes-text c.publish.result c.args.writer.now c.publish.new.self c.requires c.publish.ensures

pub returns-clause-kept : goal.returns-clause-kept
returns-clause-kept g c = publishes-book c.publish.result c.args.writer.now c.publish.new.self c.requires c.publish.ensures
