use Rattle.std.proofs.Common.{sym, ◌∙◌}
use Rattle.std.specs.Prelude.{string_bytes}
use Rattle.metric_descriptions.specs.Written.{said_of}
use Rattle.metric_descriptions.proofs.Books.{said-already, adds-text, adds-book}
use Rattle.metric_descriptions.proofs.descriptions.put.Goals as goal

pub returns-then-is_published-clause-described :
    goal.returns-then-is_published-clause-described
returns-then-is_published-clause-described c =
    said-already c.args.writer.now (said_of (string_bytes c.args.name) c.args.text)
    (sym c.is_published.ensures ∙ c.if-is_published.true)

pub returns-clause-described : goal.returns-clause-described
returns-clause-described c =
    adds-text c.update.result c.args.writer.now c.update.new.self (string_bytes c.args.name) c.args.text
    (sym c.is_published.ensures ∙ c.if-is_published.false) c.update.ensures

pub returns-clause-kept : goal.returns-clause-kept
returns-clause-kept c =
    adds-book c.update.result c.args.writer.now c.update.new.self (string_bytes c.args.name) c.args.text
    (sym c.is_published.ensures ∙ c.if-is_published.false) c.update.ensures c.requires
