use Rattle.std.proofs.Common.{true}
use Rattle.evmap_core.specs.Known.{known}
use Rattle.metric_descriptions.proofs.Books.{told-result}
use Rattle.metric_descriptions.proofs.descriptions.tell.Goals as goal

pub returns-clause-told : goal.returns-clause-told
returns-clause-told c = told-result _ (λ _ _. true) c.args.writer.now c.told_reader.result known c.requires c.told_reader.ensures.told
