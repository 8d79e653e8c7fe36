use Rattle.std.proofs.Common.{◌∙◌, nat_eq}
use Rattle.indexmap.proofs.CallerLemmas.{insert_entry-new}
use Rattle.metrics_registry.proofs.numbered_keys.push_under.Goals as goal

pub returns-in-Ok-clause-added : goal.returns-in-Ok-clause-added
returns-in-Ok-clause-added c = c.in-Ok.ensures.entries ∙ insert_entry-new nat_eq c.args.keys.now c.args.number c.args.key c.requires.free
