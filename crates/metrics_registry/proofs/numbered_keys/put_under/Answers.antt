use Rattle.std.proofs.Common.{◌∙◌, nat_eq, sym, ap}
use Rattle.indexmap.specs.IndexMap.{insert_entry}
use Rattle.indexmap.proofs.CallerLemmas.{insert_entry-new}
use Rattle.metrics_registry.proofs.NumberedKeys.{put_back_again}
use Rattle.metrics_registry.proofs.numbered_keys.put_under.Goals as goal

pub returns-in-Ok-None-clause-put : goal.returns-in-Ok-None-clause-put
returns-in-Ok-None-clause-put c =
    c.in-Ok-None.ensures.entries ∙ insert_entry-new nat_eq c.args.keys.now c.args.number c.args.key (sym c.in-Ok-None.ensures.old ∙ c.in-Ok-None.field-0-is)

pub returns-in-Ok-Some-clause-same : goal.returns-in-Ok-Some-clause-same
returns-in-Ok-Some-clause-same c =
    c.put_back.ensures.entries ∙ ap (λ es. insert_entry nat_eq es c.args.number c.in-Ok-Some.held) c.in-Ok-Some.ensures.entries
    ∙ put_back_again c.args.keys.now.entries c.args.number c.args.key c.in-Ok-Some.held (sym c.in-Ok-Some.ensures.old ∙ c.in-Ok-Some.field-0-is)
