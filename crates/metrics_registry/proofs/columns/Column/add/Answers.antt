use Rattle.std.proofs.Common.{sym, ap, ◌∙◌}
use Rattle.std.specs.Prelude.{is_some}
use Rattle.metrics_core.specs.KeyLaws.{key_eq_laws}
use Rattle.metrics_registry.specs.Stored.{live_of}
use Rattle.metrics_registry.proofs.StoredSeries.{is_some-id_of_key, live_of-push, stored-push}
use Rattle.metrics_registry.proofs.columns.Column.add.Goals as goal

-- no key is equal
pub push-requires-2 : goal.push-requires-2
push-requires-2 g c = record {
  new = sym (is_some-id_of_key key_eq_laws.symm c.args.key c.args.keys.now.keys c.args.self.now.items.items c.requires.stored.beside) ∙ ap is_some c.requires.new;
}

pub returns-in-Ok-push-clause-added : goal.returns-in-Ok-push-clause-added
returns-in-Ok-push-clause-added g c =
    (λ j. live_of (c.in-Ok-push.ensures.added j) (c.in-Ok.ensures.items j))
    ∙ live_of-push c.args.keys.now.keys c.args.self.now.items.items c.args.key (record { id = c.args.id; cell = c.args.cell }) c.requires.stored.beside

pub returns-in-Ok-push-clause-stored : goal.returns-in-Ok-push-clause-stored
returns-in-Ok-push-clause-stored g c =
    rw (c.in-Ok-push.ensures.added, c.in-Ok.ensures.items)
    (stored-push c.args.keys.now.keys c.args.self.now.items.items c.args.key (record { id = c.args.id; cell = c.args.cell }) c.requires.stored c.requires.above)
