use Rattle.std.proofs.Common.{◌<◌, sym, subst, ◌∙◌}
use Rattle.metrics_registry.specs.Stored.{live_of}
use Rattle.metrics_registry.proofs.Found.{is_live-place, without-place, without-none}
use Rattle.metrics_registry.proofs.StoredSeries.{place_within, stored-remove, live_of-remove}
use Rattle.metrics_registry.proofs.columns.Column.delete.Goals as goal

pub remove-series-requires : goal.remove-series-requires
remove-series-requires g c =
    subst (λ n. c.in-Some.place < n) (sym c.args.self.now.items.ok.0)
    (place_within c.args.keys.now.keys c.args.self.now.items.items c.args.id c.in-Some.place c.requires.beside (c.in-Some.ensures c.args.keys.now.keys c.requires))

pub returns-in-Some-clause-was_live : goal.returns-in-Some-clause-was_live
returns-in-Some-clause-was_live g c =
    sym (is_live-place c.args.id (live_of c.args.keys.now.keys c.args.self.now.items.items) c.in-Some.place (c.in-Some.ensures c.args.keys.now.keys c.requires))

pub returns-in-Some-clause-rest : goal.returns-in-Some-clause-rest
returns-in-Some-clause-rest g c =
    (λ j. live_of (c.remove.ensures j) (c.remove-series.ensures.items j))
    ∙ live_of-remove c.args.keys.now.keys c.args.self.now.items.items c.in-Some.place c.requires.beside
    ∙ without-place c.args.id (live_of c.args.keys.now.keys c.args.self.now.items.items) c.in-Some.place c.requires.rises (c.in-Some.ensures c.args.keys.now.keys c.requires)

pub returns-in-Some-clause-stored : goal.returns-in-Some-clause-stored
returns-in-Some-clause-stored g c =
    rw (c.remove.ensures, c.remove-series.ensures.items)
    (stored-remove c.args.keys.now.keys c.args.self.now.items.items c.args.id c.in-Some.place c.requires (c.in-Some.ensures c.args.keys.now.keys c.requires))

pub returns-in-None-clause-rest : goal.returns-in-None-clause-rest
returns-in-None-clause-rest g c = sym (without-none c.args.id (live_of c.args.keys.now.keys c.args.self.now.items.items) (c.in-None.ensures c.args.keys.now.keys c.requires))
