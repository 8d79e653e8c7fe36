use Rattle.std.proofs.Common.{◌≡◌, ◌-◌, length, take, ap, ◌∙◌, arith}
use Rattle.metrics_registry.specs.Stored.{live_of}
use Rattle.metrics_registry.proofs.StoredSeries.{stored-take, live_of-others}
use Rattle.metrics_registry.proofs.columns.Column.take_back.Goals as goal

pub returns-clause-rest : goal.returns-clause-rest
returns-clause-rest g c before last is =
    let ks = c.args.keys.now.keys in
    let ss = c.args.self.now.items.items in
    let n : c.saturating_sub-others.result ≡ length ss - 1 = omega (arith, c.saturating_sub-others.ensures, c.len.ensures, c.args.self.now.items.ok.0) in
    (λ j. live_of (c.truncate-2.ensures.keys j) (c.truncate.ensures.items j))
    ∙ ap (λ m. live_of (take m ks) (take m ss)) n
    ∙ live_of-others ks ss before last c.requires.beside is

pub returns-clause-stored : goal.returns-clause-stored
returns-clause-stored g c =
    rw (c.truncate-2.ensures.keys, c.truncate.ensures.items) (stored-take c.args.keys.now.keys c.args.self.now.items.items _ c.requires)
