use Rattle.std.proofs.Common.{ap, sym, ◌∙◌}
use Rattle.evmap_contents.specs.Views.{contents}
use Rattle.evmap_core.specs.Asked.{bag_at}
use Rattle.evmap_core.proofs.Places.{entry-at}
use Rattle.evmap_core.proofs.store.Store.bag_at.Goals as goal

pub returns-in-Some-get_index : goal.returns-in-Some-get_index
returns-in-Some-get_index g c =
    entry-at g.K.KeyClone.plain c.args.self.now.inner.map.entries c.in-Some.place _ c.in-Some-get_index.ensures.entry ∙ ap (bag_at (contents g.K.KeyClone.plain c.args.self.now.inner)) (sym c.in-Some.is)

pub returns-in-None-get_index : goal.returns-in-None-get_index
returns-in-None-get_index g c =
    entry-at g.K.KeyClone.plain c.args.self.now.inner.map.entries c.in-Some.place _ c.in-None-get_index.ensures.entry ∙ ap (bag_at (contents g.K.KeyClone.plain c.args.self.now.inner)) (sym c.in-Some.is)
