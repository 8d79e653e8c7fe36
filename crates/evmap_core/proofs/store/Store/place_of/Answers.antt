use Rattle.std.proofs.Common.{ap, is_some, refl, ◌∙◌}
use Rattle.value_bags.proofs.Changes.{lookup-plain}
use Rattle.evmap_contents.specs.Views.{contents}
use Rattle.evmap_core.proofs.Places.{found-at}
use Rattle.evmap_core.proofs.store.Store.place_of.Goals as goal

pub returns-clause-bag : goal.returns-clause-bag
returns-clause-bag g c =
    let es = c.args.self.now.inner.map.entries in
    found-at g.K.KeyClone.plain (contents g.K.KeyClone.plain c.args.self.now.inner) es refl c.get_index_of.result _ c.get_index_of.ensures.found c.get_index_of.ensures.value
    ∙ lookup-plain g.K.PartialEq.eq g.K.KeyClone.plain g.K.KeyClone.same g.met.K.KeyClone.agrees c.args.key.now es

pub returns-clause-found : goal.returns-clause-found
returns-clause-found g c =
    c.get_index_of.ensures.found ∙ ap is_some (lookup-plain g.K.PartialEq.eq g.K.KeyClone.plain g.K.KeyClone.same g.met.K.KeyClone.agrees c.args.key.now c.args.self.now.inner.map.entries)
