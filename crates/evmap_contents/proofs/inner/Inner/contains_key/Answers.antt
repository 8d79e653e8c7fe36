use Rattle.std.proofs.Common.{ap, is_some, ◌∙◌}
use Rattle.value_bags.proofs.Changes.{lookup-plain}
use Rattle.evmap_contents.proofs.inner.Inner.contains_key.Goals as goal

pub returns : goal.returns
returns g c = c.contains_key.ensures ∙ ap is_some (lookup-plain g.K.PartialEq.eq g.K.KeyClone.plain g.K.KeyClone.same g.met.K.KeyClone.agrees c.args.key.now c.args.self.now.map.entries)
