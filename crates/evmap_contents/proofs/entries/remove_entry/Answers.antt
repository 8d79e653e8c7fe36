use Rattle.value_bags.proofs.Changes.{removed}
use Rattle.evmap_contents.proofs.entries.remove_entry.Goals as goal

pub returns : goal.returns
returns g c = removed g.K.PartialEq.eq g.K.KeyClone.plain g.K.KeyClone.same g.met.K.KeyClone.agrees c.args.key.now c.args.map.now.entries c.swap_remove.new.self.entries c.swap_remove.ensures.entries
