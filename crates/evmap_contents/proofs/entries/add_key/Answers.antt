use Rattle.value_bags.proofs.Changes.{copy-last}
use Rattle.evmap_contents.proofs.entries.add_key.Goals as goal

pub returns-clause-added : goal.returns-clause-added
returns-clause-added g c = copy-last g.K.PartialEq.eq g.K.KeyClone.plain g.K.KeyClone.same g.met.K.KeyClone.agrees c.args.key.now c.in-Ok.key c.args.bag c.args.map.now.entries c.insert.new.self.entries c.in_ok-insert.ensures.entries c.in-Ok.ensures c.requires
