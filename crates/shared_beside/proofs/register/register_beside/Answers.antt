use Rattle.shared_beside.proofs.Both.{both_made, one_refused}
use Rattle.shared_beside.proofs.register.register_beside.Goals as goal

pub returns-clause-registered : goal.returns-clause-registered
returns-clause-registered g c = both_made c.args.kind c.args.one c.args.other _ _ _ _ c.both_ids.result c.register_both-one.ensures.both c.both_ids.ensures.ok

pub returns-clause-refused : goal.returns-clause-refused
returns-clause-refused g c = one_refused c.args.kind c.args.one c.args.other _ _ _ _ c.both_ids.result c.register_both-one.ensures.both c.both_ids.ensures.refused
