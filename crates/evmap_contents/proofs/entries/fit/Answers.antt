use Rattle.std.proofs.Common.{sym, ap, ◌∙◌}
use Rattle.std.specs.Option.{option_copied_mut}
use Rattle.value_bags.specs.Bags as bags
use Rattle.value_bags.proofs.Changes.{kept}
use Rattle.evmap_contents.proofs.Altered.{on_err, altered, unaltered}
use Rattle.evmap_contents.proofs.entries.fit.Goals as goal

pub returns-in_err-fit-clause-refused : goal.returns-in_err-fit-clause-refused
returns-in_err-fit-clause-refused g c =
    on_err c.from_residual.result
    (kept (g.K.PartialEq.eq c.args.key.now) c.args.map.now.entries (c.get_mut.follows.lender c.fit.new.self).entries c.in-Some.bag.now c.fit.new.self (c.get_mut.follows.holds c.fit.new.self).0 c.in_err-fit.ensures.refused (sym c.get_mut.ensures.value ∙ ap option_copied_mut c.in-Some.is))

pub returns-in_ok-fit-clause-fitted : goal.returns-in_ok-fit-clause-fitted
returns-in_ok-fit-clause-fitted g c =
    altered g.K.PartialEq.eq g.K.KeyClone.plain g.K.KeyClone.same g.met.K.KeyClone.agrees c.args.key.now bags.fitted c.args.map.now.entries (c.get_mut.follows.lender c.fit.new.self).entries c.in-Some.bag.now c.fit.new.self (c.get_mut.follows.holds c.fit.new.self).0 c.in_ok-fit.ensures.fitted (sym c.get_mut.ensures.value ∙ ap option_copied_mut c.in-Some.is)

pub returns-in_default-clause-fitted : goal.returns-in_default-clause-fitted
returns-in_default-clause-fitted g c =
    unaltered g.K.PartialEq.eq g.K.KeyClone.plain g.K.KeyClone.same g.met.K.KeyClone.agrees c.args.key.now bags.fitted c.args.map.now.entries c.get_mut.follows.lender-at-none.entries (ap (λ m. m.entries) c.get_mut.follows.holds-at-none) (sym c.get_mut.ensures.value ∙ ap option_copied_mut c.in_default.is)
