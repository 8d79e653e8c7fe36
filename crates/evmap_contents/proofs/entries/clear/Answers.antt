use Rattle.std.proofs.Common.{[], sym, ap, ◌∙◌}
use Rattle.std.specs.Option.{option_copied_mut}
use Rattle.value_bags.specs.declared.bag.BagForm.TheVariants.{Short}
use Rattle.value_bags.specs.Bags as bags
use Rattle.value_bags.proofs.Changes.{written, added}
use Rattle.evmap_contents.proofs.entries.clear.Goals as goal

pub returns-in-Some-clause-cleared : goal.returns-in-Some-clause-cleared
returns-in-Some-clause-cleared g c =
    written g.K.PartialEq.eq g.K.KeyClone.plain g.K.KeyClone.same g.met.K.KeyClone.agrees c.args.key.now bags.cleared (Short []) c.args.map.now.entries
    (c.get_mut.follows.lender c.clear.new.self).entries c.in-Some.bag.now c.clear.new.self (c.get_mut.follows.holds c.clear.new.self).0 c.clear.ensures (sym c.get_mut.ensures.value ∙ ap option_copied_mut c.in-Some.is)

pub returns-clause-cleared : goal.returns-clause-cleared
returns-clause-cleared g c =
    added g.K.PartialEq.eq g.K.KeyClone.plain g.K.KeyClone.same g.met.K.KeyClone.agrees c.args.key.now bags.cleared (Short []) c.args.map.now.entries c.add_key.new.map.entries
    c.new-bag.result c.get_mut.follows.lender-at-none.entries c.in_ok-add_key.ensures.added c.new-bag.ensures (ap (λ m. m.entries) c.get_mut.follows.holds-at-none) (sym c.get_mut.ensures.value ∙ ap option_copied_mut c.in_default.is)
