use Rattle.std.proofs.Common.{[], ◌∷◌, sym, ap, ◌∙◌}
use Rattle.std.specs.Arc.{arc_value}
use Rattle.std.specs.Option.{option_copied_mut}
use Rattle.value_bags.specs.declared.bag.BagForm.TheVariants.{Short}
use Rattle.value_bags.specs.Bags as bags
use Rattle.value_bags.proofs.Changes.{written, added, kept}
use Rattle.evmap_contents.proofs.Altered.{on_err}
use Rattle.evmap_contents.proofs.entries.insert.Goals as goal

pub returns-in_err-push-clause-refused : goal.returns-in_err-push-clause-refused
returns-in_err-push-clause-refused g c =
    on_err c.from_residual.result
    (kept (g.K.PartialEq.eq c.args.key.now) c.args.map.now.entries (c.get_mut.follows.lender c.push.new.self).entries c.in-Some.bag.now c.push.new.self (c.get_mut.follows.holds c.push.new.self).0 c.in_err-push.ensures.refused (sym c.get_mut.ensures.value ∙ ap option_copied_mut c.in-Some.is))

pub returns-in-Some-clause-inserted : goal.returns-in-Some-clause-inserted
returns-in-Some-clause-inserted g c =
    written g.K.PartialEq.eq g.K.KeyClone.plain g.K.KeyClone.same g.met.K.KeyClone.agrees c.args.key.now (λ bag. bags.pushed g.V.PartialEq.eq bag (arc_value c.args.value.now)) (Short (arc_value c.args.value.now ∷ [])) c.args.map.now.entries
    (c.get_mut.follows.lender c.push.new.self).entries c.in-Some.bag.now c.push.new.self (c.get_mut.follows.holds c.push.new.self).0 c.in_ok-push.ensures.pushed (sym c.get_mut.ensures.value ∙ ap option_copied_mut c.in-Some.is)

pub returns-clause-inserted : goal.returns-clause-inserted
returns-clause-inserted g c =
    added g.K.PartialEq.eq g.K.KeyClone.plain g.K.KeyClone.same g.met.K.KeyClone.agrees c.args.key.now (λ bag. bags.pushed g.V.PartialEq.eq bag (arc_value c.args.value.now)) (Short (arc_value c.args.value.now ∷ [])) c.args.map.now.entries c.add_key.new.map.entries
    c.in_ok-bag.bag c.get_mut.follows.lender-at-none.entries c.in_ok-add_key.ensures.added c.in_ok-bag.ensures (ap (λ m. m.entries) c.get_mut.follows.holds-at-none) (sym c.get_mut.ensures.value ∙ ap option_copied_mut c.in_default.is)
