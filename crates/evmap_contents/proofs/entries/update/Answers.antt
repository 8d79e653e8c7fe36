use Rattle.std.proofs.Common.{[], ◌∷◌, sym, ap, ◌∙◌}
use Rattle.std.specs.Arc.{arc_value}
use Rattle.std.specs.Option.{option_copied_mut}
use Rattle.value_bags.specs.declared.bag.BagForm.TheVariants.{Short}
use Rattle.value_bags.proofs.Changes.{written, added}
use Rattle.evmap_contents.proofs.entries.update.Goals as goal

pub returns-in-Some-clause-updated : goal.returns-in-Some-clause-updated
returns-in-Some-clause-updated g c =
    written g.K.PartialEq.eq g.K.KeyClone.plain g.K.KeyClone.same g.met.K.KeyClone.agrees c.args.key.now (λ _. Short (arc_value c.args.value.now ∷ [])) (Short (arc_value c.args.value.now ∷ [])) c.args.map.now.entries
    (c.get_mut.follows.lender c.in_ok-bag.bag).entries c.in-Some.there.now c.in_ok-bag.bag (c.get_mut.follows.holds c.in_ok-bag.bag).0 c.in_ok-bag.ensures (sym c.get_mut.ensures.value ∙ ap option_copied_mut c.in-Some.is)

pub returns-clause-updated : goal.returns-clause-updated
returns-clause-updated g c =
    added g.K.PartialEq.eq g.K.KeyClone.plain g.K.KeyClone.same g.met.K.KeyClone.agrees c.args.key.now (λ _. Short (arc_value c.args.value.now ∷ [])) (Short (arc_value c.args.value.now ∷ [])) c.args.map.now.entries c.add_key.new.map.entries
    c.in_ok-bag.bag c.get_mut.follows.lender-at-none.entries c.in_ok-add_key.ensures.added c.in_ok-bag.ensures (ap (λ m. m.entries) c.get_mut.follows.holds-at-none) (sym c.get_mut.ensures.value ∙ ap option_copied_mut c.in_default.is)
