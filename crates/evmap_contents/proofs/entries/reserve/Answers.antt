use Rattle.std.proofs.Common.{sym, ap, ◌∙◌}
use Rattle.std.specs.Option.{option_copied_mut}
use Rattle.value_bags.specs.Bags as bags
use Rattle.value_bags.proofs.Changes.{written, added, kept}
use Rattle.evmap_contents.proofs.Altered.{on_err}
use Rattle.evmap_contents.proofs.entries.reserve.Goals as goal

pub returns-in_err-reserve-clause-refused : goal.returns-in_err-reserve-clause-refused
returns-in_err-reserve-clause-refused g c =
    on_err c.from_residual.result
    (kept (g.K.PartialEq.eq c.args.key.now) c.args.map.now.entries (c.get_mut.follows.lender c.reserve.new.self).entries c.in-Some.bag.now c.reserve.new.self (c.get_mut.follows.holds c.reserve.new.self).0 c.in_err-reserve.ensures.refused (sym c.get_mut.ensures.value ∙ ap option_copied_mut c.in-Some.is))

pub returns-in-Some-clause-reserved : goal.returns-in-Some-clause-reserved
returns-in-Some-clause-reserved g c =
    written g.K.PartialEq.eq g.K.KeyClone.plain g.K.KeyClone.same g.met.K.KeyClone.agrees c.args.key.now (bags.reserved g.V.PartialEq.eq c.args.additional) (bags.roomy c.args.additional) c.args.map.now.entries
    (c.get_mut.follows.lender c.reserve.new.self).entries c.in-Some.bag.now c.reserve.new.self (c.get_mut.follows.holds c.reserve.new.self).0 c.in_ok-reserve.ensures.reserved (sym c.get_mut.ensures.value ∙ ap option_copied_mut c.in-Some.is)

pub returns-clause-reserved : goal.returns-clause-reserved
returns-clause-reserved g c =
    added g.K.PartialEq.eq g.K.KeyClone.plain g.K.KeyClone.same g.met.K.KeyClone.agrees c.args.key.now (bags.reserved g.V.PartialEq.eq c.args.additional) (bags.roomy c.args.additional) c.args.map.now.entries c.add_key.new.map.entries
    c.in_ok-bag.bag c.get_mut.follows.lender-at-none.entries c.in_ok-add_key.ensures.added c.in_ok-bag.ensures (ap (λ m. m.entries) c.get_mut.follows.holds-at-none) (sym c.get_mut.ensures.value ∙ ap option_copied_mut c.in_default.is)
