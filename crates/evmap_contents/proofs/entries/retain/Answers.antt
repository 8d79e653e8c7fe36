use Rattle.std.proofs.Common.{sym, ap, ◌∙◌}
use Rattle.std.specs.Option.{option_copied_mut}
use Rattle.value_bags.specs.Bags as bags
use Rattle.evmap_contents.proofs.Altered.{altered, unaltered}
use Rattle.evmap_contents.proofs.entries.retain.Goals as goal

pub returns-in-Some : goal.returns-in-Some
returns-in-Some g c =
    altered g.K.PartialEq.eq g.K.KeyClone.plain g.K.KeyClone.same g.met.K.KeyClone.agrees c.args.key.now (bags.retained (g.P.Keep.keeps c.args.test.now)) c.args.map.now.entries (c.get_mut.follows.lender c.retain.new.self).entries c.in-Some.bag.now c.retain.new.self (c.get_mut.follows.holds c.retain.new.self).0 c.retain.ensures (sym c.get_mut.ensures.value ∙ ap option_copied_mut c.in-Some.is)

pub returns-in_default : goal.returns-in_default
returns-in_default g c =
    unaltered g.K.PartialEq.eq g.K.KeyClone.plain g.K.KeyClone.same g.met.K.KeyClone.agrees c.args.key.now (bags.retained (g.P.Keep.keeps c.args.test.now)) c.args.map.now.entries c.get_mut.follows.lender-at-none.entries (ap (λ m. m.entries) c.get_mut.follows.holds-at-none) (sym c.get_mut.ensures.value ∙ ap option_copied_mut c.in_default.is)
