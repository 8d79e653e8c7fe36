use Rattle.std.proofs.Common.{◌≡◌, ◌↔◌, IsNone, IfSome, Contains, ap, sym, ◌∙◌, subst}
use Rattle.value_bags.specs.Bags.{bag_len, values_of}
use Rattle.value_bags.specs.Stored.{bag_of}
use Rattle.value_bags.proofs.Counted.{none_counted, first_counted}
use Rattle.value_bags.proofs.values.Values.get_one.Goals as goal

pub returns-in-Long-clause-empty : goal.returns-in-Long-clause-empty
returns-in-Long-clause-empty g c =
    subst (λ b. IsNone c.first-in-Long.result ↔ (bag_len b ≡ 0)) (ap bag_of (sym c.in-Long.is) ∙ c.self.view_is) (none_counted c.in-Long.counts c.first-in-Long.result c.first-in-Long.ensures.first c.first-in-Long.ensures.positive)

pub returns-in-Long-clause-held : goal.returns-in-Long-clause-held
returns-in-Long-clause-held g c =
    subst (λ b. IfSome c.first-in-Long.result (λ v. Contains (values_of b) v.now)) (ap bag_of (sym c.in-Long.is) ∙ c.self.view_is) (first_counted c.in-Long.counts c.first-in-Long.result c.first-in-Long.ensures.first c.first-in-Long.ensures.positive)
