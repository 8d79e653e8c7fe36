use Rattle.std.proofs.Common.{rules, sym, ap, ◌∙◌, map}
use Rattle.std.specs.Arc.{arc_value}
use Rattle.std.proofs.lemmas.Fn.{filter_same}
use Rattle.value_bags.specs.declared.bag.BagForm.TheVariants.{Short, Long}
use Rattle.value_bags.specs.Stored.{bag_of}
use Rattle.value_bags.specs.Bags.{retained}
use Rattle.value_bags.proofs.Listed.{filter-seen}
use Rattle.value_bags.proofs.values.Values.retain.Goals as goal
use Rattle.value_bags.proofs.values.Values.retain.Goals.{in-Short, in-Long}

pub returns : goal.returns
returns g c =
    let keeps = g.P.Keep.keeps c.args.test.now in
    elim c.match-self.branch [
      | in-Short w ↦
          ap (λ it. bag_of it.form) w.self-inside-is
          ∙ ap Short (ap (map arc_value) (filter_same _ (λ item. keeps (arc_value item)) _ (λ x b q h. search rules) w.in-Short.items.items w.retain.new.self.items w.retain.ensures.filtered) ∙ filter-seen arc_value keeps w.in-Short.items.items)
          ∙ ap (λ f. retained keeps (bag_of f)) (sym w.in-Short.is) ∙ ap (retained keeps) c.self.view_is
      | in-Long w ↦ ap (λ it. bag_of it.form) w.self-inside-is ∙ ap Long w.retain-in-Long.ensures ∙ ap (λ f. retained keeps (bag_of f)) (sym w.in-Long.is) ∙ ap (retained keeps) c.self.view_is
    ]
