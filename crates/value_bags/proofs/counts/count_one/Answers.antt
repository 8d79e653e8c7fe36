use Rattle.std.proofs.Common.{arith, ℕ, ◌+◌, refl, sym, ap, ◌∙◌}
use Rattle.std.specs.Arc.{arc_value}
use Rattle.std.specs.Map.{lookup}
use Rattle.std.specs.Option.{option_copied_mut}
use Rattle.value_bags.specs.Entries.{with_keys}
use Rattle.value_bags.proofs.Changes.{written, added, copy-last, lookup-plain}
use Rattle.value_bags.proofs.Counted.{lookup-le-total}
use Rattle.value_bags.proofs.counts.count_one.Goals as goal

pub overflow_add-count : goal.overflow_add-count
overflow_add-count g c =
    let es = c.args.counts.now.entries in
    let bound = lookup-le-total (g.V.PartialEq.eq (arc_value c.args.value.now)) (with_keys arc_value es) c.in-Some.count.now (sym (lookup-plain (λ a b. g.V.PartialEq.eq (arc_value a) (arc_value b)) arc_value g.V.PartialEq.eq (λ a b. refl) c.args.value.now es) ∙ sym c.get_mut.ensures.value ∙ ap option_copied_mut c.in-Some.is) in
    let small = c.requires in
    omega arith

pub returns-in-Some-clause-counted : goal.returns-in-Some-clause-counted
returns-in-Some-clause-counted g c =
    written (λ a b. g.V.PartialEq.eq (arc_value a) (arc_value b)) arc_value g.V.PartialEq.eq (λ a b. refl) c.args.value.now (λ (n : ℕ). n + 1) 1 c.args.counts.now.entries (c.get_mut.follows.lender (c.in-Some.count.now + 1)).entries
    c.in-Some.count.now (c.in-Some.count.now + 1) (c.get_mut.follows.holds (c.in-Some.count.now + 1)).0 refl (sym c.get_mut.ensures.value ∙ ap option_copied_mut c.in-Some.is)

pub returns-clause-counted : goal.returns-clause-counted
returns-clause-counted g c =
    let eq = g.V.PartialEq.eq in
    let es = c.get_mut.follows.lender-at-none.entries in
    let none = ap (λ m. lookup (λ k. eq (arc_value c.args.value.now) (arc_value k)) m.entries) c.get_mut.follows.holds-at-none ∙ sym c.get_mut.ensures.value ∙ ap option_copied_mut c.in_default.is in
    added (λ a b. eq (arc_value a) (arc_value b)) arc_value eq (λ a b. refl) c.args.value.now (λ (n : ℕ). n + 1) 1 c.args.counts.now.entries c.insert.new.self.entries 1 es
    (copy-last (λ a b. eq (arc_value a) (arc_value b)) arc_value eq (λ a b. refl) c.args.value.now c.in_ok-shared.shared 1 es c.insert.new.self.entries c.in_ok-insert.ensures.entries c.in_ok-shared.ensures none)
    refl (ap (λ m. m.entries) c.get_mut.follows.holds-at-none) (sym c.get_mut.ensures.value ∙ ap option_copied_mut c.in_default.is)
