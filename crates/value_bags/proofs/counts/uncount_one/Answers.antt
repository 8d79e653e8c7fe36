use Rattle.std.proofs.Common.{ℕ, ◌-◌, refl, sym, ap, ◌∙◌, is_some}
use Rattle.std.specs.Arc.{arc_value}
use Rattle.std.specs.Option.{option_copied_mut}
use Rattle.indexmap.specs.IndexMap.{swap_remove_entry}
use Rattle.value_bags.specs.Entries.{with_keys}
use Rattle.value_bags.proofs.Changes.{alter-present, removed, kept, lookup-plain}
use Rattle.value_bags.proofs.Counted.{count_down-absent, count_down-lowered, count_down-gone}
use Rattle.value_bags.proofs.counts.uncount_one.Goals as goal

pub returns-in_default-clause-uncounted : goal.returns-in_default-clause-uncounted
returns-in_default-clause-uncounted g c =
    let eq = g.V.PartialEq.eq in
    let es = c.args.counts.now.entries in
    let none = sym (lookup-plain (λ a b. eq (arc_value a) (arc_value b)) arc_value eq (λ a b. refl) c.args.value.now es) ∙ sym c.get_mut.ensures.value ∙ ap option_copied_mut c.in_default.is in
    ap (λ m. with_keys arc_value m.entries) c.get_mut.follows.holds-at-none ∙ sym (count_down-absent eq (with_keys arc_value es) (arc_value c.args.value.now) none)

pub returns-in_default-clause-found : goal.returns-in_default-clause-found
returns-in_default-clause-found g c =
    let eq = g.V.PartialEq.eq in
    let es = c.args.counts.now.entries in
    sym (ap is_some (sym (lookup-plain (λ a b. eq (arc_value a) (arc_value b)) arc_value eq (λ a b. refl) c.args.value.now es) ∙ sym c.get_mut.ensures.value ∙ ap option_copied_mut c.in_default.is))

pub returns-then-count-gt1-clause-uncounted : goal.returns-then-count-gt1-clause-uncounted
returns-then-count-gt1-clause-uncounted g c =
    let eq = g.V.PartialEq.eq in
    let es = c.args.counts.now.entries in
    let n = c.in-Some.count.now in
    let some = sym c.get_mut.ensures.value ∙ ap option_copied_mut c.in-Some.is in
    let seen = sym (lookup-plain (λ a b. eq (arc_value a) (arc_value b)) arc_value eq (λ a b. refl) c.args.value.now es) ∙ some in
    ap (with_keys arc_value) (c.get_mut.follows.holds (n - 1)).0
    ∙ sym (alter-present (λ a b. eq (arc_value a) (arc_value b)) arc_value eq (λ a b. refl) c.args.value.now (λ (m : ℕ). m - 1) n es some)
    ∙ sym (count_down-lowered eq (with_keys arc_value es) (arc_value c.args.value.now) n seen c.if-count-gt1.true)

pub returns-then-count-gt1-clause-found : goal.returns-then-count-gt1-clause-found
returns-then-count-gt1-clause-found g c =
    let eq = g.V.PartialEq.eq in
    let es = c.args.counts.now.entries in
    sym (ap is_some (sym (lookup-plain (λ a b. eq (arc_value a) (arc_value b)) arc_value eq (λ a b. refl) c.args.value.now es) ∙ sym c.get_mut.ensures.value ∙ ap option_copied_mut c.in-Some.is))

pub returns-clause-uncounted : goal.returns-clause-uncounted
returns-clause-uncounted g c =
    let eq = g.V.PartialEq.eq in
    let es = c.args.counts.now.entries in
    let n = c.in-Some.count.now in
    let some = sym c.get_mut.ensures.value ∙ ap option_copied_mut c.in-Some.is in
    let seen = sym (lookup-plain (λ a b. eq (arc_value a) (arc_value b)) arc_value eq (λ a b. refl) c.args.value.now es) ∙ some in
    let same = kept (λ k. eq (arc_value c.args.value.now) (arc_value k)) es (c.get_mut.follows.lender n).entries n n (c.get_mut.follows.holds n).0 refl some in
    removed (λ a b. eq (arc_value a) (arc_value b)) arc_value eq (λ a b. refl) c.args.value.now (c.get_mut.follows.lender n).entries c.swap_remove.new.self.entries c.swap_remove.ensures.entries
    ∙ ap (λ l. swap_remove_entry (eq (arc_value c.args.value.now)) (with_keys arc_value l)) same
    ∙ sym (count_down-gone eq (with_keys arc_value es) (arc_value c.args.value.now) n seen c.if-count-gt1.false)

pub returns-clause-found : goal.returns-clause-found
returns-clause-found g c =
    let eq = g.V.PartialEq.eq in
    let es = c.args.counts.now.entries in
    sym (ap is_some (sym (lookup-plain (λ a b. eq (arc_value a) (arc_value b)) arc_value eq (λ a b. refl) c.args.value.now es) ∙ sym c.get_mut.ensures.value ∙ ap option_copied_mut c.in-Some.is))
