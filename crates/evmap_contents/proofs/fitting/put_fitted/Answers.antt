use Rattle.std.proofs.Common.{rules, ◌≡◌, length, Some, None, ◌++◌, [], sym, ap, ◌∙◌}
use Rattle.std.specs.Option.{option_copied_mut, option_to_list, unwrap_or}
use Rattle.evmap_contents.proofs.Fitted.{turn, all_fitted}
use Rattle.evmap_contents.proofs.fitting.put_fitted.Goals as goal

pub loop-bag-preserved-in-Some-bag : goal.loop-bag-preserved-in-Some-bag
loop-bag-preserved-in-Some-bag g c =
    let at : c.len.result ≡ length c.pop.new.self.items = search rules in
    let t = turn c.args.entries.now.entries c.loop-bag.entries.entries c.loop-bag.fitted.items c.pop.new.self.items c.len.result c.in-Some.bag c.loop-bag.invariant (c.pop.ensures.items ∙ ap (λ o. c.pop.new.self.items ++ option_to_list o) c.in-Some.is) at in
    t.put c.in-Some-bag.short (ap (λ o. unwrap_or o t.bag) (sym c.in-Some-bag.is) ∙ t.stands)

pub loop-bag-preserved-in-None : goal.loop-bag-preserved-in-None
loop-bag-preserved-in-None g c =
    let at : c.len.result ≡ length c.pop.new.self.items = search rules in
    let t = turn c.args.entries.now.entries c.loop-bag.entries.entries c.loop-bag.fitted.items c.pop.new.self.items c.len.result c.in-Some.bag c.loop-bag.invariant (c.pop.ensures.items ∙ ap (λ o. c.pop.new.self.items ++ option_to_list o) c.in-Some.is) at in
    let seen : Some c.in-Some-get_index_mut.there.now ≡ Some t.bag = sym (ap option_copied_mut c.in-Some-get_index_mut.is) ∙ c.get_index_mut.ensures.value ∙ t.there in
    let here : c.in-Some-get_index_mut.there.now ≡ t.bag = cc in
    t.put c.shrink.new.self (c.shrink.ensures ∙ here ∙ ap (λ o. unwrap_or o t.bag) (sym c.in-None.is) ∙ t.stands)

pub loop-bag-preserved-in_default-get_index_mut : goal.loop-bag-preserved-in_default-get_index_mut
loop-bag-preserved-in_default-get_index_mut g c =
    let at : c.len.result ≡ length c.pop.new.self.items = search rules in
    let t = turn c.args.entries.now.entries c.loop-bag.entries.entries c.loop-bag.fitted.items c.pop.new.self.items c.len.result c.in-Some.bag c.loop-bag.invariant (c.pop.ensures.items ∙ ap (λ o. c.pop.new.self.items ++ option_to_list o) c.in-Some.is) at in
    absurd (let h : None ≡ Some t.bag = sym (ap option_copied_mut c.in_default-get_index_mut.is) ∙ c.get_index_mut.ensures.value ∙ t.there in cc)

pub loop-bag-preserved : goal.loop-bag-preserved
loop-bag-preserved g c =
    let at : c.len.result ≡ length c.pop.new.self.items = search rules in
    let t = turn c.args.entries.now.entries c.loop-bag.entries.entries c.loop-bag.fitted.items c.pop.new.self.items c.len.result c.in-Some.bag c.loop-bag.invariant (c.pop.ensures.items ∙ ap (λ o. c.pop.new.self.items ++ option_to_list o) c.in-Some.is) at in
    absurd (let h : None ≡ Some t.bag = sym (ap option_copied_mut c.in_default-get_index_mut.is) ∙ c.get_index_mut.ensures.value ∙ t.there in cc)

pub returns : goal.returns
returns g c =
    let empty : c.loop-bag.fitted.items ≡ [] = search rules in
    all_fitted c.args.entries.now.entries c.loop-bag.entries.entries c.loop-bag.fitted.items c.loop-bag.invariant empty
