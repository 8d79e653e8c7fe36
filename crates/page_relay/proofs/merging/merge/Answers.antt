use Rattle.std.proofs.Common.{rules, ◌≡◌, ◌+◌, false, true, ◌++◌, map, take, ap, sym, subst, ◌∙◌}
use Rattle.std.proofs.lemmas.List.{take_all}
use Rattle.page_relay.specs.Gathering.{FamiliesStand, TakesFamily}
use Rattle.page_relay.specs.Merge.{numbered, on_page}
use Rattle.page_relay.specs.Values.{families_of, family_of}
use Rattle.page_relay.proofs.Gathered.{families_merged}
use Rattle.page_relay.proofs.Numbering.{family_split, family_next, page_done}
use Rattle.page_relay.proofs.merging.merge.Goals as goal

pub returns-then-not-branch-clause-refused : goal.returns-then-not-branch-clause-refused
returns-then-not-branch-clause-refused c =
    let pages = c.args.pages.now in
    let i = c.loop-page.page-index in
    let page = c.loop-page.number + 1 in
    let families = c.deref-family-items.result.now in
    let j = c.loop-family.family-index in
    let family = c.family-item.result in
    let before = numbered (map families_of (take i pages)) ++ on_page page (map family_of (take j families)) in
    let stand = c.loop-family.invariant.1 in
    let split = family_split families_of family_of pages i c.page-item.result page families j family c.loop-page-test.true c.page-item.is c.loop-family.invariant.0 (ap (map family_of) (sym c.deref-family-items.ensures.value)) c.loop-family-test.true c.family-item.is in
    let unfit : c.in_ok-add.field-0 ≡ false = search rules in
    let refused = subst (TakesFamily c.loop-family.merging c.add.new.self (record { page = page; family = family_of family })) unfit c.in_ok-add.ensures in
    record {
      before = before;
      behind = split.0;
      family = family_of family;
      split = split.1;
      merges_before = stand.merges;
      refused = refused before stand;
      named = c.in_ok-name.ensures;
    }

pub loop-family-preserved : goal.loop-family-preserved
loop-family-preserved c =
    let pages = c.args.pages.now in
    let i = c.loop-page.page-index in
    let page = c.loop-page.number + 1 in
    let families = c.deref-family-items.result.now in
    let j = c.loop-family.family-index in
    let family = c.family-item.result in
    let before = numbered (map families_of (take i pages)) ++ on_page page (map family_of (take j families)) in
    let fits : c.in_ok-add.field-0 ≡ true = search rules in
    let taken = subst (TakesFamily c.loop-family.merging c.add.new.self (record { page = page; family = family_of family })) fits c.in_ok-add.ensures in
    (c.loop-family.invariant.0, subst (FamiliesStand c.add.new.self) (family_next families_of family_of pages i page families j family c.loop-family-test.true c.family-item.is) (taken before c.loop-family.invariant.1))

pub loop-page-preserved : goal.loop-page-preserved
loop-page-preserved c =
    let families = c.deref-family-items.result.now in
    let done = page_done families_of family_of c.args.pages.now c.loop-page.page-index c.page-item.result (c.loop-page.number + 1) families c.loop-family.family-index c.loop-page-test.true c.page-item.is c.loop-family.invariant.0 (ap (map family_of) (sym c.deref-family-items.ensures.value)) c.loop-family-test.false in
    (c.loop-family.invariant.0, subst (FamiliesStand c.loop-family.merging) done c.loop-family.invariant.1)

pub returns-clause-merged : goal.returns-clause-merged
returns-clause-merged c =
    let pages = c.args.pages.now in
    let stand = subst (λ l. FamiliesStand c.loop-page.merging (numbered (map families_of l))) (take_all c.loop-page.page-index pages c.loop-page-test.false) c.loop-page.invariant.1 in
    record { merges = stand.merges; are = c.in_ok-into_page.ensures ∙ families_merged c.loop-page.merging (numbered (map families_of pages)) stand }
