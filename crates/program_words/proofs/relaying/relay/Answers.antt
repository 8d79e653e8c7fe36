use Rattle.std.proofs.Common.{List, map, subst}
use Rattle.page_relay.specs.Merge.{IsMerged}
use Rattle.page_relay.specs.Values.{families_of}
use Rattle.page_relay.specs.declared.pages.Page.{Page}
use Rattle.program_words.proofs.RelaySteps.{merged_printable, relay_leaves, relayed_whole}
use Rattle.program_words.proofs.relaying.relay.Goals as goal

pub write_page-requires : goal.write_page-requires
write_page-requires g c =
    let P : List Page → Type 0 = λ pages. IsMerged (map families_of pages) (families_of c.in_ok-page.page) in
    merged_printable c.args.bytes.now _ _ c.in_ok-pages.ensures.stream (subst P c.deref.ensures.value c.in_ok-page.ensures.merged)

pub returns-in-Ok-clause-relayed : goal.returns-in-Ok-clause-relayed
returns-in-Ok-clause-relayed g c =
    let P : List Page → Type 0 = λ pages. IsMerged (map families_of pages) (families_of c.in_ok-page.page) in
    relayed_whole c.args.bytes.now _ _ _ _ c.in_ok-pages.ensures.stream (subst P c.deref.ensures.value c.in_ok-page.ensures.merged) c.in-Ok.ensures.written

pub returns-clause-leaves : goal.returns-clause-leaves
returns-clause-leaves g c =
    let P : List Page → Type 0 = λ pages. IsMerged (map families_of pages) (families_of c.in_ok-page.page) in
    relay_leaves c.args.bytes.now _ _ _ _ _ _ c.in-Err.fault c.in_ok-pages.ensures.stream (subst P c.deref.ensures.value c.in_ok-page.ensures.merged) c.in-Err.ensures.refused c.in-Err.ensures.prefix
