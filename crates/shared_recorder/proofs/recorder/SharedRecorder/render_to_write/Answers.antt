use Rattle.std.proofs.Common.{◌⊎◌, ◌≡◌, ◌∙◌, inr, subst}
use Rattle.metrics_core.specs.Outside.{GrewBy, GrewByPrefix}
use Rattle.metrics_registry.specs.Live.{IsNumbered}
use Rattle.shared_turns.specs.Passes.{view_of, Waits}
use Rattle.shared_turns.specs.Turns.{Counted}
use Rattle.prom_exporter.specs.Exporter.{Exporter}
use Rattle.prom_exporter.specs.Stepped.{DrainsEach, DrainsInPart}
use Rattle.shared_recorder.specs.declared.entries.RecorderEntry.TheVariants.{Page}
use Rattle.shared_recorder.specs.Setup.{gone_of}
use Rattle.shared_recorder.specs.Pages.{MakesPage, MakesPart, Paged}
use Rattle.shared_recorder.proofs.Paging.{IsPage, page_setup, drains_setup}
use Rattle.shared_recorder.proofs.Standing.{no_call, after_page, paged, on_ok_both, on_err_then}
use Rattle.shared_recorder.proofs.recorder.SharedRecorder.render_to_write.Goals as goal

pub leave-requires-clause-value : goal.leave-requires-clause-value
leave-requires-clause-value g c =
    let x = c.enter-state.result.value in
    let y = c.page.new.self in
    let counted = subst (λ en. Counted en c.enter-state.new.seat.me c.count_page.new.seat.me) (λ j. Page (gone_of ((c.of-before.ensures ∙ c.deref.ensures) j) (c.deref-in-Ok.ensures j))) c.count_page.ensures.counted in
    let numbered = subst (λ (z : Exporter). IsNumbered z.series) c.deref_mut.ensures.value c.page.ensures.numbered in
    let part = subst (λ (z : Exporter). MakesPart c.args.moment z y) c.deref_mut.ensures.value c.in-Ok.ensures.part in
    after_page c.args.pass.now.seat.me c.enter-state.new.seat.me c.count_page.new.seat.me c.enter-state.result y c.enter-state.ensures.entered counted (page_setup c.args.moment x y numbered part)

pub returns-in-Ok-clause-page : goal.returns-in-Ok-clause-page
returns-in-Ok-clause-page g c =
    let x = c.enter-state.result.value in
    let y = c.page.new.self in
    let counted = subst (λ en. Counted en c.enter-state.new.seat.me c.count_page.new.seat.me) (λ j. Page (gone_of ((c.of-before.ensures ∙ c.deref.ensures) j) (c.deref-in-Ok.ensures j))) c.count_page.ensures.counted in
    let numbered = subst (λ (z : Exporter). IsNumbered z.series) c.deref_mut.ensures.value c.page.ensures.numbered in
    let part = subst (λ (z : Exporter). MakesPart c.args.moment z y) c.deref_mut.ensures.value c.in-Ok.ensures.part in
    let is = page_setup c.args.moment x y numbered part in
    on_ok_both (MakesPage c.args.moment c.deref_mut.result.now y) _ _ c.in-Ok.page c.in-Ok.ensures.page c.in-Ok.ensures.body (λ did grew. (
      y,
      paged (MakesPage c.args.moment) c.args.pass.now.seat.me c.enter-state.new.seat.me c.count_page.new.seat.me c.leave.new.seat.me c.enter-state.result y c.enter-state.ensures.entered counted c.leave.ensures.left is
          (subst (λ (z : Exporter). MakesPage c.args.moment z y) c.deref_mut.ensures.value did),
      grew,
    ))

pub returns-in-Ok-clause-refused : goal.returns-in-Ok-clause-refused
returns-in-Ok-clause-refused g c =
    let x = c.enter-state.result.value in
    let y = c.page.new.self in
    let counted = subst (λ en. Counted en c.enter-state.new.seat.me c.count_page.new.seat.me) (λ j. Page (gone_of ((c.of-before.ensures ∙ c.deref.ensures) j) (c.deref-in-Ok.ensures j))) c.count_page.ensures.counted in
    let numbered = subst (λ (z : Exporter). IsNumbered z.series) c.deref_mut.ensures.value c.page.ensures.numbered in
    let part = subst (λ (z : Exporter). MakesPart c.args.moment z y) c.deref_mut.ensures.value c.in-Ok.ensures.part in
    let is = page_setup c.args.moment x y numbered part in
    on_err_then _ _ c.in-Ok.page c.in-Ok.ensures.prefix (λ grew. inr (
      y,
      paged (MakesPart c.args.moment) c.args.pass.now.seat.me c.enter-state.new.seat.me c.count_page.new.seat.me c.leave.new.seat.me c.enter-state.result y c.enter-state.ensures.entered counted c.leave.ensures.left is part,
      grew,
    ))

pub refuse-requires-clause-value : goal.refuse-requires-clause-value
refuse-requires-clause-value g c =
    let y = c.page.new.self in
    let drains = subst (λ (x : Exporter). DrainsEach DrainsInPart x y) c.deref_mut.ensures.value c.in-Err.ensures.refused.0 in
    let d = drains_setup DrainsInPart c.enter-state.result.value y drains in
    no_call c.args.pass.now.seat.me c.enter-state.new.seat.me c.enter-state.result y c.enter-state.ensures.entered d.0 d.1
