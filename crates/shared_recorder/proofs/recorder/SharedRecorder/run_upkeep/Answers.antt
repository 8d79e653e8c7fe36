use Rattle.std.proofs.Common.{◌≡◌, ◌∙◌, subst}
use Rattle.shared_turns.specs.Turns.{Counted}
use Rattle.prom_exporter.specs.Exporter.{Exporter}
use Rattle.prom_exporter.specs.Stepped.{DrainsEach, DrainsInPart, KeepsUp}
use Rattle.shared_recorder.specs.declared.entries.RecorderEntry.TheVariants.{Page}
use Rattle.shared_recorder.specs.Setup.{gone_of}
use Rattle.shared_recorder.proofs.Paging.{kept_page, drains_setup}
use Rattle.shared_recorder.proofs.Standing.{no_call, after_page, paged}
use Rattle.shared_recorder.proofs.recorder.SharedRecorder.run_upkeep.Goals as goal

pub leave-requires-clause-value : goal.leave-requires-clause-value
leave-requires-clause-value g c =
    let x = c.enter-state.result.value in
    let y = c.keep_up.new.self in
    let counted = subst (λ en. Counted en c.enter-state.new.seat.me c.count_page.new.seat.me) (λ j. Page (gone_of ((c.of-before.ensures ∙ c.deref.ensures) j) (c.deref-in-Ok.ensures j))) c.count_page.ensures.counted in
    let kept = subst (λ (z : Exporter). KeepsUp z y) c.deref_mut.ensures.value c.in-Ok.ensures.kept in
    after_page c.args.pass.now.seat.me c.enter-state.new.seat.me c.count_page.new.seat.me c.enter-state.result y c.enter-state.ensures.entered counted (kept_page x y kept)

pub returns-in-Ok-clause-kept : goal.returns-in-Ok-clause-kept
returns-in-Ok-clause-kept g c =
    let x = c.enter-state.result.value in
    let y = c.keep_up.new.self in
    let counted = subst (λ en. Counted en c.enter-state.new.seat.me c.count_page.new.seat.me) (λ j. Page (gone_of ((c.of-before.ensures ∙ c.deref.ensures) j) (c.deref-in-Ok.ensures j))) c.count_page.ensures.counted in
    let kept = subst (λ (z : Exporter). KeepsUp z y) c.deref_mut.ensures.value c.in-Ok.ensures.kept in (
      y,
      paged KeepsUp c.args.pass.now.seat.me c.enter-state.new.seat.me c.count_page.new.seat.me c.leave.new.seat.me c.enter-state.result y c.enter-state.ensures.entered counted c.leave.ensures.left (kept_page x y kept) kept,
    )

pub refuse-requires-clause-value : goal.refuse-requires-clause-value
refuse-requires-clause-value g c =
    let y = c.keep_up.new.self in
    let drains = subst (λ (x : Exporter). DrainsEach DrainsInPart x y) c.deref_mut.ensures.value c.in-Err.ensures.refused in
    let d = drains_setup DrainsInPart c.enter-state.result.value y drains in
    no_call c.args.pass.now.seat.me c.enter-state.new.seat.me c.enter-state.result y c.enter-state.ensures.entered d.0 d.1
