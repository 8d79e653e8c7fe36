use Rattle.std.proofs.Common.{◌<◌, length, ap, sym, subst, ◌∙◌}
use Rattle.std.specs.Prelude.{◌&&◌, ◌==◌}
use Rattle.dsd_exporter.specs.State.{idle_at}
use Rattle.dsd_exporter.specs.Exporter.{Exporter}
use Rattle.dsd_exporter.specs.Flushing.{with_mark}
use Rattle.dsd_exporter.proofs.Taken.{length-with}
use Rattle.dsd_exporter.proofs.Counters.{flushed_idle, flushed_sent, counter_room}
use Rattle.dsd_exporter.proofs.state.State.take_and_write_counter.Goals as goal

pub returns-then-is_skipped-clause-flushed : goal.returns-then-is_skipped-clause-flushed
returns-then-is_skipped-clause-flushed g c =
    let taken = c.take_counter-delta.ensures.taken in
    let marks = c.args.marks.now.items in
    let was = c.replace_mark-was_idle.ensures.was ∙ ap (λ l. idle_at l c.args.place) c.in_ok-reserve_mark.ensures.same in
    let marked = c.replace_mark-was_idle.ensures.marked ∙ ap (with_mark c.args.place _) c.in_ok-reserve_mark.ensures.same in
    flushed_idle c.args.self.now.settings c.args.moment c.args.place _ _ marks _ _ _ _ taken.0 c.take_counter-delta.result taken.1 taken.2 marked c.in_ok-reserve_counter.ensures.settings c.in_ok-reserve_counter.ensures.lines
    (ap (λ b. (c.take_counter-delta.result.1 == 0) && b) (sym was) ∙ sym c.is_skipped.ensures ∙ c.if-is_skipped.true)

pub write_counter-written-requires-clause-here : goal.write_counter-written-requires-clause-here
write_counter-written-requires-clause-here g c =
    let taken = c.take_counter-delta.ensures.taken in
    subst (λ n. c.args.place < n) (sym (ap length taken.2.4 ∙ length-with c.args.self.now.series.counters c.args.place taken.2.1)) c.requires

pub write_counter-written-requires-clause-room : goal.write_counter-written-requires-clause-room
write_counter-written-requires-clause-room g c =
    let taken = c.take_counter-delta.ensures.taken in
    counter_room c.args.moment c.args.place c.args.self.now c.take_counter-delta.new.self c.args.writer.now c.reserve_counter.new.writer taken.2.1 taken.2.4 c.take_counter-delta.ensures.others c.in_ok-reserve_counter.ensures.settings
    c.in_ok-reserve_counter.ensures.room

pub returns-clause-flushed : goal.returns-clause-flushed
returns-clause-flushed g c =
    let taken = c.take_counter-delta.ensures.taken in
    let marks = c.args.marks.now.items in
    let was = c.replace_mark-was_idle.ensures.was ∙ ap (λ l. idle_at l c.args.place) c.in_ok-reserve_mark.ensures.same in
    let marked = c.replace_mark-was_idle.ensures.marked ∙ ap (with_mark c.args.place _) c.in_ok-reserve_mark.ensures.same in
    flushed_sent c.args.self.now.settings c.args.moment c.args.place _ _ marks _ _ _ _ taken.0 c.take_counter-delta.result taken.1 taken.2 marked c.in_ok-reserve_counter.ensures.settings c.in_ok-reserve_counter.ensures.lines
    (ap (λ b. (c.take_counter-delta.result.1 == 0) && b) (sym was) ∙ sym c.is_skipped.ensures ∙ c.if-is_skipped.false)
    _ _ c.write_counter-written.result _ (ap (λ (e : Exporter). e.settings) c.take_counter-delta.ensures.others) c.write_counter-written.ensures c.count_number.ensures
