use Rattle.std.proofs.Common.{List, Bool, ◌≡◌, true, subst}
use Rattle.dsd_exporter.specs.State.{idle_at}
use Rattle.dsd_exporter.proofs.Counters.{passed_over}
use Rattle.dsd_exporter.proofs.state.State.flush_counter.Goals as goal

pub returns-then-pass_over_counter-clause-flushed : goal.returns-then-pass_over_counter-clause-flushed
returns-then-pass_over_counter-clause-flushed g c =
    let taken = c.if-pass_over_counter.ensures.taken in
    let idle = subst (λ (marks : List Bool). idle_at marks c.args.place ≡ true) c.as_slice.ensures.value taken.0 in
    passed_over c.args.self.now.settings c.args.moment c.args.place _ _ c.args.marks.now.items c.args.writer.now c.args.telemetry.now taken.1 taken.2 taken.3 taken.4 idle
