use Rattle.std.proofs.Common.{subst}
use Rattle.metrics_registry.specs.Live.{IsNumbered}
use Rattle.shared_turns.specs.Passes.{view_of}
use Rattle.prom_exporter.specs.Exporter.{Exporter}
use Rattle.prom_exporter.specs.Lending.{LendsHistogram}
use Rattle.shared_recorder.proofs.Setups.{histogram_setup}
use Rattle.shared_recorder.proofs.Owning.{own_histogram}
use Rattle.shared_recorder.proofs.Fitting.{histogram_fits}
use Rattle.shared_recorder.proofs.Standing.{no_call, lent_to}
use Rattle.shared_recorder.proofs.recorder.SharedRecorder.lend_histogram.Goals as goal

pub leave-requires-clause-value : goal.leave-requires-clause-value
leave-requires-clause-value g c =
    let y = c.lend_histogram.new.self in
    let lent = subst (λ (x : Exporter). LendsHistogram c.args.id c.in-Ok.lent x y) c.deref_mut.ensures.value c.in-Ok.ensures.lent in
    let l = histogram_setup c.args.id c.in-Ok.lent c.enter-state.result.value y lent in
    no_call c.args.pass.now.seat.me c.enter-state.new.seat.me c.enter-state.result y c.enter-state.ensures.entered l.0 l.1

pub returns-in-Ok-clause-lent : goal.returns-in-Ok-clause-lent
returns-in-Ok-clause-lent g c =
    let y = c.lend_histogram.new.self in
    let lent = subst (λ (x : Exporter). LendsHistogram c.args.id c.in-Ok.lent x y) c.deref_mut.ensures.value c.in-Ok.ensures.lent in
    let l = histogram_setup c.args.id c.in-Ok.lent c.enter-state.result.value y lent in
    lent_to (LendsHistogram c.args.id c.in-Ok.lent) c.args.pass.now.seat.me c.enter-state.new.seat.me c.leave.new.seat.me c.enter-state.result y c.enter-state.ensures.entered l.0 l.1 c.leave.ensures.left lent

pub returns-in-Ok-clause-fits : goal.returns-in-Ok-clause-fits
returns-in-Ok-clause-fits g c = histogram_fits c.args.id c.in-Ok.lent c.deref_mut.result.now c.lend_histogram.new.self c.in-Ok.ensures.lent

pub returns-in-Ok-clause-own : goal.returns-in-Ok-clause-own
returns-in-Ok-clause-own g c = λ o none.
    let y = c.lend_histogram.new.self in
    let e = c.enter-state.ensures.entered in
    let lent = subst (λ (x : Exporter). LendsHistogram c.args.id c.in-Ok.lent x y) c.deref_mut.ensures.value c.in-Ok.ensures.lent in
    let numbered = subst (λ (x : Exporter). IsNumbered x.series) c.deref_mut.ensures.value c.lend_histogram.ensures.numbered in
    own_histogram (view_of c.args.pass.now) e.0 c.enter-state.result.value y c.args.id e.1 e.4 numbered c.in-Ok.lent lent o none
