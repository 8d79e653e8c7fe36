use Rattle.std.proofs.Common.{subst}
use Rattle.shared_turns.specs.Passes.{view_of}
use Rattle.dsd_exporter.specs.Exporter.{Exporter}
use Rattle.dsd_exporter.specs.Lending.{LendsGauge}
use Rattle.shared_flushes.proofs.Bare.{gauge_lent}
use Rattle.shared_flushes.proofs.Owning.{own_gauge}
use Rattle.shared_flushes.proofs.Standing.{no_call, during}
use Rattle.shared_flushes.proofs.state.SharedState.lend_gauge.Goals as goal

pub leave-requires-clause-value : goal.leave-requires-clause-value
leave-requires-clause-value g c =
    let y = c.lend_gauge.new.self in
    let lent = subst (λ (x : Exporter). LendsGauge c.args.id c.in-Ok.lent x y) c.deref_mut.ensures.value c.in-Ok.ensures.lent in
    no_call c.args.pass.now.seat.me c.enter-state.new.seat.me c.enter-state.result y c.enter-state.ensures.entered (gauge_lent c.args.id c.in-Ok.lent c.enter-state.result.value y lent)

pub returns-in-Ok-clause-lent : goal.returns-in-Ok-clause-lent
returns-in-Ok-clause-lent g c =
    let y = c.lend_gauge.new.self in
    let lent = subst (λ (x : Exporter). LendsGauge c.args.id c.in-Ok.lent x y) c.deref_mut.ensures.value c.in-Ok.ensures.lent in
    during (LendsGauge c.args.id c.in-Ok.lent) c.args.pass.now.seat.me c.enter-state.new.seat.me c.leave.new.seat.me c.enter-state.result y c.enter-state.ensures.entered
    (gauge_lent c.args.id c.in-Ok.lent c.enter-state.result.value y lent) c.leave.ensures.left lent

pub returns-in-Ok-clause-own : goal.returns-in-Ok-clause-own
returns-in-Ok-clause-own g c = λ own none.
    let y = c.lend_gauge.new.self in
    let e = c.enter-state.ensures.entered in
    let lent = subst (λ (x : Exporter). LendsGauge c.args.id c.in-Ok.lent x y) c.deref_mut.ensures.value c.in-Ok.ensures.lent in
    own_gauge (view_of c.args.pass.now) e.0 c.enter-state.result.value y c.args.id e.1 e.4 c.in-Ok.lent lent own none
