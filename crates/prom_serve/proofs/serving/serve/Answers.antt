use Rattle.std.proofs.Common.{◌≡◌, ◌≤◌, Bool, true, false, Result, Ok, Err, ap, subst, refl, arith}
use Rattle.std.specs.Prelude.{IfErr, option_copied, if◌then◌else◌}
use Rattle.std.specs.Result.{IsErrAnd}
use Rattle.std.specs.Int.{from_bool}
use Rattle.prom_serve.specs.Refusals.{excepted}
use Rattle.prom_serve.specs.Serving.{Listening, Serves}
use Rattle.prom_serve.proofs.Accepted.{none_accepted, served_next, refused_by, renders_home, serves, counted_more}
use Rattle.prom_serve.proofs.serving.serve.Goals as goal

on_err : {A E : Type 0} (P : E → Type 0) (r : Result A E) → ((e : E) → P e) → IfErr r P
on_err P (Ok a) f = tt
on_err P (Err e) f = f e

at_err : {A E : Type 0} (P Q : E → Type 0) (r : Result A E) → IsErrAnd r P → ((e : E) → P e → Q e) → IfErr r Q
at_err P Q (Ok a) h f = tt
at_err P Q (Err e) h f = f e h

at_most_one : (b : Bool) → from_bool b ≤ 1
at_most_one true = omega arith
at_most_one false = omega arith

as_number : (b : Bool) → from_bool b ≡ (if b then 1 else 0)
as_number true = refl
as_number false = refl

pub loop-accepted-preserved : goal.loop-accepted-preserved
loop-accepted-preserved g c =
    let before = c.loop-accepted.invariant in
    let next = c.in_ok-has_failed.ensures in
    record {
      few = omega (arith, c.from-failed.ensures, at_most_one c.in_ok-has_failed.has_failed);
      lost = rw (c.from-failed.ensures, as_number c.in_ok-has_failed.has_failed) (counted_more _ _ _ _ _ before.lost next.lost);
      served = served_next _ _ _ _ _ _ _ _ _ before.served next.served;
      never_falls = omega (arith, next.never_falls);
    }

pub returns-in_err-room-clause-refused : goal.returns-in_err-room-clause-refused
returns-in_err-room-clause-refused g c =
    let start : Listening = record { given = g.N.Listener.given c.args.listener.now; finished = g.N.Listener.finished c.args.listener.now } in
    let exporter = c.args.state.now in
    let networks = option_copied c.args.allowed in
    on_err _ c.from_residual.result (λ error. (
      0,
      omega arith,
      serves networks c.args.moment 0 (excepted error) exporter exporter start start (none_accepted networks c.args.moment (excepted error) exporter start),
    ))

pub returns-in_err-has_failed-clause-refused : goal.returns-in_err-has_failed-clause-refused
returns-in_err-has_failed-clause-refused g c =
    let next = c.in_err-has_failed.ensures in
    at_err _ _ c.from_residual-in_err-has_failed.result c.from_residual-in_err-has_failed.ensures.1 (λ error is.
    let same : error ≡ c.in_err-has_failed.field-0.0 = is in
    rw same (refused_by _ _ _ _ _ _ _ _ _ c.in_err-has_failed.field-0.0 c.args.count c.loop-accepted-test.true c.loop-accepted.invariant.served
    (λ is. next.memory (ap Err is)) (λ is. next.refused (ap Err is))))

pub returns-in_err-has_failed-clause-home : goal.returns-in_err-has_failed-clause-home
returns-in_err-has_failed-clause-home g c home =
    let next = c.in_err-has_failed.ensures in
    let refused = refused_by _ _ _ _ _ _ _ _ _ c.in_err-has_failed.field-0.0 c.args.count c.loop-accepted-test.true c.loop-accepted.invariant.served
    (λ is. next.memory (ap Err is)) (λ is. next.refused (ap Err is)) in
    renders_home c.args.moment refused.0 c.args.state.now c.serve_next.new.state home refused.2.accepts.renders

pub returns-clause-home : goal.returns-clause-home
returns-clause-home g c home = renders_home c.args.moment _ c.args.state.now c.loop-accepted.state home c.loop-accepted.invariant.served.renders

pub returns-clause-served : goal.returns-clause-served
returns-clause-served g c =
    let all : c.loop-accepted._accepted ≡ c.args.count = omega (arith, c.loop-accepted.auto._accepted-end, c.loop-accepted-test.false) in
    let old : Listening = record { given = g.N.Listener.given c.args.listener.now; finished = g.N.Listener.finished c.args.listener.now } in
    let new : Listening = record { given = g.N.Listener.given c.loop-accepted.listener; finished = g.N.Listener.finished c.loop-accepted.listener } in
    subst (λ n. Serves (option_copied c.args.allowed) c.args.moment n 0 c.args.state.now c.loop-accepted.state old new) all
    (serves (option_copied c.args.allowed) c.args.moment c.loop-accepted._accepted 0 c.args.state.now c.loop-accepted.state old new c.loop-accepted.invariant.served)
