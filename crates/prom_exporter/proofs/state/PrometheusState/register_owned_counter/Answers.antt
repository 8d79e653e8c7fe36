use Rattle.std.proofs.Common.{sym, subst}
use Rattle.std.specs.Prelude.{string_bytes}
use Rattle.std.proofs.lemmas.Result.{err_from_is_err_and}
use Rattle.metrics_core.specs.declared.kinds.MetricKind.TheVariants.{Counter}
use Rattle.prom_exporter.specs.Exporter.{AllHome}
use Rattle.prom_exporter.proofs.Registering.{asked-home, own-registered, own-cells, own-id, own-absent, overflow-registered, overflow-cells, overflow-id, overflow-absent}
use Rattle.prom_exporter.proofs.state.PrometheusState.register_owned_counter.Goals as goal

-- ---- memory was refused

pub returns-in_err-name-clause-home : goal.returns-in_err-name-clause-home
returns-in_err-name-clause-home c = subst AllHome (sym c.in_err-name.ensures.same)

pub returns-in_err-name-clause-absent : goal.returns-in_err-name-clause-absent
returns-in_err-name-clause-absent c =
    let refusal = err_from_is_err_and c.from_residual.result c.from_residual.ensures.1 in
    rw refusal.1 c.in_err-name.ensures.absent

-- ---- it is redirected

pub returns-in-Some-clause-registered : goal.returns-in-Some-clause-registered
returns-in-Some-clause-registered c = overflow-registered Counter c.args.key c.args.self.now c.redirected_to.new.self c.redirect.new.self c.in_ok-name.ensures.same c.redirect.result (string_bytes c.in-Some.name) (rw c.in-Some.is at c.in_ok-name.ensures.name) c.redirect.ensures.registered

pub returns-in-Some-clause-cells : goal.returns-in-Some-clause-cells
returns-in-Some-clause-cells c = overflow-cells Counter c.args.key c.args.self.now c.redirected_to.new.self c.redirect.new.self c.in_ok-name.ensures.same c.redirect.result (string_bytes c.in-Some.name) (rw c.in-Some.is at c.in_ok-name.ensures.name) c.redirect.ensures.cells

pub returns-in-Some-clause-id : goal.returns-in-Some-clause-id
returns-in-Some-clause-id c = overflow-id Counter c.args.key c.args.self.now c.redirected_to.new.self c.redirect.new.self c.in_ok-name.ensures.same c.redirect.result (string_bytes c.in-Some.name) (rw c.in-Some.is at c.in_ok-name.ensures.name) c.redirect.ensures.id

pub returns-in-Some-clause-absent : goal.returns-in-Some-clause-absent
returns-in-Some-clause-absent c = overflow-absent Counter c.args.key c.args.self.now c.redirected_to.new.self c.redirect.new.self c.in_ok-name.ensures.same c.redirect.result (string_bytes c.in-Some.name) (rw c.in-Some.is at c.in_ok-name.ensures.name)

pub returns-in-Some-clause-home : goal.returns-in-Some-clause-home
returns-in-Some-clause-home c = asked-home Counter c.args.key c.args.self.now c.redirected_to.new.self c.redirect.new.self c.in_ok-name.ensures.same c.redirect.result c.redirect.ensures.home

-- ---- it isn't

pub returns-in-None-clause-registered : goal.returns-in-None-clause-registered
returns-in-None-clause-registered c = own-registered Counter c.args.key c.args.self.now c.redirected_to.new.self c.put_counter.new.self c.in_ok-name.ensures.same c.put_counter.result (rw c.in-None.is at c.in_ok-name.ensures.name) c.put_counter.ensures.registered

pub returns-in-None-clause-cells : goal.returns-in-None-clause-cells
returns-in-None-clause-cells c = own-cells Counter c.args.key c.args.self.now c.redirected_to.new.self c.put_counter.new.self c.in_ok-name.ensures.same c.put_counter.result (rw c.in-None.is at c.in_ok-name.ensures.name) c.put_counter.ensures.cells

pub returns-in-None-clause-id : goal.returns-in-None-clause-id
returns-in-None-clause-id c = own-id Counter c.args.key c.args.self.now c.redirected_to.new.self c.put_counter.new.self c.in_ok-name.ensures.same c.put_counter.result (rw c.in-None.is at c.in_ok-name.ensures.name) c.put_counter.ensures.id

pub returns-in-None-clause-absent : goal.returns-in-None-clause-absent
returns-in-None-clause-absent c = own-absent Counter c.args.key c.args.self.now c.redirected_to.new.self c.put_counter.new.self c.in_ok-name.ensures.same c.put_counter.result (rw c.in-None.is at c.in_ok-name.ensures.name) c.put_counter.ensures.absent

pub returns-in-None-clause-home : goal.returns-in-None-clause-home
returns-in-None-clause-home c = asked-home Counter c.args.key c.args.self.now c.redirected_to.new.self c.put_counter.new.self c.in_ok-name.ensures.same c.put_counter.result c.put_counter.ensures.home
