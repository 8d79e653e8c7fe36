use Rattle.std.proofs.Common.{ℤ, refl, subst}
use Rattle.metrics_core.specs.Numbers.{dogstatsd_number}
use Rattle.metrics_core.specs.declared.numbers.Fixed.{Fixed as FixedOf}
use Rattle.dsd_exporter.specs.Flushing.{WritesOne, gauge_line}
use Rattle.dsd_exporter.proofs.Taken.{key-there}
use Rattle.dsd_exporter.proofs.state.State.write_again.Goals as goal

pub returns-clause-written : goal.returns-clause-written
returns-clause-written c =
    let live = c.args.self.now.series.gauges in
    let rests = c.in-Some.ensures in
    let there = key-there live c.args.place rests.2.0 rests.2.2 in
    let item = gauge_line c.args.self.now.settings c.args.writer.now.global_tags c.args.moment there.0 in
    let writes = c.in_ok-written.ensures item c.in-Some.value.0 refl (c.in-Some-kept_line.ensures.is there.0 there.1) in
    let one : WritesOne item (dogstatsd_number c.in-Some.value.0) c.in_ok-written.written c.args.writer.now c.write_gauge_line.new.self =
    record { settings = writes.settings; lines = writes.lines; written_is = writes.written } in
    (rests.0, there.0, there.1, rests.2, subst (λ (v : FixedOf). WritesOne item (dogstatsd_number v.0) c.in_ok-written.written c.args.writer.now c.write_gauge_line.new.self) rests.1 one)
