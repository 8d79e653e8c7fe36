use Rattle.std.proofs.Common.{subst, ◌∙◌}
use Rattle.prom_exporter.specs.Exporter.{state_of}
use Rattle.dsd_receiver.specs.Receiving.{IsReceived}
use Rattle.dsd_receiver.proofs.SoFar.{so_far_bad, so_far_line, so_far_stops}
use Rattle.dsd_receiver.proofs.payloads.apply_lines.Goals as goal

pub returns-in-Err-clause-refused : goal.returns-in-Err-clause-refused
returns-in-Err-clause-refused g c =
    so_far_stops c.args.dialect c.args.moment c.args.payload.now c.loop-rest.rest.now (state_of c.args.state.now) (state_of c.loop-rest.state) (state_of c.apply_line.new.state) c.loop-rest.applied
    c.loop-rest.invariant.so_far c.split_line.result.0.now c.split_line.result.1.now c.split_line.ensures.lines c.split_line.ensures.shorter
    c.in-Err.stop.registered c.in-Err.stop.values c.in-Err.ensures.stopped

pub loop-rest-preserved-in-Ok-true : goal.loop-rest-preserved-in-Ok-true
loop-rest-preserved-in-Ok-true g c =
    let line = c.split_line.result.0.now in
    let received = subst (λ b. IsReceived c.args.dialect c.args.moment line b (state_of c.loop-rest.state) (state_of c.apply_line.new.state)) c.in-Ok-true.field-0-test c.in-Ok-true.ensures.applied in
    record {
      home = c.apply_line.ensures.home;
      settings = c.apply_line.ensures.settings ∙ c.loop-rest.invariant.settings;
      so_far = so_far_line c.args.dialect c.args.moment c.args.payload.now c.loop-rest.rest.now (state_of c.args.state.now) (state_of c.loop-rest.state) (state_of c.apply_line.new.state) c.loop-rest.applied
          c.loop-rest.invariant.so_far line c.split_line.result.1.now c.split_line.ensures.lines c.split_line.ensures.shorter received;
    }

pub loop-rest-preserved : goal.loop-rest-preserved
loop-rest-preserved g c =
    let line = c.split_line.result.0.now in
    let received = subst (λ b. IsReceived c.args.dialect c.args.moment line b (state_of c.loop-rest.state) (state_of c.apply_line.new.state)) c.in-Ok-false.field-0-test c.in-Ok-false.ensures.applied in
    record {
      home = c.apply_line.ensures.home;
      settings = c.apply_line.ensures.settings ∙ c.loop-rest.invariant.settings;
      so_far = so_far_bad c.args.dialect c.args.moment c.args.payload.now c.loop-rest.rest.now (state_of c.args.state.now) (state_of c.loop-rest.state) (state_of c.apply_line.new.state) c.loop-rest.applied
          c.loop-rest.invariant.so_far line c.split_line.result.1.now c.split_line.ensures.lines c.split_line.ensures.shorter received;
    }
