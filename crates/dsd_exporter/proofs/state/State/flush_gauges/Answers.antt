use Rattle.std.proofs.Common.{[], ◌∷◌, ◌++◌, ◌<◌, sym, subst, arith}
use Rattle.dsd_exporter.specs.Flushing.{TakesGauge}
use Rattle.dsd_exporter.proofs.Taken.{length-taken, length-next}
use Rattle.dsd_exporter.proofs.Gauges.{gauges_more}
use Rattle.dsd_exporter.proofs.state.State.flush_gauges.Goals as goal

pub flush_gauge-requires : goal.flush_gauge-requires
flush_gauge-requires g c =
    let done = c.loop-place.invariant in
    let length = length-taken TakesGauge c.args.self.now.series.gauges c.loop-place.self.series.gauges done.found done.done.taken in
    let here = c.loop-place-test.true in
    subst (λ n. c.loop-place.place < n) (sym length) (omega (arith, here, done.all))

pub loop-place-preserved : goal.loop-place-preserved
loop-place-preserved g c =
    let done = c.loop-place.invariant in
    let more = gauges_more c.args.moment done.found c.args.self.now c.loop-place.self c.flush_gauge.new.self c.args.writer.now _ _ c.args.telemetry.now _ _
    done.done c.loop-place.place done.many c.in_ok-flush_gauge.ensures.flushed c.flush_gauge.ensures.others in
    record {
      found = done.found ++ more.0 ∷ [];
      many = (let length = length-next done.found more.0 in omega (arith, length, done.many));
      done = more.1;
      all = done.all;
    }
