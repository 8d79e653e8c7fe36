use Rattle.std.proofs.Common.{[], ◌∷◌, ◌++◌, ◌<◌, sym, subst, arith}
use Rattle.dsd_exporter.specs.Flushing.{TakesCounter}
use Rattle.dsd_exporter.proofs.Taken.{length-taken, length-next}
use Rattle.dsd_exporter.proofs.Counters.{counters_more}
use Rattle.dsd_exporter.proofs.state.State.flush_counters.Goals as goal

pub flush_counter-requires : goal.flush_counter-requires
flush_counter-requires g c =
    let done = c.loop-place.invariant in
    let length = length-taken TakesCounter c.args.self.now.series.counters c.loop-place.self.series.counters done.found done.done.taken in
    let here = c.loop-place-test.true in
    subst (λ n. c.loop-place.place < n) (sym length) (omega (arith, here, done.all))

pub loop-place-preserved : goal.loop-place-preserved
loop-place-preserved g c =
    let done = c.loop-place.invariant in
    let more = counters_more c.args.moment done.found c.args.self.now c.loop-place.self c.flush_counter.new.self c.args.marks.now.items _ _ c.args.writer.now _ _ c.args.telemetry.now _ _
    done.done c.loop-place.place done.many c.in_ok-flush_counter.ensures.flushed c.flush_counter.ensures.others in
    record {
      found = done.found ++ more.0 ∷ [];
      many = (let length = length-next done.found more.0 in omega (arith, length, done.many));
      done = more.1;
      all = done.all;
    }
