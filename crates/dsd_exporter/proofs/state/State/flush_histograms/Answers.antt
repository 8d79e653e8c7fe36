use Rattle.std.proofs.Common.{[], ◌∷◌, ◌++◌, ◌<◌, refl, sym, subst, arith}
use Rattle.std.proofs.lemmas.Result.{err_from_is_err_and}
use Rattle.dsd_exporter.specs.Flushing.{TakesSamples, Unchanged}
use Rattle.dsd_exporter.proofs.Taken.{length-taken, length-next}
use Rattle.dsd_exporter.proofs.Histograms.{histograms_none, histograms_more, histograms_refused, so_far, draws_more, draws_all}
use Rattle.dsd_exporter.proofs.state.State.flush_histograms.Goals as goal

pub loop-place-init : goal.loop-place-init
loop-place-init g c = record {
  found = [];
  drawn = [];
  many = refl;
  done = histograms_none c.args.self.now.settings Unchanged c.args.self.now refl c.args.writer.now c.args.telemetry.now;
  draws = refl;
  all = rw (← c.self.view_is) c.histogram_count-place-end.ensures;
}

pub flush_histogram-requires : goal.flush_histogram-requires
flush_histogram-requires g c =
    let done = c.loop-place.invariant in
    let length = length-taken TakesSamples c.args.self.now.series.histograms c.loop-place.self.series.histograms done.found done.done.taken in
    let here = c.loop-place-test.true in
    subst (λ n. c.loop-place.place < n) (sym length) (omega (arith, here, done.all))

pub returns-in_err-flush_histogram : goal.returns-in_err-flush_histogram
returns-in_err-flush_histogram g c =
    let refusal = err_from_is_err_and c.from_residual.result c.from_residual.ensures.1 in
    let done = c.loop-place.invariant in
    let refused = c.in_err-flush_histogram.ensures.refused in
    let drawn = c.flush_histogram.ensures.drawn in
    rw refusal.1 (
      done.found,
      done.drawn,
      drawn.0,
      histograms_refused done.found done.drawn c.args.self.now c.loop-place.self c.flush_histogram.new.self _ _ _ _ _ _ done.done c.flush_histogram.ensures.others c.loop-place.place done.many refused.0 refused.1,
      draws_more _ _ _ done.drawn drawn.0 done.draws drawn.1,
      tt,
    )

pub loop-place-preserved : goal.loop-place-preserved
loop-place-preserved g c =
    let done = c.loop-place.invariant in
    let more = histograms_more done.found done.drawn c.args.self.now c.loop-place.self c.flush_histogram.new.self _ _ _ _ _ _ done.done c.flush_histogram.ensures.others c.loop-place.place done.many
    _ _ _ done.draws c.in_ok-flush_histogram.ensures.flushed in
    record {
      found = done.found ++ more.0 ∷ [];
      drawn = done.drawn ++ more.1;
      many = (let length = length-next done.found more.0 in omega (arith, length, done.many));
      done = more.2;
      draws = more.3;
      all = done.all;
    }

pub returns : goal.returns
returns g c =
    let done = c.loop-place.invariant in
    let past = c.loop-place-test.false in (
      done.found,
      done.drawn,
      [],
      so_far c.args.self.now.settings done.found done.drawn c.args.self.now c.loop-place.self _ _ _ _ done.done,
      draws_all _ _ done.drawn done.draws,
      (refl, omega (arith, past, done.many, done.all)),
    )
