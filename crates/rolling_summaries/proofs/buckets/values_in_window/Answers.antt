use Rattle.std.proofs.Common.{◌*◌, length, sym, ap, subst, ◌∙◌, arith}
use Rattle.std.specs.VecDeque.Iter.{deque_iter_rest}
use Rattle.rolling_summaries.specs.Summaries.{Apart}
use Rattle.rolling_summaries.proofs.Ordered.{walked-end, walked-out, walked-in, ordered-more}
use Rattle.rolling_summaries.proofs.buckets.values_in_window.Goals as goal
use Rattle.rolling_summaries.proofs.buckets.values_in_window.Goals.{in-None, in-Some+then-not-holds}

pub loop-bucket-preserved : goal.loop-bucket-preserved
loop-bucket-preserved c =
    let w = c.args.window in
    let kept = c.args.kept.now.items in
    let rest = deque_iter_rest c.loop-bucket.bucket-iterator in
    let older = deque_iter_rest c.next.new.self in
    let bucket = c.in-Some.bucket.now in
    record {
      apart = (subst (Apart w.width) c.in-Some.ensures.steps c.loop-bucket.invariant.apart).1;
      fewer = omega (arith, ap length c.in-Some.ensures.steps, c.loop-bucket.invariant.fewer);
      ordered = ordered-more c.loop-bucket.bag bucket.values c.in_ok-bag.bag c.in_ok-bag.ensures.merged;
      same = walked-in (w.limit * w.width) w.now kept rest older bucket c.loop-bucket.bag c.in_ok-bag.bag c.in-Some.ensures.steps (sym c.holds.ensures ∙ c.if-not-holds.false) c.in_ok-bag.ensures.merged c.loop-bucket.invariant.same;
    }

pub returns-clause-values : goal.returns-clause-values
returns-clause-values c =
    let win = c.args.window in
    let span = win.limit * win.width in
    let kept = c.args.kept.now.items in
    let rest = deque_iter_rest c.loop-bucket.bucket-iterator in
    elim c.match-next.branch [
      | in-None w ↦ walked-end span win.now kept rest c.loop-bucket.bag w.in-None.ensures.steps.0 c.loop-bucket.invariant.ordered c.loop-bucket.invariant.same
      | in-Some+then-not-holds w ↦ walked-out win.width span win.now kept rest (deque_iter_rest c.next.new.self) w.in-Some.bucket.now c.loop-bucket.bag w.in-Some.ensures.steps c.loop-bucket.invariant.apart (sym w.holds.ensures ∙ w.if-not-holds.true) c.loop-bucket.invariant.ordered c.loop-bucket.invariant.same
    ]
