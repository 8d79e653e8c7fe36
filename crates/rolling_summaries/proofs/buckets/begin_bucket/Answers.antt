use Rattle.std.proofs.Common.{◌≡◌, ◌*◌, Some, take, sym, ap, subst, ◌∙◌}
use Rattle.std.specs.Prelude.{replicate}
use Rattle.rolling_summaries.specs.Summaries.{kept_in_window, newest_begin, new_begin, Apart}
use Rattle.rolling_summaries.proofs.Ordered.{Apart-new, begun-new}
use Rattle.rolling_summaries.proofs.buckets.begin_bucket.Goals as goal
use Rattle.rolling_summaries.proofs.buckets.begin_bucket.Goals.{In_ok-push_front}

-- where the new bucket begins
begins : (c : In_ok-push_front) → Some c.in_ok-bucket.bucket.begin ≡ new_begin c.args.window.width c.args.window.now (newest_begin (kept_in_window (c.args.window.limit * c.args.window.width) c.args.window.now c.args.kept.now.items))
begins c = ap Some c.in_ok-bucket.ensures.begin ∙ c.in-Some.ensures ∙ ap (new_begin c.args.window.width c.args.window.now) c.newest_in_window-newest.ensures

pub drop_old-requires-clause-apart : goal.drop_old-requires-clause-apart
drop_old-requires-clause-apart c =
    let w = c.args.window in
    let kept = c.args.kept.now.items in
    subst (Apart w.width) (sym c.in_ok-push_front.ensures.items)
    (Apart-new w.limit w.width w.now c.in_ok-bucket.bucket kept c.requires.some c.requires.wide c.requires.apart c.requires.none (begins (goal.at.drop_old-requires-clause-apart c).In_ok-push_front))

pub returns-in_ok-push_front-clause-begun : goal.returns-in_ok-push_front-clause-begun
returns-in_ok-push_front-clause-begun c =
    let w = c.args.window in
    let kept = c.args.kept.now.items in
    c.truncate.ensures.items
    ∙ ap (take w.limit) (c.drop_old.ensures ∙ ap (kept_in_window (w.limit * w.width) w.now) c.in_ok-push_front.ensures.items)
    ∙ begun-new w.limit w.width w.now (replicate c.args.count c.args.value.0) c.in_ok-bucket.bucket kept c.requires.some c.requires.wide c.requires.apart c.requires.none (begins (goal.at.returns-in_ok-push_front-clause-begun c).In_ok-push_front) c.in_ok-bucket.ensures.values
