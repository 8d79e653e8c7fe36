use Rattle.std.proofs.Common.{◌*◌, sym, ◌∙◌}
use Rattle.rolling_summaries.proofs.Ordered.{newest-gone}
use Rattle.rolling_summaries.proofs.buckets.newest_in_window.Goals as goal

pub returns-else-holds : goal.returns-else-holds
returns-else-holds c =
    let w = c.args.window in
    newest-gone w.width (w.limit * w.width) w.now c.args.kept.now.items c.in_ok-newest.newest.now c.requires.apart c.in_ok-newest.ensures.lookup (sym c.holds.ensures ∙ c.if-holds.false)
