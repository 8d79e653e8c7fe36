use Rattle.std.proofs.Common.{ap, ◌∙◌}
use Rattle.std.proofs.lemmas.Option.{IfSome_then}
use Rattle.rolling_summaries.specs.Summaries.{snapshot_at}
use Rattle.rolling_summaries.proofs.Held.{snapshot-window}
use Rattle.rolling_summaries.proofs.summary.RollingSummary.sole_values.Goals as goal

pub returns-clause-window : goal.returns-clause-window
returns-clause-window c =
    IfSome_then c.sole_in_window.result c.sole_in_window.ensures.sole
    (λ bag is samples stands before.
    is
    ∙ ap (snapshot_at c.args.now) c.self.view_is
    ∙ snapshot-window c.args.self.now c.args.now samples stands before)
