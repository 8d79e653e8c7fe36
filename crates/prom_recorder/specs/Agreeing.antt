-- What two passes that were handed out series under equal keys know.
use Rattle.std.specs.Prelude.{◌≡◌, List, Option, true, None}
use Rattle.metrics_core.specs.Keys.{KeyText, key_eq}
use Rattle.metrics_core.specs.declared.kinds.MetricKind.{MetricKind}
use Rattle.metrics_core.specs.declared.kinds.SeriesId.{SeriesId}
use Rattle.legal_history.specs.declared.history.Entry.{Entry}
use Rattle.legal_history.specs.declared.history.View.{View}
use Rattle.legal_history.specs.History.{Sees, taker}
use Rattle.prom_exporter.specs.declared.lent.Lent.{Lent}
use Rattle.prom_exporter.specs.Exporter.{Exporter}
use Rattle.shared_recorder.specs.declared.entries.RecorderEntry.{RecorderEntry}
use Rattle.shared_recorder.specs.Stands.{KnowsBuilt}
use Rattle.prom_recorder.specs.Handing.{HandsSeries}

-- Two passes, as p and q at first, were handed out series under equal keys of a recorder without idle timeout, and were then given back to the root, as v and w.
-- The series are one.
abbrev pub EqualKeysAgree : {H P : Type 0} → MetricKind → (SeriesId → Option (Lent H P) → Exporter → Exporter → Type 0) → Type 0
EqualKeysAgree {H} {P} kind lends =
    (a b : KeyText) (mine theirs : Lent H P) (u v w p q : View RecorderEntry) (built : Exporter) (log : List (Entry RecorderEntry)) → Sees (taker (taker u v) w) log → KnowsBuilt built p → KnowsBuilt built q
    → HandsSeries kind lends a mine p v → HandsSeries kind lends b theirs q w → built.settings.idle ≡ None → key_eq a b ≡ true → mine.id.number ≡ theirs.id.number
