-- What a page is whose caller holds no pass: that of some recorder.
use Rattle.std.specs.Prelude.{◌≡◌, ◌⊎◌, ℕ, List, Option}
use Rattle.metrics_core.specs.Outside.{GrewBy, GrewByPrefix}
use Rattle.legal_history.specs.declared.history.View.{View}
use Rattle.prom_exporter.specs.Exporter.{Exporter, written_body}
use Rattle.shared_recorder.specs.declared.entries.RecorderEntry.{RecorderEntry}
use Rattle.shared_recorder.specs.Pages.{MakesPage, MakesPart, Paged}

-- the exporter was kept up and made the page step at a moment, in its turn; or it was so in part
abbrev pub IsPaged : (Exporter → Exporter → Type 0) → Exporter → Type 0
IsPaged makes exporter = (before after : View RecorderEntry) × Paged makes exporter before after

-- the text is the body of the page of such an exporter
abbrev pub Shows : ℕ → List ℕ → Type 0
Shows moment text = (exporter : Exporter) × IsPaged (MakesPage moment) exporter × (text ≡ written_body moment exporter)

-- the body of its page was written, once
abbrev pub Writes : ℕ → Option (List ℕ) → Option (List ℕ) → Type 0
Writes moment before after = (exporter : Exporter) × IsPaged (MakesPage moment) exporter × GrewBy before after (written_body moment exporter)

-- nothing was written, or a prefix of the body of the page of such an exporter
abbrev pub WritesInPart : ℕ → Option (List ℕ) → Option (List ℕ) → Type 0
WritesInPart moment before after =
    (after ≡ before)
    ⊎ ((exporter : Exporter) × IsPaged (MakesPart moment) exporter × GrewByPrefix before after (written_body moment exporter))
