-- What pages and upkeep are in the history of a recorder.
use Rattle.std.specs.Prelude.{◌≡◌, ◌⊎◌, ℕ, List}
use Rattle.legal_history.specs.declared.history.View.{View}
use Rattle.shared_turns.specs.Passes.{Waits}
use Rattle.prom_exporter.specs.Exporter.{Exporter, written_body}
use Rattle.prom_exporter.specs.Stepped.{KeepsUp}
use Rattle.shared_recorder.specs.declared.entries.RecorderEntry.{RecorderEntry}
use Rattle.shared_recorder.specs.Pages.{MakesPage, MakesPart, Paged}

-- the page is the body of an exporter that stands for the history which the page's own entry ends. All that the pass had seen stands before that entry
abbrev pub ShowsPage : ℕ → List ℕ → View RecorderEntry → View RecorderEntry → Type 0
ShowsPage moment page v w = (y : Exporter) × Paged (MakesPage moment) y v w × (page ≡ written_body moment y)

-- memory was refused: before there was an entry, or behind it
abbrev pub MissesPage : ℕ → View RecorderEntry → View RecorderEntry → Type 0
MissesPage moment v w = Waits v w ⊎ ((y : Exporter) × Paged (MakesPart moment) y v w)

-- the queues were drained, with an entry, or memory was refused
abbrev pub KeptUp : View RecorderEntry → View RecorderEntry → Type 0
KeptUp v w = ((y : Exporter) × Paged KeepsUp y v w) ⊎ Waits v w
