-- What a page tells.
use Rattle.std.specs.Prelude.{◌≡◌, ℕ, ◌⊎◌, List, [], ◌∷◌, map, pos}
use Rattle.legal_history.specs.declared.history.Entry.{Entry}
use Rattle.legal_history.specs.declared.history.View.{View}
use Rattle.legal_history.specs.History.{calls, after, Sees}
use Rattle.prom_format.specs.Pages.{Row, Family}
use Rattle.prom_exporter.specs.Exporter.{Exporter}
use Rattle.prom_exporter.specs.Stepped.{Steps, KeepsUp, DrainsEach, DrainsInPart}
use Rattle.shared_recorder.specs.declared.entries.RecorderEntry.{RecorderEntry}
use Rattle.shared_recorder.specs.declared.entries.RecorderEntry.TheVariants.{Page}
use Rattle.shared_recorder.specs.Setup.{gone_of}
use Rattle.shared_recorder.specs.Stands.{StandsFor}

-- an exporter kept up, and then made the page step
abbrev pub MakesPage : ℕ → Exporter → Exporter → Type 0
MakesPage moment x y = (m : Exporter) × KeepsUp x m × Steps moment m y

-- the same where memory was refused in the page step: then some histograms may have been drained on
abbrev pub MakesPart : ℕ → Exporter → Exporter → Type 0
MakesPart moment x y = (m : Exporter) × KeepsUp x m × (Steps moment m y ⊎ DrainsEach DrainsInPart m y)

-- the exporter y stands for the history which the page's own entry ends. It was got from one that stands for the history before, which begins with all that the pass had seen
abbrev pub Paged : (Exporter → Exporter → Type 0) → Exporter → View RecorderEntry → View RecorderEntry → Type 0
Paged makes y v w = (log : List (Entry RecorderEntry)) × (x : Exporter) × Sees v log × StandsFor (calls log) x × makes x y × (w ≡ after v log (Page (gone_of x y) ∷ [])) × StandsFor (calls w.seen) y

-- ---- what a page has of a state whatever the values are

-- a row without its value: its name and its labels
abbrev pub row_head : Row → Row
row_head row = record row { value = pos 0 }

-- a family without values: its name, its type, its help, and the names and labels of its rows
abbrev pub family_head : Family → Family
family_head family = record family { rows = map row_head family.rows }

abbrev pub heads : List Family → List Family
heads families = map family_head families
