-- The lines that are kept of gauges.
use Rattle.std.specs.Prelude.{◌≡◌, ℕ, ℤ, codes, List, [], ◌∷◌, Option, option_map, string_bytes, String, IfSome}
use Rattle.metrics_core.specs.Keys.{KeyText, LabelText}
use Rattle.metrics_core.specs.Numbers.{dogstatsd_number}
use Rattle.dsd_writer.specs.Lines.{line_of}
use Rattle.dsd_writer.specs.Writers.{item_of}
use Rattle.dsd_exporter.specs.State.{prefix_before}
use Rattle.dsd_exporter.specs.declared.gauge_texts.GaugeLine.{GaugeLine}

-- the text of a prefix
abbrev pub prefix_text : {Z : Type 0} → Option (String Z) → Option (List ℕ)
prefix_text prefix = option_map string_bytes prefix

-- the line of a gauge with a value in billionths, without a timestamp
abbrev pub gauge_text : Option (List ℕ) → List LabelText → KeyText → ℤ → List ℕ
gauge_text prefix tags key value = line_of (item_of (codes "g") (prefix_before prefix key.name) key tags) (dogstatsd_number value ∷ [])

-- a line that is kept is that of its value
abbrev pub IsLineOf : Option (List ℕ) → List LabelText → KeyText → GaugeLine → Type 0
IsLineOf prefix tags key line = IfSome line.value (λ value. line.text.items ≡ gauge_text prefix tags key value.0)

-- the lines are those of the first keys
abbrev pub AreLines : Option (List ℕ) → List LabelText → List KeyText → List GaugeLine → Type 0
AreLines prefix tags keys [] = Unit {0}
AreLines prefix tags [] (line ∷ lines) = ⊥
AreLines prefix tags (key ∷ keys) (line ∷ lines) = IsLineOf prefix tags key line × AreLines prefix tags keys lines
