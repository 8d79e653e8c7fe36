-- Pairs of static texts as labels.
use Rattle.std.specs.Prelude.{ℕ, List}
use Rattle.std.specs.Borrow.{Bor}
use Rattle.metrics_core.specs.Keys.{LabelText}

-- the label of a pair of texts
abbrev pub label_of_pair : Bor (List ℕ) × Bor (List ℕ) → LabelText
label_of_pair pair = record { key = pair.0.now; value = pair.1.now }
