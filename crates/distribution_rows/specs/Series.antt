-- The rows of a series under a metric name.
use Rattle.std.specs.Prelude.{ℕ, List, ◌++◌, None}
use Rattle.metrics_core.specs.Keys.{LabelText}
use Rattle.prom_format.specs.Names.{full_name}
use Rattle.histogram_series.specs.Rows.{RowMaker}

-- a row of a series with these labels: its full name, its labels and further ones, and a value
abbrev pub series_row : List ℕ → List LabelText → RowMaker
series_row name labels suffix more value = record { name = full_name name None suffix; labels = labels ++ more; value = value }
