-- Rows of counters and gauges as they were printed last, which stay for the next page (this project's rule).
use Rattle.std.specs.Prelude.{◌≡◌, ℕ, List, [], ◌∷◌, ◌++◌, take, drop, slice_get, ℤ, Some, option_map, string_bytes}
use Rattle.metrics_registry.specs.Live.{LiveSeries}
use Rattle.prom_exporter.specs.Rows.{value_line}
use Rattle.prom_exporter.specs.declared.cells.Billionths.{Billionths}
use Rattle.prom_exporter.specs.declared.printed.PrintedRows.{PrintedRows}
use Rattle.prom_exporter.specs.declared.printed.PrintedFamily.{PrintedFamily}

-- so many rows of a family are kept together
abbrev pub together : ℕ
together = 8

-- a text is the rows of these values, of the series at the first of some places
abbrev pub AreRows : List ℕ → List (List ℕ) → List ℕ → List Billionths → List ℕ → Type 0
AreRows name label_sets places [] text = text ≡ []
AreRows name label_sets [] (value ∷ values) text = ⊥
AreRows name label_sets (place ∷ places) (value ∷ values) text =
    (labels : List ℕ) × (rest : List ℕ) × (slice_get label_sets place ≡ Some labels) × (text ≡ value_line name labels value.0 ++ rest)
    × AreRows name label_sets places values rest

-- what is kept is the rows of the series at the first places, at those behind them, and so on
abbrev pub AreKept : List ℕ → List (List ℕ) → List ℕ → List PrintedRows → Type 0
AreKept name label_sets places [] = Unit {0}
AreKept name label_sets places (rows ∷ more) =
    AreRows name label_sets (take together places) rows.values.items (string_bytes rows.text) × AreKept name label_sets (drop together places) more

-- what is kept of the first of some families, each with its metric name and places, is theirs
abbrev pub ArePrinted : List (List ℕ) → List (List ℕ × List ℕ) → List PrintedFamily → Type 0
ArePrinted label_sets families [] = Unit {0}
ArePrinted label_sets [] (printed ∷ more) = ⊥
ArePrinted label_sets (family ∷ families) (printed ∷ more) =
    AreKept (string_bytes printed.name) label_sets family.1 printed.rows.items × ArePrinted label_sets families more

-- the series at the first of some places show these values
abbrev pub ShowValues : {X : Type 0} → (X → ℤ) → List (LiveSeries X) → List ℕ → List Billionths → Type 0
ShowValues shown live places [] = Unit {0}
ShowValues shown live [] (value ∷ values) = ⊥
ShowValues shown live (place ∷ places) (value ∷ values) =
    (Some value.0 ≡ option_map (λ series. shown series.cell) (slice_get live place)) × ShowValues shown live places values
