-- Bags of values: from each value to how often it is there.
use Rattle.std.specs.Prelude.{ℕ, List, ℤ, count_by, flat_map, replicate}
use Rattle.std.specs.Ordering.{int_eq}

-- all values, each so often
abbrev pub repeated : List (ℤ × ℕ) → List ℤ
repeated entries = flat_map (λ entry. replicate entry.1 entry.0) entries

-- how often a value is there
abbrev pub copies : ℤ → List (ℤ × ℕ) → ℕ
copies v entries = count_by (int_eq v) (repeated entries)
