-- Quantiles of a list of values by the nearest rank (this project's rule).
use Rattle.std.specs.Prelude.{ℕ, ◌+◌, ◌-◌, ◌*◌, ◌/◌, min, max, List, length, slice_get, ℤ, pos, negsuc, Option, unwrap_or}
use Rattle.std.specs.Ordering.{int_cmp}
use Rattle.metrics_core.specs.Numbers.{one}
use Rattle.metrics_core.specs.Sorting.{sorted_by}

-- the values in ascending order
abbrev pub ascending : List ℤ → List ℤ
ascending values = sorted_by int_cmp values

-- a quantile in billionths, clamped to 0 to 1
abbrev pub clamped : ℤ → ℕ
clamped (pos q) = min q one
clamped (negsuc _) = 0

-- the rank of a quantile among n values: q * n rounded up, at least 1
abbrev pub rank : ℕ → ℕ → ℕ
rank q n = max 1 ((q * n + (one - 1)) / one)

-- the value at the quantile's rank in ascending order, counted from 1; none where there are no values
abbrev pub nearest_rank : ℕ → List ℤ → Option ℤ
nearest_rank q values = slice_get (ascending values) (rank q (length values) - 1)

-- the same for a quantile before it is clamped, and 0 where there are no values
abbrev pub quantile_of : ℤ → List ℤ → ℤ
quantile_of q values = unwrap_or (nearest_rank (clamped q) values) (pos 0)
