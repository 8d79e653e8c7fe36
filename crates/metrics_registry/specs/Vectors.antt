-- Worked examples, computed.
use Rattle.std.specs.Prelude.{◌≡◌, List, [], ◌∷◌, map, ℤ, pos, negsuc, Option, Some, None, true, false, refl}
use Rattle.metrics_core.specs.declared.kinds.MetricKind.TheVariants.{Counter, Gauge}
use Rattle.metrics_core.specs.Numbers.{whole}
use Rattle.metrics_registry.specs.Quantiles.{clamped, nearest_rank, quantile_of}
use Rattle.metrics_registry.specs.Cumulative.{histogram_of}
use Rattle.metrics_registry.specs.Recency.{Idle, note_left}

-- the quantiles 0, 0.5, 0.9 and 1
abbrev quantiles : List ℤ → List (Option ℤ)
quantiles values = map (λ q. nearest_rank q values) (0 ∷ 500000000 ∷ 900000000 ∷ 1000000000 ∷ [])

pub no_value : quantiles [] ≡ None ∷ None ∷ None ∷ None ∷ []
no_value = refl

pub one_value : quantiles (pos 42 ∷ []) ≡ Some (pos 42) ∷ Some (pos 42) ∷ Some (pos 42) ∷ Some (pos 42) ∷ []
one_value = refl

pub two_values : quantiles (pos 2 ∷ pos 1 ∷ []) ≡ Some (pos 1) ∷ Some (pos 1) ∷ Some (pos 2) ∷ Some (pos 2) ∷ []
two_values = refl

pub five_values : quantiles (pos 5 ∷ negsuc 0 ∷ pos 4 ∷ pos 2 ∷ pos 3 ∷ []) ≡ Some (negsuc 0) ∷ Some (pos 3) ∷ Some (pos 5) ∷ Some (pos 5) ∷ []
five_values = refl

pub clamped_ends : (clamped (negsuc 4) ≡ 0) × (clamped (pos 1000000001) ≡ 1000000000) × (quantile_of (pos 5) [] ≡ pos 0)
clamped_ends = (refl, refl, refl)

-- the buckets 1 and 5 over 0.5, 1, 3 and 9
pub cumulative_buckets : histogram_of (whole 1 ∷ whole 5 ∷ []) (pos 500000000 ∷ whole 1 ∷ whole 3 ∷ whole 9 ∷ [])
    ≡ record { buckets = (whole 1, 2) ∷ (whole 5, 3) ∷ []; sum = pos 13500000000; count = 4 }
cumulative_buckets = refl

abbrev idle : Option Idle
idle = Some (record { mask = record { counters = true; gauges = false; histograms = false }; timeout = 5 })

-- noted first, kept up to the timeout, noted anew at another count, and idle after the timeout
pub idle_counter : (note_left idle Counter None 1 10 ≡ Some (Some (1, 10))) × (note_left idle Counter (Some (1, 10)) 1 15 ≡ Some (Some (1, 10)))
    × (note_left idle Counter (Some (1, 10)) 2 16 ≡ Some (Some (2, 16))) × (note_left idle Counter (Some (1, 10)) 1 16 ≡ None)
    × (note_left idle Counter (Some (1, 10)) 1 3 ≡ Some (Some (1, 10))) × (note_left idle Gauge (Some (1, 10)) 1 99 ≡ Some (Some (1, 10)))
idle_counter = (refl, refl, refl, refl, refl, refl)
