-- Sets of kinds as the program has them.
use Rattle.std.specs.Prelude.{ℕ, true, false, ◌||◌, Option, option_map}
use Rattle.metrics_core.specs.declared.kinds.MetricKind.{MetricKind}
use Rattle.metrics_core.specs.declared.kinds.MetricKind.TheVariants.{Counter, Gauge, Histogram}
use Rattle.metrics_core.specs.Kinds.{KindMask, kind_eq}
use Rattle.metrics_registry.specs.Recency.{Idle}

abbrev pub no_kinds : KindMask
no_kinds = record { counters = false; gauges = false; histograms = false }

-- the kind and no other
abbrev pub only : MetricKind → KindMask
only kind = record {
  counters = kind_eq Counter kind;
  gauges = kind_eq Gauge kind;
  histograms = kind_eq Histogram kind;
}

abbrev pub all_kinds : KindMask
all_kinds = record { counters = true; gauges = true; histograms = true }

-- the kinds that are in either set
abbrev pub union_of : KindMask → KindMask → KindMask
union_of a b = record {
  counters = a.counters || b.counters;
  gauges = a.gauges || b.gauges;
  histograms = a.histograms || b.histograms;
}

-- kinds fall idle only where there is a timeout
abbrev pub idle_of : KindMask → Option ℕ → Option Idle
idle_of mask timeout = option_map (λ t. record { mask = mask; timeout = t }) timeout
