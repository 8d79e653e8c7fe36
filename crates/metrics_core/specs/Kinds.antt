-- Kinds of series, and sets of kinds.
use Rattle.std.specs.Prelude.{ℕ, List, codes, Bool, true, false}
use Rattle.metrics_core.specs.declared.kinds.MetricKind.{MetricKind}
use Rattle.metrics_core.specs.declared.kinds.MetricKind.TheVariants.{Counter, Gauge, Histogram}

abbrev pub kind_eq : MetricKind → MetricKind → Bool
kind_eq Counter Counter = true
kind_eq Gauge Gauge = true
kind_eq Histogram Histogram = true
kind_eq _ _ = false

abbrev pub kind_text : MetricKind → List ℕ
kind_text Counter = codes "counter"
kind_text Gauge = codes "gauge"
kind_text Histogram = codes "histogram"

-- a set of kinds
pub record KindMask : Type 0 where
  pub counters : Bool
  pub gauges : Bool
  pub histograms : Bool

abbrev pub mask_has : KindMask → MetricKind → Bool
mask_has mask Counter = mask.counters
mask_has mask Gauge = mask.gauges
mask_has mask Histogram = mask.histograms
