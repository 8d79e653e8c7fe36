-- What the test of two kinds says.
use Rattle.std.proofs.Common.{◌≡◌, true, refl}
use Rattle.metrics_core.specs.Kinds.{kind_eq}
use Rattle.metrics_core.specs.declared.kinds.MetricKind.{MetricKind}
use Rattle.metrics_core.specs.declared.kinds.MetricKind.TheVariants.{Counter, Gauge, Histogram}

pub kind_eq-same : (a b : MetricKind) → kind_eq a b ≡ true → a ≡ b
kind_eq-same Counter Counter e = refl
kind_eq-same Gauge Gauge e = refl
kind_eq-same Histogram Histogram e = refl
kind_eq-same Counter Gauge e = absurd cc
kind_eq-same Counter Histogram e = absurd cc
kind_eq-same Gauge Counter e = absurd cc
kind_eq-same Gauge Histogram e = absurd cc
kind_eq-same Histogram Counter e = absurd cc
kind_eq-same Histogram Gauge e = absurd cc

pub kind_eq-refl : (kind : MetricKind) → kind_eq kind kind ≡ true
kind_eq-refl Counter = refl
kind_eq-refl Gauge = refl
kind_eq-refl Histogram = refl
