-- The buckets as the program has them.
use Rattle.native_histograms.specs.declared.buckets.Buckets.{Buckets}
use Rattle.native_histograms.specs.Placed.{BucketsText}

abbrev pub buckets_text : Buckets → BucketsText
buckets_text buckets = record { depth = buckets.depth; positive = buckets.positive.entries; negative = buckets.negative.entries; zeros = buckets.zeros }
