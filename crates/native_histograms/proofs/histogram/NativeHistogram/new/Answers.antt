use Rattle.std.proofs.Common.{◌≡◌, [], sym, ◌∙◌}
use Rattle.std.specs.Prelude.{pos}
use Rattle.native_histograms.specs.Filled.{buckets_text}
use Rattle.native_histograms.specs.Placed.{parts_of}
use Rattle.native_histograms.proofs.Bucketed.{buckets_of-none}
use Rattle.native_histograms.proofs.Observed.{with_parts}
use Rattle.native_histograms.proofs.histogram.NativeHistogram.new.Goals as goal

pub returns : goal.returns
returns c =
    let none : buckets_text c.new-buckets.result ≡ parts_of c.args.config [] =
    c.new-buckets.ensures ∙ (λ j. record { depth = c.depth.ensures.depth j; positive = sym buckets_of-none j; negative = sym buckets_of-none j; zeros = 0 }) in
    (tt, λ j. with_parts c.args.config (none j) (pos 0) 0)
