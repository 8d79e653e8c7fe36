use Rattle.std.proofs.Common.{ap, ◌∙◌}
use Rattle.distributions.specs.Recording.{sample_of, summed}
use Rattle.distributions.proofs.Recorded.{stands_between, histogram_stands, summary_stands, native_stands}
use Rattle.distributions.proofs.distribution.Distribution.record.Goals.{in-Histogram, in-Summary+in_ok-add-in-Summary, in-NativeHistogram+in_ok-observe-in-NativeHistogram}
use Rattle.distributions.proofs.distribution.Distribution.record.Goals as goal

pub returns-clause-stands : goal.returns-clause-stands
returns-clause-stands c =
    let sample = sample_of (c.args.value, c.args.moment) in
    let summing = summed c.args.value.0 c.args.count in
    elim c.match-self.branch [
      | in-Histogram w ↦ stands_between _ w.in-Histogram.is (c.add_to_sum.ensures ∙ ap summing w.self-is) (histogram_stands _ _ sample c.args.count w.observe.ensures)
      | in-Summary+in_ok-add-in-Summary w ↦
          let added = w.in_ok-add-in-Summary.ensures in
          stands_between _ w.in-Summary.is (c.add_to_sum.ensures ∙ ap summing w.self-is) (summary_stands _ _ _ _ sample c.args.count c.if-count-eq0.false added.added added.stands)
      | in-NativeHistogram+in_ok-observe-in-NativeHistogram w ↦
          stands_between _ w.in-NativeHistogram.is (c.add_to_sum.ensures ∙ ap summing w.self-is) (native_stands _ _ sample c.args.count w.in_ok-observe-in-NativeHistogram.ensures.observed)
    ]
