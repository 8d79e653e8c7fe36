use Rattle.std.proofs.Common.{◌≡◌, [], None, ap, sym, subst}
use Rattle.std.proofs.lemmas.List.{append-nil}
use Rattle.legal_history.specs.declared.history.View.{View}
use Rattle.sample_queue.specs.Queues.{popped}
use Rattle.histogram_series.specs.Entries.{TimedCall}
use Rattle.histogram_series.specs.Series.{HasRecorded, kind_of}
use Rattle.histogram_series.proofs.Kept.{recorded-none, recorded-kind}
use Rattle.histogram_series.proofs.series.HistogramSeries.new.Goals as goal

pub invariant_of-result : goal.invariant_of-result
invariant_of-result c =
    let d = c.args.distribution in
    let none : popped c.in_ok-queue.queue.root.mine ≡ [] = ap (λ (v : View TimedCall). popped v.mine) c.in_ok-queue.ensures.0 in
    let has = recorded-none c.requires.0 d c.requires.1 in (
      sym (append-nil (popped c.in_ok-queue.queue.root.mine)),
      subst (λ es. HasRecorded (kind_of d) es d) (sym none) (subst (λ kind. HasRecorded kind [] d) (sym (recorded-kind has)) has),
    )

pub returns-clause-unused : goal.returns-clause-unused
returns-clause-unused c = λ kind stands i. record {
  cell = c.in_ok-queue.queue.fixed;
  root = c.in_ok-queue.ensures.0 i;
  stray = None;
  kind = recorded-kind (recorded-none kind c.args.distribution stands) i;
}
