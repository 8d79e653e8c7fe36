use Rattle.std.proofs.Common.{ap, sym, ◌∙◌, refl}
use Rattle.std.proofs.lemmas.Bool.{OnTrue_from}
use Rattle.histogram_series.specs.Series.{SampleSeries}
use Rattle.histogram_series.proofs.Kept.{next-kept}
use Rattle.histogram_series.proofs.Drained.{next-taken}
use Rattle.histogram_series.proofs.series.HistogramSeries.take_next.Goals as goal

pub invariant_of-self : goal.invariant_of-self
invariant_of-self g c =
    next-kept c.read-self-inside.result c.self.inside.stray c.self.inside.queue.root c.read-self-inside.new.self.root _ c.self.inside.distribution c.read-self-inside.ensures.read
    (ap (λ (s : SampleSeries). s.stray) c.self.view_is ∙ c.requires) c.self.invariant

pub returns-clause-taken : goal.returns-clause-taken
returns-clause-taken g c =
    OnTrue_from _ _ (λ some. next-taken c.read-self-inside.result _ _ _ c.self.view_is c.read-self-inside.ensures.read c.read-self-inside.ensures.cell refl refl (sym c.is_some.ensures ∙ some))
