use Rattle.std.proofs.Common.{[], refl, ap, ◌∙◌, length, arith}
use Rattle.std.proofs.lemmas.Result.{err_from_is_err_and, on_ok_weaker}
use Rattle.dsd_exporter.specs.Exporter.{Exporter}
use Rattle.dsd_exporter.specs.Flushing.{MaybeDrained}
use Rattle.dsd_exporter.proofs.Gauges.{gauges_none}
use Rattle.dsd_exporter.proofs.Histograms.{histograms_none, maybe_same}
use Rattle.dsd_exporter.proofs.Flushed.{found_so, flushed_all}
use Rattle.dsd_exporter.proofs.state.State.flush_each.Goals as goal

pub returns-in_err-flush_counters : goal.returns-in_err-flush_counters
returns-in_err-flush_counters g c =
    let refusal = err_from_is_err_and c.from_residual.result c.from_residual.ensures.1 in
    let counters = c.flush_counters.ensures in
    let mid = c.flush_counters.new.self in
    rw (refusal.1, ← c.flush_state.view_is) (
      found_so counters.0 [] [] [] [],
      flushed_all c.args.moment c.args.self.now mid mid mid _ _ _ _ _ _ _ _ _ _ _ _ counters.0 [] [] [] [] counters.1 (gauges_none mid.settings c.args.moment mid _ _)
          (histograms_none mid.settings MaybeDrained mid (maybe_same _ _ refl) _ _) refl (record { gauges = λ h. absurd (omega (arith, h)); histograms = λ h. absurd (omega (arith, h)) }),
      tt,
    )

pub returns-in_err-flush_gauges : goal.returns-in_err-flush_gauges
returns-in_err-flush_gauges g c =
    let refusal = err_from_is_err_and c.from_residual-in_err-flush_gauges.result c.from_residual-in_err-flush_gauges.ensures.1 in
    let counters = c.in_ok-flush_counters.ensures in
    let gauges = c.flush_gauges.ensures in
    let mid = c.flush_gauges.new.self in
    rw (refusal.1, ← c.flush_state.view_is) (
      found_so counters.0 gauges.0 [] [] [],
      flushed_all c.args.moment c.args.self.now c.flush_counters.new.self mid mid _ _ _ _ _ _ _ _ _ _ _ _ counters.0 gauges.0 [] [] [] counters.1 gauges.1
          (histograms_none mid.settings MaybeDrained mid (maybe_same _ _ refl) _ _) refl (record { gauges = λ h. counters.2; histograms = λ h. absurd (omega (arith, h)) }),
      tt,
    )

pub returns : goal.returns
returns g c =
    let counters = c.in_ok-flush_counters.ensures in
    let gauges = c.in_ok-flush_gauges.ensures in
    let histograms = c.flush_histograms.ensures in
    let all_gauges = gauges.2 ∙ ap (λ (e : Exporter). length e.series.gauges) counters.1.others in
    let same = ap (λ (e : Exporter). length e.series.histograms) gauges.1.others ∙ ap (λ (e : Exporter). length e.series.histograms) counters.1.others in
    rw (← c.flush_state.view_is) (
      found_so counters.0 gauges.0 histograms.0 histograms.1 histograms.2,
      flushed_all c.args.moment c.args.self.now c.flush_counters.new.self c.flush_gauges.new.self c.flush_histograms.new.self _ _ _ _ _ _ _ _ _ _ _ _ counters.0 gauges.0 histograms.0 histograms.1 histograms.2
          counters.1 gauges.1 histograms.3 histograms.4 (record { gauges = λ h. counters.2; histograms = λ h. (counters.2, all_gauges) }),
      on_ok_weaker c.flush_histograms.result (λ whole. record { counters = counters.2; gauges = all_gauges; histograms = whole.1 ∙ same; others = whole.0 }) histograms.5,
    )
