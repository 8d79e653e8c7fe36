use Rattle.std.proofs.Common.{◌≡◌, Bool, List, ◌++◌, ◌∷◌, [], subst, sym, ap, ◌∙◌, ◌⊎◌, ⊎_elim}
use Rattle.metrics_core.specs.Keys.{KeyText}
use Rattle.metrics_core.specs.declared.kinds.MetricKind.{MetricKind}
use Rattle.metrics_core.specs.declared.kinds.MetricKind.TheVariants as kinds
use Rattle.metrics_core.specs.declared.kinds.SeriesId.{SeriesId}
use Rattle.dsd_exporter.specs.Exporter.{AddsCounter, AddsGauge, AddsHistogram, Exporter, series_seen}
use Rattle.dsd_exporter.specs.State.{number_given, register}
use Rattle.drive_script.specs.Script.{Register}
use Rattle.script_player.specs.Flushes.{register_step}
use Rattle.script_player.specs.Player.{lines_state}
use Rattle.dsd_exporter.specs.Resting.{AllRest}
use Rattle.dsd_exporter.proofs.Resting.{new_rests}
use Rattle.script_player.proofs.LineSteps.{number_seen}
use Rattle.script_player.proofs.set_up.register_line.Goals.{in-Counter+in_ok-id-in-Counter, in-Gauge+in_ok-id-in-Gauge, in-Histogram+in_ok-id-in-Histogram}
use Rattle.script_player.proofs.set_up.register_line.Goals as goal

counter_rests : (key : KeyText) (old new : Exporter) → (new ≡ old) ⊎ AddsCounter key old new → AllRest old → AllRest new
counter_rests key old new cells rest = ⊎_elim (λ (same : new ≡ old). subst AllRest (sym same) rest) (λ (adds : AddsCounter key old new). (new_rests key old new).counter adds rest) cells

gauge_rests : (key : KeyText) (old new : Exporter) → (new ≡ old) ⊎ AddsGauge key old new → AllRest old → AllRest new
gauge_rests key old new cells rest = ⊎_elim (λ (same : new ≡ old). subst AllRest (sym same) rest) (λ (adds : AddsGauge key old new). (new_rests key old new).gauge adds rest) cells

histogram_rests : (key : KeyText) (old new : Exporter) → (new ≡ old) ⊎ AddsHistogram key old new → AllRest old → AllRest new
histogram_rests key old new cells rest = ⊎_elim (λ (same : new ≡ old). subst AllRest (sym same) rest) (λ (adds : AddsHistogram key old new). (new_rests key old new).histogram adds rest) cells

pub returns-in_err-push-clause-rest : goal.returns-in_err-push-clause-rest
returns-in_err-push-clause-rest c =
    elim c.match-kind.branch [
      | in-Counter+in_ok-id-in-Counter w ↦ rw w.lines-is (counter_rests _ _ _ w.in_ok-id-in-Counter.ensures.cells)
      | in-Gauge+in_ok-id-in-Gauge w ↦ rw w.lines-is (gauge_rests _ _ _ w.in_ok-id-in-Gauge.ensures.cells)
      | in-Histogram+in_ok-id-in-Histogram w ↦ rw w.lines-is (histogram_rests _ _ _ w.in_ok-id-in-Histogram.ensures.cells)
    ]

pub returns-in_err-push-2-clause-rest : goal.returns-in_err-push-2-clause-rest
returns-in_err-push-2-clause-rest c =
    elim c.match-kind.branch [
      | in-Counter+in_ok-id-in-Counter w ↦ rw w.lines-is (counter_rests _ _ _ w.in_ok-id-in-Counter.ensures.cells)
      | in-Gauge+in_ok-id-in-Gauge w ↦ rw w.lines-is (gauge_rests _ _ _ w.in_ok-id-in-Gauge.ensures.cells)
      | in-Histogram+in_ok-id-in-Histogram w ↦ rw w.lines-is (histogram_rests _ _ _ w.in_ok-id-in-Histogram.ensures.cells)
    ]

pub returns-clause-rest : goal.returns-clause-rest
returns-clause-rest c =
    elim c.match-kind.branch [
      | in-Counter+in_ok-id-in-Counter w ↦ rw w.lines-is (counter_rests _ _ _ w.in_ok-id-in-Counter.ensures.cells)
      | in-Gauge+in_ok-id-in-Gauge w ↦ rw w.lines-is (gauge_rests _ _ _ w.in_ok-id-in-Gauge.ensures.cells)
      | in-Histogram+in_ok-id-in-Histogram w ↦ rw w.lines-is (histogram_rests _ _ _ w.in_ok-id-in-Histogram.ensures.cells)
    ]

-- the series and the handle of a kind, where the register line is of this kind
registered_as : (marks : List Bool) (now before : Exporter) (kind own : MetricKind) (key : KeyText) (handles items : List SeriesId) (id : SeriesId) → kind ≡ own
    → series_seen now.series ≡ register own key (series_seen before.series) → id ≡ record { kind = own; number = number_given own key before.series }
    → items ≡ handles ++ id ∷ []
    → lines_state marks now items ≡ register_step (lines_state marks before handles) (Register kind key)
registered_as marks now before kind own key handles items id is registered given pushed =
    let number : id ≡ record { kind = kind; number = number_given kind key (series_seen before.series) }
    = given ∙ (λ i. record { kind = sym is i; number = number_given (sym is i) key before.series }) ∙ ap (λ n. record { kind = kind; number = n }) (number_seen kind key before.series) in
    let series : series_seen now.series ≡ register kind key (series_seen before.series) = registered ∙ ap (λ k. register k key (series_seen before.series)) (sym is) in
    (λ i. record { dogstatsd = record { series = series i; idle = marks }; handles = (pushed ∙ ap (λ x. handles ++ x ∷ []) number) i })

pub returns-clause-registered : goal.returns-clause-registered
returns-clause-registered c = λ marks.
    elim c.match-kind.branch [
      | in-Counter+in_ok-id-in-Counter w ↦
          registered_as marks c.match-kind.lines c.args.lines.now c.args.kind kinds.Counter c.args.key c.args.handles.now.items _ c.match-kind.id w.in-Counter.is
          (ap (λ (e : Exporter). series_seen e.series) w.lines-is ∙ w.in_ok-id-in-Counter.ensures.registered) (w.id-is ∙ w.in_ok-id-in-Counter.ensures.id) c.in_ok-push.ensures.items
      | in-Gauge+in_ok-id-in-Gauge w ↦
          registered_as marks c.match-kind.lines c.args.lines.now c.args.kind kinds.Gauge c.args.key c.args.handles.now.items _ c.match-kind.id w.in-Gauge.is
          (ap (λ (e : Exporter). series_seen e.series) w.lines-is ∙ w.in_ok-id-in-Gauge.ensures.registered) (w.id-is ∙ w.in_ok-id-in-Gauge.ensures.id) c.in_ok-push.ensures.items
      | in-Histogram+in_ok-id-in-Histogram w ↦
          registered_as marks c.match-kind.lines c.args.lines.now c.args.kind kinds.Histogram c.args.key c.args.handles.now.items _ c.match-kind.id w.in-Histogram.is
          (ap (λ (e : Exporter). series_seen e.series) w.lines-is ∙ w.in_ok-id-in-Histogram.ensures.registered) (w.id-is ∙ w.in_ok-id-in-Histogram.ensures.id) c.in_ok-push.ensures.items
    ]
