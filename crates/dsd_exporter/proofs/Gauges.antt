-- Gauges that are flushed, one after the other.
use Rattle.std.proofs.Common.{◌≡◌, ℕ, ℤ, cond, List, [], ◌∷◌, ◌++◌, length, refl, sym, ap, subst, ◌∙◌, inl}
use Rattle.std.specs.Prelude.{nat_lt, option_map, slice_get, FitsSigned}
use Rattle.std.specs.Int.{w64}
use Rattle.metrics_core.specs.Numbers.{dogstatsd_number}
use Rattle.metrics_core.specs.declared.numbers.Fixed.{Fixed as FixedOf}
use Rattle.metrics_core.specs.Keys.{KeyText, LabelText}
use Rattle.metrics_core.specs.declared.kinds.MetricKind.TheVariants as kinds
use Rattle.metrics_registry.specs.Live.{LiveSeries}
use Rattle.metrics_registry.specs.Places.{with_cell_at}
use Rattle.legal_history.specs.History.{after}
use Rattle.flushed_cells.specs.declared.gauge_state.GaugeState.{GaugeState}
use Rattle.flushed_cells.specs.declared.gauge_calls.GaugeCall.TheVariants as gauge
use Rattle.flushed_cells.specs.Gauges.{GaugeStep, gauge_start, gauge_flush}
use Rattle.flushed_cells.specs.Series.{Flushes}
use Rattle.dsd_writer.specs.Lines.{lines_of}
use Rattle.dsd_writer.specs.Results.{Written}
use Rattle.dsd_writer.specs.Writers.{WriterText, SameSettings, HasRoomFor}
use Rattle.dsd_exporter.specs.State.{DogStatsDSettings, gauge_item, items_of_gauges}
use Rattle.dsd_exporter.specs.Updates.{UpdateText}
use Rattle.dsd_exporter.specs.Exporter.{Exporter, GaugeThing}
use Rattle.dsd_exporter.specs.Flushing.{TakesGauge, ChangesAt, HasKeyAt, with_found, with_series, WritesOne, Sends, gauge_line, FlushesGauge, GaugesFlushed}
use Rattle.dsd_exporter.proofs.Sent.{sends_nothing, sends_then, sends_behind, gauge_sent}
use Rattle.dsd_exporter.proofs.Taken.{key-same, next-taken, key-next, gauges-next}

-- a flush answers what the gauge held
pub gauge_taken : (s t : GaugeThing) (answer : FixedOf × ℕ) → Flushes GaugeStep gauge_start gauge_flush s.root answer t.root → t.fixed ≡ s.fixed
    → (x : GaugeState) × (answer ≡ (x.value, x.updates)) × TakesGauge s x t
gauge_taken s t answer m same =
    let x = m.1 in
    let is : answer ≡ (x.value, x.updates) = λ j. (m.5.0 j, m.5.1 j) in
    let root = m.6 ∙ ap (λ (a : FixedOf × ℕ). after s.root m.0 (gauge.Flush a.0 a.1 ∷ [])) is in
    (x, is, inl (m.0, m.3, m.4, λ j. record { root = root j; fixed = same j }))

module _ (settings : DogStatsDSettings) (moment place : ℕ) (old new : List (LiveSeries GaugeThing)) (w v : WriterText) (u : UpdateText)
    (found : GaugeState) (answer : FixedOf × ℕ) (is : answer ≡ (found.value, found.updates)) (takes : ChangesAt place (λ c d. TakesGauge c found d) old new)
    (same : SameSettings w v) (lines : v.lines ≡ w.lines) where
  pub flushed_gauge : (x : WriterText) (n : UpdateText) (written : Written) (kept : DogStatsDSettings) → kept ≡ settings
      → (key : KeyText) × HasKeyAt place key new × WritesOne (gauge_line kept v.global_tags moment key) (dogstatsd_number answer.0.0) written v x
      → n ≡ with_series kinds.Gauge (cond (nat_lt 0 written.left_out) 0 answer.1) written.left_out u → FlushesGauge settings moment place old new w x u n
  flushed_gauge x n written kept keeps writes counted = record {
    found = found;
    key = writes.0;
    at = sym (key-same old place place takes.1) ∙ ap (λ l. option_map (λ (s : LiveSeries GaugeThing). s.key) (slice_get l place)) (sym takes.4) ∙ writes.1;
    takes = takes;
    sends =
        (let wrote = subst (λ (a : FixedOf × ℕ). WritesOne (gauge_line settings v.global_tags moment writes.0) (dogstatsd_number a.0.0) written v x) is
        (subst (λ s. WritesOne (gauge_line s v.global_tags moment writes.0) (dogstatsd_number answer.0.0) written v x) keeps writes.2) in
        let counts = subst (λ (a : FixedOf × ℕ). n ≡ with_series kinds.Gauge (cond (nat_lt 0 written.left_out) 0 a.1) written.left_out u) is counted in
        let sent = sends_behind (gauge_item settings v.global_tags moment writes.0 found ∷ []) w v x u n same lines (gauge_sent settings moment writes.0 v x written u n found wrote counts) in
        subst (λ tags. Sends (gauge_item settings tags moment writes.0 found ∷ []) w x u n) same.same_tags sent);
  }

-- the room that was made for the line is there when the gauge was taken
pub gauge_room : (moment place : ℕ) (old mid : Exporter) (w v : WriterText) (d : GaugeThing) → mid.series.gauges ≡ with_cell_at old.series.gauges place d
    → mid ≡ record old { series = record old.series { gauges = mid.series.gauges } } → SameSettings w v
    → ((key : KeyText) → HasKeyAt place key old.series.gauges → (value : ℤ) → FitsSigned w64 value → HasRoomFor v (lines_of w.limit (gauge_line old.settings w.global_tags moment key) (dogstatsd_number value ∷ [])))
    → (key : KeyText) → HasKeyAt place key mid.series.gauges → (value : ℤ) → FitsSigned w64 value → HasRoomFor v (lines_of v.limit (gauge_line mid.settings v.global_tags moment key) (dogstatsd_number value ∷ []))
gauge_room moment place old mid w v d is others same room key at value fits =
    let there : HasKeyAt place key old.series.gauges =
    sym (key-same old.series.gauges place place d) ∙ ap (λ l. option_map (λ (s : LiveSeries GaugeThing). s.key) (slice_get l place)) (sym is) ∙ at in
    let settings : mid.settings ≡ old.settings = ap (λ (e : Exporter). e.settings) others in
    subst (λ (x : ℕ × (DogStatsDSettings × List LabelText)). HasRoomFor v (lines_of x.0 (gauge_line x.1.0 x.1.1 moment key) (dogstatsd_number value ∷ [])))
    (λ j. (sym same.same_limit j, (sym settings j, sym same.same_tags j))) (room key there value fits)

-- none is flushed
pub gauges_none : (settings : DogStatsDSettings) (moment : ℕ) (old : Exporter) (w : WriterText) (u : UpdateText) → GaugesFlushed settings moment [] old old w w u u
gauges_none settings moment old w u = record {
  taken = refl;
  others = refl;
  sends = sends_nothing w w u u (record { same_limit = refl; same_start = refl; same_tags = refl }) refl refl;
}

-- one more is flushed
module _ (moment : ℕ) (found : List GaugeState) (old mid new : Exporter) (w v x : WriterText) (u n r : UpdateText) where
  pub gauges_more : GaugesFlushed old.settings moment found old mid w v u n → (place : ℕ) → length found ≡ place
      → FlushesGauge mid.settings moment place mid.series.gauges new.series.gauges v x n r
      → new ≡ record mid { series = record mid.series { gauges = new.series.gauges } }
      → (y : GaugeState) × GaugesFlushed old.settings moment (found ++ y ∷ []) old new w x u r
  gauges_more done place is flushes others =
      let settings : mid.settings ≡ old.settings = ap (λ (e : Exporter). e.settings) done.others in
      let one = subst (λ s. FlushesGauge s moment (length found) mid.series.gauges new.series.gauges v x n r) settings
      (subst (λ p. FlushesGauge mid.settings moment p mid.series.gauges new.series.gauges v x n r) (sym is) flushes) in
      let at = key-next TakesGauge old.series.gauges mid.series.gauges found one.key done.taken one.at in
      let first = items_of_gauges old.settings w.global_tags moment (with_found old.series.gauges found) in
      let then = gauge_item old.settings w.global_tags moment one.key one.found ∷ [] in
      let sends : Sends then v x n r = subst (λ tags. Sends (gauge_item old.settings tags moment one.key one.found ∷ []) v x n r) done.sends.settings.same_tags one.sends in (
        one.found,
        record {
          taken = next-taken TakesGauge old.series.gauges mid.series.gauges found one.found new.series.gauges done.taken one.takes;
          others = others ∙ ap (λ (e : Exporter). record e { series = record e.series { gauges = new.series.gauges } }) done.others;
          sends =
              subst (λ items. Sends items w x u r) (sym (gauges-next old.settings w.global_tags moment old.series.gauges found one.key one.found at))
              (sends_then first then w v x u n r done.sends sends);
        },
      )
