-- Cells of which no pass is out: what the exporter sees of them is the whole history.
use Rattle.std.proofs.Common.{◌≡◌, ℕ, ◌%◌, ◌^◌, length, List, [], ◌∷◌, ◌++◌, refl, sym, ap, subst, ◌∙◌, inl, inr, arith}
use Rattle.std.specs.Prelude.{All}
use Rattle.std.proofs.lemmas.List.Elements.{All-nil, All-cons, All-append}
use Rattle.legal_history.specs.declared.history.View.{View}
use mathlib.Core.List.{IsPrefix}
use Rattle.legal_history.specs.declared.history.Held.{Held}
use Rattle.legal_history.specs.History.{calls_by, held, longer, looked, after, Among}
use Rattle.legal_history.proofs.Prefixes.{prefix_trans}
use Rattle.metrics_core.specs.Keys.{KeyText}
use Rattle.metrics_core.specs.declared.kinds.SeriesId.{SeriesId}
use Rattle.metrics_registry.specs.Live.{LiveSeries}
use Rattle.metrics_core.specs.declared.calls.SeriesCall.{SeriesCall}
use Rattle.prom_exporter.specs.Shared.{Shared, IsHome, unused, Counts, Looks, TakesBack}
use Rattle.metrics_core.specs.declared.kinds.MetricKind.TheVariants.{Histogram}
use Rattle.prom_format.specs.Names.{sanitized_metric_name}
use Rattle.prom_exporter.specs.Families.{distribution_of}
use Rattle.prom_exporter.specs.Sampled.{Sampled, IsAtRest, unsampled}
use Rattle.std.proofs.Common.{◌+◌}
use Rattle.prom_exporter.specs.Exporter.{Cells, Exporter, AllHome, AddsCounter, AddsGauge, AddsHistogram, SharedCounter, SharedGauge}

among_last : (h : Held SeriesCall) (hs : List (Held SeriesCall)) → Among h (hs ++ h ∷ [])
among_last h [] = inl refl
among_last h (x ∷ hs) = inr (among_last h hs)

module _ {F : Type 0} where
  -- what was seen is a beginning of what is seen then
  pub look_begins : (s t : Shared F) → Looks s t → IsPrefix s.root.seen t.root.seen
  look_begins s t looks = subst (λ (x : Shared F). IsPrefix s.root.seen x.root.seen) (sym looks.2) looks.1.begins

  pub given_back_seen : (s t : Shared F) (known : View SeriesCall) → TakesBack known s t → IsPrefix known.seen t.root.seen × (calls_by known.number t.root.seen ≡ known.mine)
  given_back_seen s t known takes =
      let h = held known.number known.mine known.seen in
      let last = among_last h s.root.joined in
      let log = takes.0 in
      subst (λ (x : Shared F). IsPrefix known.seen x.root.seen × (calls_by known.number x.root.seen ≡ known.mine)) (sym takes.2)
      (prefix_trans known.seen (longer s.root.seen known.seen) log (takes.1.returned h last).begins takes.1.begins, takes.1.back h last)

  pub looks-home : (s t : Shared F) → IsHome s → Looks s t → t ≡ s
  looks-home s t home looks = looks.2 ∙ ap (λ log. record s { root = looked s.root log }) (looks.1.whole home.0 home.1).0

-- where no pass is out, what is counted is the number of all calls, and nothing is seen that was not seen before
module _ {F : Type 0} (s t : Shared F) (n : ℕ) (home : IsHome s) (counts : Counts s n t) where
  log_whole : counts.1.2.0 ≡ s.root.seen
  log_whole = (counts.1.2.1.whole home.0 home.1).0

  counted_same : counts.0 ≡ s.root
  counted_same = counts.1.2.4 ∙ ap (looked s.root) log_whole

  pub counts-home : t ≡ s
  counts-home =
      let same : record s { root = counts.0 } ≡ s = ap (λ root. record s { root = root }) counted_same in
      looks-home s t home (subst (λ (u : Shared F). Looks u t) same counts.2)

  pub counts-all : n ≡ length s.root.seen % 2 ^ 64
  counts-all =
      let count : ℕ = counts.1.0 in
      let long : length counts.1.2.0 ≡ length s.root.seen = ap length log_whole in
      let least = counts.1.2.3 home.0 in
      let most = counts.1.2.2 in
      let all : count ≡ length s.root.seen = omega (arith, home.1, long, least, most) in
      counts.1.1 ∙ ap (λ m. m % 2 ^ 64) all

-- a new cell has no pass out
pub unused-home : {F : Type 0} (es : List (LiveSeries (Shared F))) (e : LiveSeries (Shared F)) (cell : F) → e.cell ≡ unused cell → All (λ (s : LiveSeries (Shared F)). IsHome s.cell) es → All (λ (s : LiveSeries (Shared F)). IsHome s.cell) (es ++ e ∷ [])
unused-home {F} es e cell is home =
    All-append (λ (s : LiveSeries (Shared F)). IsHome s.cell) es (e ∷ []) home
    (All-cons (λ (s : LiveSeries (Shared F)). IsHome s.cell) e [] (rw is (refl, refl)) (λ k d none. absurd (omega (arith, none))))

pub adds_counter-home : (key : KeyText) (old new : Exporter) → AddsCounter key old new → AllHome old → AllHome new
adds_counter-home key old new adds home = rw adds.1 (unused-home old.series.counters _ adds.0 refl home.0, home.1, home.2)

pub adds_gauge-home : (key : KeyText) (old new : Exporter) → AddsGauge key old new → AllHome old → AllHome new
adds_gauge-home key old new adds home = rw adds.1 (home.0, unused-home old.series.gauges _ adds.0 refl home.1, home.2)

pub adds_histogram-home : (key : KeyText) (old new : Exporter) → AddsHistogram key old new → AllHome old → AllHome new
adds_histogram-home key old new adds home =
    rw adds.1 (
      home.0,
      home.1,
      All-append (λ (s : LiveSeries Sampled). IsAtRest s.cell) old.series.histograms _ home.2
          (All-cons (λ (s : LiveSeries Sampled). IsAtRest s.cell) _ [] (refl, refl) (All-nil _)),
    )

-- a histogram that was made went last
pub histogram_added : (old : Exporter) (after : Cells) (key : KeyText) (id : SeriesId) (cell : Sampled)
    → after ≡ record old.series { histograms = old.series.histograms ++ record { id = id; key = key; cell = cell } ∷ []; made = old.series.made + 1 }
    → id ≡ record { kind = Histogram; number = old.series.made } → cell ≡ unsampled (distribution_of old.settings (sanitized_metric_name key.name)) cell.series.cell
    → AddsHistogram key old (record old { series = after })
histogram_added old after key id cell added numbered fresh = (
  cell.series.cell,
  added ∙ (λ j. record old.series { histograms = old.series.histograms ++ record { id = numbered j; key = key; cell = fresh j } ∷ []; made = old.series.made + 1 }),
)
