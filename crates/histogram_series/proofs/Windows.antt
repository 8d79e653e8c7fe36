-- What a summary keeps of the entries that were recorded, whatever their moments.
use Rattle.std.proofs.Common.{◌≡◌, ℕ, List, [], ◌∷◌, ◌++◌, map, refl, sym, ap, subst, ◌∙◌, None}
use Rattle.std.specs.Prelude.{ℤ, fold, replicate}
use Rattle.std.specs.List.{FoldsTo}
use Rattle.std.specs.Arc.{arc_value}
use Rattle.std.specs.declared.vec.Vec.{Vec}
use Rattle.std.specs.declared.alloc.Global.{Global}
use Rattle.std.specs.declared.sync.Arc.{Arc}
use Rattle.std.proofs.lemmas.List.{map-append}
use Rattle.std.proofs.lemmas.List.Sums.{fold-append}
use Rattle.metrics_core.specs.Numbers.{add_128}
use Rattle.metrics_registry.specs.Cumulative.{sample_sum}
use Rattle.rolling_summaries.specs.declared.buckets.Bucket.{Bucket}
use Rattle.rolling_summaries.specs.Window.{Sample}
use Rattle.rolling_summaries.specs.Summaries.{empty_summary, newest_begin}
use Rattle.rolling_summaries.specs.Summaries as windows
use Rattle.rolling_summaries.specs.Standing.{added_all}
use Rattle.rolling_summaries.specs.Standing as rolling
use Rattle.distributions.specs.declared.distribution.Distribution.{Distribution}
use Rattle.distributions.specs.declared.distribution.Distribution.TheVariants as variants
use Rattle.distributions.specs.Kinds.{Summary, SummaryText}
use Rattle.distributions.specs.Recording.{StandsFor, sample_of, values_of}
use Rattle.distributions.proofs.Recorded.{values_of-times}
use Rattle.histogram_series.specs.Entries.{TimedEntry, addition_of, samples_of_entry, samples_of_entries}
use Rattle.histogram_series.specs.Series.{RecordsEntry, HasRecorded}

-- a summary came from another by recording entries in turn
IsAfter : windows.Summary → Arc (Vec ℕ Global) Global → ℤ → List TimedEntry → Distribution → Type 0
IsAfter w quantiles sum es (variants.Summary window after total) =
    (window ≡ added_all w (map addition_of es)) × (after ≡ quantiles) × (total ≡ fold add_128 sum (values_of (samples_of_entries es)))
IsAfter w quantiles sum es _ = ⊥

-- the sum of the values of one more entry before others
sum-before : (e : TimedEntry) (es : List TimedEntry) (sum : ℤ)
    → fold add_128 (fold add_128 sum (replicate e.count e.item.0.0)) (values_of (samples_of_entries es)) ≡ fold add_128 sum (values_of (samples_of_entries (e ∷ es)))
sum-before e es sum =
    sym (fold-append add_128 sum (replicate e.count e.item.0.0) (values_of (samples_of_entries es)))
    ∙ ap (λ vs. fold add_128 sum (vs ++ values_of (samples_of_entries es))) (sym (values_of-times [] (sample_of e.item) e.count))
    ∙ ap (fold add_128 sum) (sym (map-append (λ (s : Sample). s.value) (samples_of_entry e) (samples_of_entries es)))

module _ (e : TimedEntry) (es : List TimedEntry) (w : windows.Summary) (quantiles : Arc (Vec ℕ Global) Global) (sum : ℤ) where
  after-more : (d : Distribution) (w' : windows.Summary) (quantiles' : Arc (Vec ℕ Global) Global) (sum' : ℤ) → RecordsEntry (variants.Summary w quantiles sum) e (variants.Summary w' quantiles' sum')
      → IsAfter w' quantiles' sum' es d → IsAfter w quantiles sum (e ∷ es) d
  unfolding IsAfter
  after-more (variants.Summary window after total) w' quantiles' sum' one rest = (
    rest.0 ∙ ap (λ (u : windows.Summary). added_all u (map addition_of es)) one.0,
    rest.1 ∙ one.1,
    rest.2 ∙ ap (λ s. fold add_128 s (values_of (samples_of_entries es))) one.2 ∙ sum-before e es sum,
  )
  after-more (variants.Histogram a) w' quantiles' sum' one rest = rest
  after-more (variants.NativeHistogram a) w' quantiles' sum' one rest = rest

  after-one : (middle d : Distribution) → RecordsEntry (variants.Summary w quantiles sum) e middle
      → ((w' : windows.Summary) (quantiles' : Arc (Vec ℕ Global) Global) (sum' : ℤ) → FoldsTo RecordsEntry (variants.Summary w' quantiles' sum') es d → IsAfter w' quantiles' sum' es d)
      → FoldsTo RecordsEntry middle es d → IsAfter w quantiles sum (e ∷ es) d
  after-one (variants.Summary w' quantiles' sum') d one rest folds = after-more d w' quantiles' sum' one (rest w' quantiles' sum' folds)
  after-one (variants.Histogram a) d one rest folds = absurd one
  after-one (variants.NativeHistogram a) d one rest folds = absurd one

after-all : (es : List TimedEntry) (d : Distribution) (w : windows.Summary) (quantiles : Arc (Vec ℕ Global) Global) (sum : ℤ) → FoldsTo RecordsEntry (variants.Summary w quantiles sum) es d
    → IsAfter w quantiles sum es d
unfolding IsAfter
after-all [] d w quantiles sum folds = subst (IsAfter w quantiles sum []) folds (refl, refl, refl)
after-all (e ∷ es) d w quantiles sum folds = after-one e es w quantiles sum folds.0 d folds.1 (after-all es d) folds.2

-- a summary of no samples keeps no buckets
none-kept : (kept : List Bucket) → newest_begin kept ≡ None → kept ≡ []
none-kept [] none = refl
none-kept (b ∷ kept) none = absurd cc

module _ (built : SummaryText) where
  empty-window : (w : windows.Summary) → w.limit ≡ built.bucket_count → w.width ≡ built.bucket_duration → rolling.StandsFor w []
      → w ≡ empty_summary built.bucket_count built.bucket_duration
  empty-window w limit width stands = λ i. record { limit = limit i; width = width i; kept = none-kept w.kept stands.newest i; count = stands.count i }

  -- what a summary that was built so is once entries were recorded
  abbrev pub IsSummaryOf : List TimedEntry → Distribution → Type 0
  IsSummaryOf es (variants.Summary window quantiles sum) =
      (window ≡ added_all (empty_summary built.bucket_count built.bucket_duration) (map addition_of es))
      × ((arc_value quantiles).items ≡ built.quantiles)
      × (sum ≡ sample_sum (values_of (samples_of_entries es)))
  IsSummaryOf es _ = ⊥

  from-empty : (es : List TimedEntry) (d : Distribution) (w : windows.Summary) (quantiles : Arc (Vec ℕ Global) Global) (sum : ℤ) → StandsFor (Summary built) [] (variants.Summary w quantiles sum)
      → IsAfter w quantiles sum es d → IsSummaryOf es d
  unfolding IsAfter
  from-empty es (variants.Summary window after total) w quantiles sum empty is = (
    is.0 ∙ ap (λ (u : windows.Summary). added_all u (map addition_of es)) (empty-window w empty.0 empty.1 empty.2),
    ap (λ (q : Arc (Vec ℕ Global) Global). (arc_value q).items) is.1 ∙ empty.3,
    is.2 ∙ ap (λ s. fold add_128 s (values_of (samples_of_entries es))) empty.4,
  )
  from-empty es (variants.Histogram a) w quantiles sum empty is = is
  from-empty es (variants.NativeHistogram a) w quantiles sum empty is = is

  from-start : (es : List TimedEntry) (start d : Distribution) → StandsFor (Summary built) [] start → FoldsTo RecordsEntry start es d → IsSummaryOf es d
  from-start es (variants.Summary w quantiles sum) d empty folds = from-empty es d w quantiles sum empty (after-all es d w quantiles sum folds)
  from-start es (variants.Histogram a) d empty folds = absurd empty
  from-start es (variants.NativeHistogram a) d empty folds = absurd empty

  pub summary-recorded : (es : List TimedEntry) (d : Distribution) → HasRecorded (Summary built) es d → IsSummaryOf es d
  summary-recorded es d has = from-start es has.start d has.empty has.records
