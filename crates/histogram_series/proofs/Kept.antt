-- What a distribution keeps of the entries that were recorded, whatever their moments.
use Rattle.std.proofs.Common.{◌≡◌, ℕ, zero, suc, ◌+◌, ◌-◌, List, [], ◌∷◌, ◌++◌, map, take, length, refl, sym, ap, ◌∙◌, subst, arith, append_assoc, length-append, Option, Some, None}
use Rattle.std.specs.Prelude.{replicate, ℤ}
use Rattle.std.specs.List.{FoldsTo}
use Rattle.std.specs.Arc.{arc_value}
use Rattle.std.specs.declared.vec.Vec.{Vec}
use Rattle.std.specs.declared.alloc.Global.{Global}
use Rattle.std.specs.declared.sync.Arc.{Arc}
use Rattle.std.proofs.lemmas.List.{append-nil, length-replicate}
use Rattle.std.proofs.lemmas.Fn.{FoldsTo-push}
use Rattle.std.proofs.lemmas.Grind.{flat_map-append}
use Rattle.metrics_core.specs.Numbers.{in_64_bits}
use Rattle.metrics_registry.specs.Cumulative as cumulative
use Rattle.native_histograms.specs.Native as native
use Rattle.rolling_summaries.specs.Window.{Sample}
use Rattle.rolling_summaries.specs.Summaries as windows
use Rattle.rolling_summaries.specs.Standing.{NeverFall}
use Rattle.distributions.specs.declared.distribution.Distribution.{Distribution}
use Rattle.distributions.specs.declared.distribution.Distribution.TheVariants as variants
use Rattle.distributions.specs.Kinds.{DistributionKind, NativeHistogram, Histogram, Summary}
use Rattle.distributions.specs.Recording.{StandsFor, StandsForMore, RecordsTimes, sample_of, values_of, count_of}
use Rattle.distributions.proofs.Recorded.{stands_more, values_of-times}
use Rattle.legal_history.specs.declared.history.View.{View}
use Rattle.sample_queue.specs.declared.calls.QueueCall.TheVariants.{Pop}
use Rattle.sample_queue.specs.Queues.{popped, GivesOut}
use Rattle.histogram_series.proofs.Held.{popped-append}
use Rattle.histogram_series.specs.Entries.{TimedEntry, TimedCall, samples_of_entry, samples_of_entries, listed}
use Rattle.histogram_series.specs.Series.{kind_of, RecordsEntry, AreInTurn, HasRecorded, but_waiting}

-- what it keeps at any moments: of a summary, what it was built with and the number of samples
Keeps : DistributionKind → List Sample → Distribution → Type 0
Keeps (Histogram bounds) samples (variants.Histogram histogram) = cumulative.StandsFor bounds (values_of samples) histogram
Keeps (Summary summary) samples (variants.Summary window quantiles sum) =
    (window.limit ≡ summary.bucket_count)
    × (window.width ≡ summary.bucket_duration)
    × ((arc_value quantiles).items ≡ summary.quantiles)
    × (window.count ≡ in_64_bits (length samples))
Keeps (NativeHistogram config) samples (variants.NativeHistogram histogram) = native.StandsFor config (values_of samples) histogram
Keeps _ _ _ = ⊥

keeps-none : (kind : DistributionKind) (d : Distribution) → StandsFor kind [] d → Keeps kind [] d
unfolding Keeps
keeps-none (Histogram bounds) (variants.Histogram histogram) stands = stands
keeps-none (Summary summary) (variants.Summary window quantiles sum) stands = (stands.0, stands.1, stands.3, stands.2.count)
keeps-none (NativeHistogram config) (variants.NativeHistogram histogram) stands = stands
keeps-none (Histogram bounds) (variants.Summary window quantiles sum) stands = stands
keeps-none (Histogram bounds) (variants.NativeHistogram histogram) stands = stands
keeps-none (Summary summary) (variants.Histogram histogram) stands = stands
keeps-none (Summary summary) (variants.NativeHistogram histogram) stands = stands
keeps-none (NativeHistogram config) (variants.Histogram histogram) stands = stands
keeps-none (NativeHistogram config) (variants.Summary window quantiles sum) stands = stands

-- the samples of a summary that come behind are counted
counted : (count n : ℕ) (samples : List Sample) (s : Sample) → count ≡ in_64_bits (length samples) → in_64_bits (count + n) ≡ in_64_bits (length (samples ++ replicate n s))
counted count n samples s is =
    ap (λ c. in_64_bits (c + n)) is
    ∙ in_two (length samples) n
    ∙ ap in_64_bits (sym (length-append samples (replicate n s) ∙ ap (λ m. length samples + m) (length-replicate n s)))
  where
    in_two : (a n : ℕ) → in_64_bits (in_64_bits a + n) ≡ in_64_bits (a + n)
    in_two a n = omega arith

window-more : (old : windows.Summary) (s : Sample) (n : ℕ) (samples : List Sample) → old.count ≡ in_64_bits (length samples)
    → let new = windows.added s.moment s.value n old in (new.limit ≡ old.limit) × (new.width ≡ old.width) × (new.count ≡ in_64_bits (length (samples ++ replicate n s)))
window-more old s zero samples is = (refl, refl, is ∙ ap (λ l. in_64_bits (length l)) (sym (append-nil samples)))
window-more old s (suc n) samples is = (refl, refl, counted old.count (suc n) samples s is)

keeps-more : (kind : DistributionKind) (samples : List Sample) (old new : Distribution) (s : Sample) (n : ℕ) → Keeps kind samples old → RecordsTimes old s n new → Keeps kind (samples ++ replicate n s) new
unfolding Keeps
keeps-more (Histogram bounds) samples (variants.Histogram old) (variants.Histogram new) s n kept one =
    subst (λ vs. cumulative.StandsFor bounds vs new) (sym (values_of-times samples s n)) (one bounds (values_of samples) kept)
keeps-more (NativeHistogram config) samples (variants.NativeHistogram old) (variants.NativeHistogram new) s n kept one =
    subst (λ vs. native.StandsFor config vs new) (sym (values_of-times samples s n)) (one config (values_of samples) kept)
keeps-more (Summary summary) samples (variants.Summary old quantiles sum) (variants.Summary new after total) s n kept one =
    let more = window-more old s n samples kept.3 in (
      ap (λ (w : windows.Summary). w.limit) one.0 ∙ more.0 ∙ kept.0,
      ap (λ (w : windows.Summary). w.width) one.0 ∙ more.1 ∙ kept.1,
      ap (λ (q : Arc (Vec ℕ Global) Global). (arc_value q).items) one.1 ∙ kept.2,
      ap (λ (w : windows.Summary). w.count) one.0 ∙ more.2,
    )
keeps-more (Histogram bounds) samples (variants.Histogram old) (variants.Summary a b c) s n kept one = one
keeps-more (Histogram bounds) samples (variants.Histogram old) (variants.NativeHistogram new) s n kept one = one
keeps-more (NativeHistogram config) samples (variants.NativeHistogram old) (variants.Histogram new) s n kept one = one
keeps-more (NativeHistogram config) samples (variants.NativeHistogram old) (variants.Summary a b c) s n kept one = one
keeps-more (Summary summary) samples (variants.Summary old quantiles sum) (variants.Histogram new) s n kept one = one
keeps-more (Summary summary) samples (variants.Summary old quantiles sum) (variants.NativeHistogram new) s n kept one = one
keeps-more (Histogram bounds) samples (variants.Summary a b c) new s n kept one = absurd kept
keeps-more (Histogram bounds) samples (variants.NativeHistogram a) new s n kept one = absurd kept
keeps-more (NativeHistogram config) samples (variants.Histogram a) new s n kept one = absurd kept
keeps-more (NativeHistogram config) samples (variants.Summary a b c) new s n kept one = absurd kept
keeps-more (Summary summary) samples (variants.Histogram a) new s n kept one = absurd kept
keeps-more (Summary summary) samples (variants.NativeHistogram a) new s n kept one = absurd kept

keeps-all : (kind : DistributionKind) (samples : List Sample) (old new : Distribution) (es : List TimedEntry) → Keeps kind samples old → FoldsTo RecordsEntry old es new
    → Keeps kind (samples ++ samples_of_entries es) new
keeps-all kind samples old new [] kept folds = subst (Keeps kind (samples ++ [])) folds (subst (λ list. Keeps kind list old) (sym (append-nil samples)) kept)
keeps-all kind samples old new (e ∷ es) kept folds =
    subst (λ list. Keeps kind list new) (append_assoc samples (samples_of_entry e) (samples_of_entries es))
    (keeps-all kind (samples ++ samples_of_entry e) folds.0 new es (keeps-more kind samples old folds.0 (sample_of e.item) e.count kept folds.1) folds.2)

bounds-kept : (bounds samples : List ℤ) → map (λ (bucket : ℤ × ℕ). bucket.0) (map (λ bound. (bound, cumulative.bucket_count bound samples)) bounds) ≡ bounds
bounds-kept [] samples = refl
bounds-kept (b ∷ bounds) samples = ap (λ list. b ∷ list) (bounds-kept bounds samples)

kind-kept : (kind : DistributionKind) (samples : List Sample) (d : Distribution) → Keeps kind samples d → kind_of d ≡ kind
unfolding Keeps
kind-kept (Histogram bounds) samples (variants.Histogram histogram) kept =
    ap Histogram (ap (λ (h : cumulative.HistogramText). map (λ (bucket : ℤ × ℕ). bucket.0) h.buckets) kept ∙ bounds-kept bounds (values_of samples))
kind-kept (NativeHistogram config) samples (variants.NativeHistogram histogram) kept = ap (λ (h : native.NativeHistogramText). NativeHistogram h.config) kept.1
kind-kept (Summary summary) samples (variants.Summary window quantiles sum) kept =
    λ i. Summary (record { quantiles = kept.2 i; bucket_count = kept.0 i; bucket_duration = kept.1 i })
kind-kept (Histogram bounds) samples (variants.Summary a b c) kept = absurd kept
kind-kept (Histogram bounds) samples (variants.NativeHistogram a) kept = absurd kept
kind-kept (NativeHistogram config) samples (variants.Histogram a) kept = absurd kept
kind-kept (NativeHistogram config) samples (variants.Summary a b c) kept = absurd kept
kind-kept (Summary summary) samples (variants.Histogram a) kept = absurd kept
kind-kept (Summary summary) samples (variants.NativeHistogram a) kept = absurd kept

pub values-length : (samples : List Sample) → length (values_of samples) ≡ length samples
values-length [] = refl
values-length (s ∷ samples) = ap suc (values-length samples)

count-kept : (kind : DistributionKind) (samples : List Sample) (d : Distribution) → Keeps kind samples d → count_of d ≡ in_64_bits (length samples)
unfolding Keeps
count-kept (Histogram bounds) samples (variants.Histogram histogram) kept = ap (λ (h : cumulative.HistogramText). h.count) kept ∙ ap in_64_bits (values-length samples)
count-kept (NativeHistogram config) samples (variants.NativeHistogram histogram) kept = ap (λ (h : native.NativeHistogramText). h.count) kept.1 ∙ ap in_64_bits (values-length samples)
count-kept (Summary summary) samples (variants.Summary window quantiles sum) kept = kept.3
count-kept (Histogram bounds) samples (variants.Summary a b c) kept = absurd kept
count-kept (Histogram bounds) samples (variants.NativeHistogram a) kept = absurd kept
count-kept (NativeHistogram config) samples (variants.Histogram a) kept = absurd kept
count-kept (NativeHistogram config) samples (variants.Summary a b c) kept = absurd kept
count-kept (Summary summary) samples (variants.Histogram a) kept = absurd kept
count-kept (Summary summary) samples (variants.NativeHistogram a) kept = absurd kept

stands-kept : (kind : DistributionKind) (samples : List Sample) (d : Distribution) → Keeps kind samples d → (NeverFall samples → StandsFor kind samples d)
    → AreInTurn kind samples → StandsFor kind samples d
unfolding Keeps
stands-kept (Summary summary) samples d kept stands rising = stands rising
stands-kept (Histogram bounds) samples (variants.Histogram histogram) kept stands rising = kept
stands-kept (Histogram bounds) samples (variants.Summary a b c) kept stands rising = kept
stands-kept (Histogram bounds) samples (variants.NativeHistogram a) kept stands rising = kept
stands-kept (NativeHistogram config) samples (variants.NativeHistogram histogram) kept stands rising = kept
stands-kept (NativeHistogram config) samples (variants.Summary a b c) kept stands rising = kept
stands-kept (NativeHistogram config) samples (variants.Histogram a) kept stands rising = kept

module _ {kind : DistributionKind} {es : List TimedEntry} {d : Distribution} (has : HasRecorded kind es d) where
  keeps-recorded : Keeps kind (samples_of_entries es) d
  keeps-recorded = keeps-all kind [] has.start d es (keeps-none kind has.start has.empty) has.records

  -- a distribution is of the kind of the empty one that it came from
  pub recorded-kind : kind_of d ≡ kind
  recorded-kind = kind-kept kind (samples_of_entries es) d keeps-recorded

  -- and its number of samples is that of the entries
  pub recorded-count : count_of d ≡ in_64_bits (length (samples_of_entries es))
  recorded-count = count-kept kind (samples_of_entries es) d keeps-recorded

  -- it stands for them where a summary's moments never fall
  pub recorded-stands : AreInTurn kind (samples_of_entries es) → StandsFor kind (samples_of_entries es) d
  recorded-stands rising = stands-kept kind (samples_of_entries es) d keeps-recorded (has.stands kind [] has.empty) rising

  -- one more entry was recorded
  pub recorded-more : (e : TimedEntry) (new : Distribution) → RecordsEntry d e new → StandsForMore d (samples_of_entry e) new → HasRecorded kind (es ++ e ∷ []) new
  recorded-more e new one stands = record {
    start = has.start;
    empty = has.empty;
    records = FoldsTo-push RecordsEntry has.start es d e new has.records one;
    stands =
        subst (λ list. StandsForMore has.start list new)
        (sym (flat_map-append samples_of_entry es (e ∷ []) ∙ ap (λ list. samples_of_entries es ++ list) (append-nil (samples_of_entry e))))
        (stands_more has.start d new (samples_of_entries es) (samples_of_entry e) has.stands stands);
  }

-- a distribution of no samples has none recorded
pub recorded-none : (kind : DistributionKind) (d : Distribution) → StandsFor kind [] d → HasRecorded kind [] d
recorded-none kind d stands = record {
  start = d;
  empty = stands;
  records = refl;
  stands = λ other before stood rising. subst (λ list. StandsFor other list d) (sym (append-nil before)) stood;
}

-- the entry that waits was recorded
module _ (out : List TimedEntry) (stray : Option TimedEntry) (e : TimedEntry) (old new : Distribution) where
  pub waiting-recorded : stray ≡ Some e → (out ≡ but_waiting stray out ++ listed stray) × HasRecorded (kind_of old) (but_waiting stray out) old
      → RecordsEntry old e new → StandsForMore old (samples_of_entry e) new
      → (out ≡ out ++ []) × HasRecorded (kind_of new) out new × (kind_of new ≡ kind_of old)
  waiting-recorded waits before one stands =
      let there : (out ≡ but_waiting (Some e) out ++ e ∷ []) × HasRecorded (kind_of old) (but_waiting (Some e) out) old =
      subst (λ s. (out ≡ but_waiting s out ++ listed s) × HasRecorded (kind_of old) (but_waiting s out) old) waits before in
      let has : HasRecorded (kind_of old) out new = subst (λ es. HasRecorded (kind_of old) es new) (sym there.0) (recorded-more there.1 e new one stands) in
      let kind : kind_of new ≡ kind_of old = recorded-kind has in
      (sym (append-nil out), subst (λ k. HasRecorded k out new) (sym kind) has, kind)

-- an entry that is taken out waits behind those that were recorded
all_but_last : (es : List TimedEntry) (e : TimedEntry) → take (length (es ++ e ∷ []) - 1) (es ++ e ∷ []) ≡ es
all_but_last es e = ap (λ n. take n (es ++ e ∷ [])) (omega (arith, length-append es (e ∷ []))) ∙ take-front es (e ∷ [])
  where
    take-front : (xs ys : List TimedEntry) → take (length xs) (xs ++ ys) ≡ xs
    take-front [] ys = refl
    take-front (x ∷ xs) ys = ap (λ zs. x ∷ zs) (take-front xs ys)

pub waits-behind : (out out' : List TimedEntry) (e : TimedEntry) (kind : DistributionKind) (d : Distribution) → out' ≡ out ++ e ∷ [] → HasRecorded kind out d
    → (out' ≡ but_waiting (Some e) out' ++ listed (Some e)) × HasRecorded kind (but_waiting (Some e) out') d
waits-behind out out' e kind d is has =
    let front : but_waiting (Some e) out' ≡ out = ap (but_waiting (Some e)) is ∙ all_but_last out e in
    (is ∙ ap (λ es. es ++ e ∷ []) (sym front), subst (λ es. HasRecorded kind es d) (sym front) has)

-- a pass took the next entry, if there was one, while none waited
pub next-kept : (answer : Option TimedEntry) (stray : Option TimedEntry) (v w : View TimedCall) (kind : DistributionKind) (d : Distribution) → GivesOut v answer w → stray ≡ None
    → (popped v.mine ≡ but_waiting stray (popped v.mine) ++ listed stray) × HasRecorded kind (but_waiting stray (popped v.mine)) d
    → (popped w.mine ≡ but_waiting answer (popped w.mine) ++ listed answer) × HasRecorded kind (but_waiting answer (popped w.mine)) d
next-kept None stray v w kind d gives none before =
    subst (λ s. (popped w.mine ≡ but_waiting s (popped w.mine) ++ listed s) × HasRecorded kind (but_waiting s (popped w.mine)) d) none
    (subst (λ (u : View TimedCall). (popped u.mine ≡ but_waiting stray (popped u.mine) ++ listed stray) × HasRecorded kind (but_waiting stray (popped u.mine)) d) (sym gives.0) before)
next-kept (Some e) stray v w kind d gives none before =
    waits-behind (popped v.mine) (popped w.mine) e kind d
    (ap (λ (u : View TimedCall). popped u.mine) gives.6 ∙ popped-append v.mine (Pop e ∷ []))
    (subst (λ s. HasRecorded kind (but_waiting s (popped v.mine)) d) none before.1)
