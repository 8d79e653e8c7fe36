-- Samples recorded one after another.
use Rattle.std.proofs.Common.{◌≡◌, ℕ, zero, suc, ◌+◌, ◌<◌, List, [], ◌∷◌, ◌++◌, map, take, length, slice_index_or, refl, sym, ap, subst, ◌∙◌, arith}
use Rattle.std.specs.Prelude.{ℤ, pos, ◌+ℤ◌, ◌*ℤ◌, fold, replicate, FitsSigned}
use Rattle.std.specs.Int.{w128, int_wrap}
use Rattle.std.specs.List.{FoldsTo}
use Rattle.std.proofs.lemmas.Fn.{FoldsTo-push}
use Rattle.std.proofs.lemmas.Int.{ints, int_wrap_fits, wrapping_add_is, int_wrap-add_left, SFits-int_wrap}
use Rattle.std.proofs.lemmas.List.{map_more, append_assoc}
use Rattle.std.proofs.lemmas.List.Sums.{fold-append}
use Rattle.std.specs.declared.vec.Vec.{Vec}
use Rattle.std.specs.declared.alloc.Global.{Global}
use Rattle.std.specs.declared.sync.Arc.{Arc}
use Rattle.metrics_core.specs.Numbers.{add_128}
use Rattle.metrics_core.specs.declared.numbers.Fixed.{Fixed}
use Rattle.metrics_registry.specs.Cumulative.{HistogramText, sample_sum}
use Rattle.metrics_registry.specs.Cumulative as cumulative
use Rattle.native_histograms.specs.Native.{NativeHistogramText}
use Rattle.native_histograms.specs.Native as native
use Rattle.rolling_summaries.specs.Window.{Sample}
use Rattle.rolling_summaries.specs.Summaries.{added}
use Rattle.rolling_summaries.specs.Summaries as windows
use Rattle.rolling_summaries.specs.Standing.{NoneAfter, NeverFall}
use Rattle.rolling_summaries.specs.Standing as rolling
use Rattle.rolling_summaries.specs.StandingLaws.{none-after, NeverFall-prefix}
use Rattle.distributions.specs.Kinds.{NativeHistogram, Histogram, Summary}
use Rattle.distributions.specs.declared.distribution.Distribution.{Distribution}
use Rattle.distributions.specs.declared.distribution.Distribution.TheVariants as variants
use Rattle.distributions.specs.Recording.{Records, StandsFor, StandsForMore, sample_of, values_of}

-- more samples behind others
pub stands_more : (old middle now : Distribution) (samples more : List Sample) → StandsForMore old samples middle → StandsForMore middle more now
    → StandsForMore old (samples ++ more) now
stands_more old middle now samples more so_far then_more kind before stood rising =
    let all : before ++ samples ++ more ≡ before ++ (samples ++ more) = append_assoc before samples more in
    let rises : NeverFall (before ++ samples ++ more) = subst NeverFall (sym all) rising in
    subst (λ list. StandsFor kind list now) all
    (then_more kind (before ++ samples) (so_far kind before stood (NeverFall-prefix (before ++ samples) more rises)) rises)

pub folds_more : (old middle now : Distribution) (samples : List (Fixed × ℕ)) (i : ℕ) (d : Fixed × ℕ) → i < length samples → FoldsTo Records old (map sample_of (take i samples)) middle
    → Records middle (sample_of (slice_index_or samples i d)) now → FoldsTo Records old (map sample_of (take (i + 1) samples)) now
folds_more old middle now samples i d within so_far one =
    subst (λ list. FoldsTo Records old list now) (sym (map_more sample_of samples i d within)) (FoldsTo-push Records old _ middle _ now so_far one)

-- a value added to a sum so many times
pub sum_with-times : (v : ℤ) → FitsSigned w128 v → (n : ℕ) (s : ℤ) → FitsSigned w128 s → fold add_128 s (replicate n v) ≡ int_wrap w128 (s +ℤ (v *ℤ pos n))
sum_with-times v fits zero s in_range = sym (ap (int_wrap w128) (omega (arith, ints)) ∙ int_wrap_fits w128 s in_range)
sum_with-times v fits (suc n) s in_range =
    ap (λ t. fold add_128 t (replicate n v)) (wrapping_add_is w128 s v in_range fits)
    ∙ sum_with-times v fits n (int_wrap w128 (s +ℤ v)) (SFits-int_wrap w128 (s +ℤ v))
    ∙ int_wrap-add_left w128 (s +ℤ v) (v *ℤ pos n)
    ∙ ap (int_wrap w128) (omega (arith, ints))

-- the values of samples with one behind them so many times
pub values_of-times : (samples : List Sample) (s : Sample) (n : ℕ) → values_of (samples ++ replicate n s) ≡ values_of samples ++ replicate n s.value
values_of-times [] s zero = refl
values_of-times [] s (suc n) = ap (λ vs. s.value ∷ vs) (values_of-times [] s n)
values_of-times (x ∷ samples) s n = ap (λ vs. x.value ∷ vs) (values_of-times samples s n)

-- ---- a sample recorded so many times at once

pub histogram_stands : (old new : HistogramText) (s : Sample) (n : ℕ) → cumulative.Observes old (s.value, n) new
    → StandsForMore (variants.Histogram old) (replicate n s) (variants.Histogram new)
histogram_stands old new s n one (Histogram bounds) before stood rising =
    subst (λ vs. cumulative.StandsFor bounds vs new) (sym (values_of-times before s n)) (one bounds (values_of before) stood)
histogram_stands old new s n one (Summary summary) before stood rising = absurd stood
histogram_stands old new s n one (NativeHistogram config) before stood rising = absurd stood

pub native_stands : (old new : NativeHistogramText) (s : Sample) (n : ℕ) → native.Observes old (s.value, n) new
    → StandsForMore (variants.NativeHistogram old) (replicate n s) (variants.NativeHistogram new)
native_stands old new s n one (NativeHistogram config) before stood rising =
    subst (λ vs. native.StandsFor config vs new) (sym (values_of-times before s n)) (one config (values_of before) stood)
native_stands old new s n one (Summary summary) before stood rising = absurd stood
native_stands old new s n one (Histogram bounds) before stood rising = absurd stood

-- none of the samples before is after one that is there
none_after-times : (before : List Sample) (s : Sample) (n : ℕ) → ¬ (n ≡ 0) → NeverFall (before ++ replicate n s) → NoneAfter s.moment before
none_after-times before s zero some rising = absurd (some refl)
none_after-times before s (suc n) some rising = none-after before (replicate n s) s rising

kept_limit : (t n : ℕ) (v : ℤ) (w : windows.Summary) → ((added t v n w).limit ≡ w.limit) × ((added t v n w).width ≡ w.width)
kept_limit t zero v w = (refl, refl)
kept_limit t (suc n) v w = (refl, refl)

sum-times : (before : List Sample) (s : Sample) (n : ℕ) (sum : ℤ) → sum ≡ sample_sum (values_of before) → fold add_128 sum (replicate n s.value) ≡ sample_sum (values_of (before ++ replicate n s))
sum-times before s n sum is =
    ap (λ t. fold add_128 t (replicate n s.value)) is
    ∙ sym (fold-append add_128 (pos 0) (values_of before) (replicate n s.value))
    ∙ ap sample_sum (sym (values_of-times before s n))

pub summary_stands : (old new : windows.Summary) (quantiles : Arc (Vec ℕ Global) Global) (sum : ℤ) (s : Sample) (n : ℕ) → ¬ (n ≡ 0) → new ≡ added s.moment s.value n old
    → rolling.StandsForMore old s.moment (replicate n s) new
    → StandsForMore (variants.Summary old quantiles sum) (replicate n s) (variants.Summary new quantiles (fold add_128 sum (replicate n s.value)))
summary_stands old new quantiles sum s n some is more (Summary summary) before stood rising =
    let kept = kept_limit s.moment n s.value old in (
      ap (λ w. w.limit) is ∙ kept.0 ∙ stood.0,
      ap (λ w. w.width) is ∙ kept.1 ∙ stood.1,
      more before stood.2 (none_after-times before s n some rising),
      stood.3,
      sum-times before s n sum stood.4,
    )
summary_stands old new quantiles sum s n some is more (Histogram bounds) before stood rising = absurd stood
summary_stands old new quantiles sum s n some is more (NativeHistogram config) before stood rising = absurd stood

module _ {old former new now : Distribution} (samples : List Sample) where
  pub stands_between : former ≡ old → now ≡ new → StandsForMore old samples new → StandsForMore former samples now
  stands_between before after stands = subst (λ d. StandsForMore d samples now) (sym before) (subst (λ d. StandsForMore old samples d) (sym after) stands)
