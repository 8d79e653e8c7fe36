-- What a rolling summary keeps of a window has the quantiles of the window, where moments never fall.
use Rattle.std.proofs.Common.{◌≡◌, ℕ, zero, suc, ◌+◌, ◌-◌, ◌*◌, ◌/◌, ◌<◌, ◌≤◌, Bool, true, false, cond, List, [], ◌∷◌, ◌++◌, map, refl, sym, ap, subst, ◌∙◌, arith, append-nil, append_assoc}
use Rattle.std.specs.Prelude.{ℤ, ◌&&◌, nat_lt, nat_le, replicate, filter, zip, pos, unwrap_or, flat_map}
use Rattle.std.specs.List.{AllByRecursion}
use Rattle.std.proofs.lemmas.Bool.Decides.{nat_tests}
use Rattle.std.proofs.lemmas.List.Elements.{All-nil, recursion_from_All}
use Rattle.metrics_core.specs.Calls.{Call, Increment, Absolute, Add, Subtract, Set, Record}
use Rattle.metrics_registry.specs.Quantiles.{ascending, clamped, quantile_of}
use Rattle.metrics_registry.specs.QuantileLaws.{nearest_rank-ascending}
use Rattle.rolling_summaries.specs.declared.buckets.Bucket.{Bucket}
use Rattle.rolling_summaries.specs.Window.{Sample, begin_behind, begins_behind, begins, timed_samples, window}
use Rattle.rolling_summaries.specs.Summaries.{Summary, empty_summary, added, in_window, kept_in_window, snapshot_at}
use Rattle.rolling_summaries.specs.Standing.{NoneAfter, NeverFall, StandsFor, Addition, same_samples, added_samples, added_all}
use Rattle.rolling_summaries.specs.StandingLaws.{none-after}
use Rattle.rolling_summaries.proofs.Held.{snapshot-window}
use Rattle.rolling_summaries.proofs.Landed.{stands-more}
use Rattle.prom_exporter.specs.State.{Series}
use Rattle.prom_exporter.proofs.KeptBuckets.{kept-all}
use Rattle.prom_exporter.specs.Families.{ExporterSettings, additions_of, kept_window, window_of, IsInTime, HaveSameQuantiles}

-- ---- what calls add

pub added-samples : (calls : List Call) → added_samples (additions_of calls) ≡ timed_samples calls
added-samples [] = refl
added-samples (Record v moment n ∷ calls) = ap (λ l. same_samples v moment n ++ l) (added-samples calls)
added-samples (Increment n ∷ calls) = added-samples calls
added-samples (Absolute n ∷ calls) = added-samples calls
added-samples (Add v ∷ calls) = added-samples calls
added-samples (Subtract v ∷ calls) = added-samples calls
added-samples (Set v ∷ calls) = added-samples calls

-- ---- what a summary stands for after additions in turn

abbrev HasBuild : Summary → Summary → Type 0
HasBuild w u = (u.limit ≡ w.limit) × (u.width ≡ w.width)

one-build : (t : ℕ) (v : ℤ) (n : ℕ) (w : Summary) → HasBuild w (added t v n w)
one-build t v zero w = (refl, refl)
one-build t v (suc n) w = (refl, refl)

all-build : (calls : List Addition) (w : Summary) → HasBuild w (added_all w calls)
all-build [] w = (refl, refl)
all-build (c ∷ calls) w =
    let one = one-build c.moment c.value c.samples w in
    let rest = all-build calls (added c.moment c.value c.samples w) in
    (rest.0 ∙ one.0, rest.1 ∙ one.1)

abbrev Stands : List Addition → Summary → List Sample → Type 0
Stands calls w samples = 0 < w.limit → 0 < w.width → StandsFor w samples → NeverFall (samples ++ added_samples calls) → StandsFor (added_all w calls) (samples ++ added_samples calls)

stands-call : (n : ℕ) (v : ℤ) (t : ℕ) (calls : List Addition) → ((w : Summary) (samples : List Sample) → Stands calls w samples)
    → (w : Summary) (samples : List Sample) → 0 < w.limit → 0 < w.width → StandsFor w samples → NeverFall (samples ++ (same_samples v t n ++ added_samples calls))
    → StandsFor (added_all (added t v n w) calls) (samples ++ (same_samples v t n ++ added_samples calls))
stands-call zero v t calls rest w samples some wide stands rising = rest w samples some wide stands rising
stands-call (suc n) v t calls rest w samples some wide stands rising =
    let x : Sample = record { value = v; moment = t } in
    let all = append_assoc samples (same_samples v t (suc n)) (added_samples calls) in
    let one = stands-more w.limit w.width w.kept w.count t n v samples some wide stands (none-after samples (replicate n x ++ added_samples calls) x rising) in
    subst (StandsFor (added_all (added t v (suc n) w) calls)) all
    (rest (added t v (suc n) w) (samples ++ same_samples v t (suc n)) some wide one (subst NeverFall (sym all) rising))

stands-all : (calls : List Addition) (w : Summary) (samples : List Sample) → Stands calls w samples
stands-all [] w samples some wide stands rising = subst (StandsFor w) (sym (append-nil samples)) stands
stands-all (c ∷ calls) w samples some wide stands rising = stands-call c.samples c.value c.moment calls (stands-all calls) w samples some wide stands rising

empty-stands : (limit width : ℕ) → StandsFor (empty_summary limit width) []
empty-stands limit width = record { count = refl; newest = refl; holds = λ t before. All-nil _ }

module _ (limit width t : ℕ) (calls : List Addition) where
  abbrev kept_here : List ℤ
  kept_here = snapshot_at t (added_all (empty_summary limit width) calls)

  abbrev window_here : List ℤ
  window_here = window width (limit * width) t (added_samples calls)

  kept-wide : 0 < limit → 0 < width → NeverFall (added_samples calls) → NoneAfter t (added_samples calls) → kept_here ≡ ascending window_here
  kept-wide some wide rising before =
      let build = all-build calls (empty_summary limit width) in
      snapshot-window (added_all (empty_summary limit width) calls) t (added_samples calls) (stands-all calls (empty_summary limit width) [] some wide (empty-stands limit width) rising) before
      ∙ (λ i. ascending (window (build.1 i) (build.0 i * build.1 i) t (added_samples calls)))

-- ---- where the window has no span, nothing is in it

module _ (t : ℕ) where
  abbrev Begun : Bucket → Type 0
  Begun bucket = bucket.begin ≤ t

  abbrev Before : Sample → Type 0
  Before sample = sample.moment ≤ t

  all-begun : (calls : List Addition) (w : Summary) → AllByRecursion Before (added_samples calls) → AllByRecursion Begun w.kept → AllByRecursion Begun (added_all w calls).kept
  all-begun = kept-all Begun Before (λ x n b before begun. begun) (λ x n begin before from. omega (arith, before, from))

  none-in : (kept : List Bucket) → AllByRecursion Begun kept → kept_in_window 0 t kept ≡ []
  none-in [] begun = refl
  none-in (b ∷ older) begun =
      let out : in_window 0 t b.begin ≡ false = out-at b.begin begun.0 in
      ap (λ r. cond r (b ∷ kept_in_window 0 t older) (kept_in_window 0 t older)) out ∙ none-in older begun.1
    where
      out-at : (b : ℕ) → b ≤ t → in_window 0 t b ≡ false
      out-at b from = grind (arith, nat_tests)

  -- begins of samples aren't after the moments
  behind-begun : (width b m : ℕ) → b ≤ t → m ≤ t → begin_behind width 0 b m ≤ t
  behind-begun width b m from within = by (nat_lt m (b + width)) (nat_le 0 m && nat_le b (m - 0)) refl refl
    where
      by : (r e : Bool) → nat_lt m (b + width) ≡ r → (nat_le 0 m && nat_le b (m - 0)) ≡ e → cond r b (cond e m (b + (m - b) / width * width)) ≤ t
      by true e inside past = from
      by false true inside past = within
      by false false inside past = absurd (grind (arith, nat_tests))

  all_behind-begun : (width b : ℕ) (samples : List Sample) → b ≤ t → AllByRecursion Before samples → AllByRecursion (λ (m : ℕ). m ≤ t) (begins_behind width 0 b (map (λ s. s.moment) samples))
  all_behind-begun width b [] from all = tt
  all_behind-begun width b (s ∷ samples) from all =
      let one = behind-begun width b s.moment from all.0 in (one, all_behind-begun width (begin_behind width 0 b s.moment) samples one all.1)

  begins-begun : (width : ℕ) (samples : List Sample) → AllByRecursion Before samples → AllByRecursion (λ (m : ℕ). m ≤ t) (begins width 0 (map (λ s. s.moment) samples))
  begins-begun width [] all = tt
  begins-begun width (s ∷ samples) all = (all.0, all_behind-begun width s.moment samples all.0 all.1)

  none-inside : (samples : List Sample) (ms : List ℕ) → AllByRecursion (λ (m : ℕ). m ≤ t) ms → filter (λ (p : Sample × ℕ). in_window 0 t p.1) (zip samples ms) ≡ []
  none-inside [] ms all = refl
  none-inside (s ∷ samples) [] all = refl
  none-inside (s ∷ samples) (m ∷ ms) all =
      let out : in_window 0 t m ≡ false = out-at m all.0 in
      let rest = filter (λ (p : Sample × ℕ). in_window 0 t p.1) (zip samples ms) in
      ap (λ r. cond r ((s, m) ∷ rest) rest) out ∙ none-inside samples ms all.1
    where
      out-at : (b : ℕ) → b ≤ t → in_window 0 t b ≡ false
      out-at b from = grind (arith, nat_tests)

  none-kept : (limit width : ℕ) (calls : List Addition) → limit * width ≡ 0 → AllByRecursion Before (added_samples calls) → kept_here limit width t calls ≡ ascending (window_here limit width t calls)
  none-kept limit width calls none all =
      let w = added_all (empty_summary limit width) calls in
      let build = all-build calls (empty_summary limit width) in
      let samples = added_samples calls in
      ap (λ span. ascending (values (kept_in_window span t w.kept))) ((λ i. build.0 i * build.1 i) ∙ none)
      ∙ ap (λ l. ascending (values l)) (none-in w.kept (all-begun calls (empty_summary limit width) all tt))
      ∙ sym (ap (λ (l : List (Sample × ℕ)). ascending (map (λ p. p.0.value) l)) (none-inside samples (begins width 0 (map (λ s. s.moment) samples)) (begins-begun width samples all)))
      ∙ sym (ap (λ span. ascending (window width span t samples)) none)
    where
      values : List Bucket → List ℤ
      values buckets = flat_map (λ bucket. bucket.values) buckets

-- ---- quantiles

module _ (t : ℕ) (calls : List Addition) (rising : NeverFall (added_samples calls)) (before : NoneAfter t (added_samples calls)) where
  kept-spanned : (limit width : ℕ) → kept_here limit width t calls ≡ ascending (window_here limit width t calls)
  kept-spanned zero width = none-kept t zero width calls (omega arith) (recursion_from_All _ _ before)
  kept-spanned (suc limit) zero = none-kept t (suc limit) zero calls (omega arith) (recursion_from_All _ _ before)
  kept-spanned (suc limit) (suc width) = kept-wide (suc limit) (suc width) t calls (omega arith) (omega arith) rising before

pub in_time-kept : (settings : ExporterSettings) (t : ℕ) (series : Series) → IsInTime t series → HaveSameQuantiles (kept_window settings t series) (window_of settings t series)
in_time-kept settings t series timely q =
    let calls = additions_of series.calls in
    let same = added-samples series.calls in
    let width = settings.bucket_duration in
    let span = settings.bucket_count * settings.bucket_duration in
    ap (quantile_of q) (kept-spanned t calls (subst NeverFall (sym same) timely.0) (subst (NoneAfter t) (sym same) timely.1) settings.bucket_count width)
    ∙ ap (λ value. unwrap_or value (pos 0)) (nearest_rank-ascending (clamped q) (window width span t (added_samples calls)))
    ∙ ap (λ samples. quantile_of q (window width span t samples)) same
