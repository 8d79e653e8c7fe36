-- What the buckets of a summary hold of the samples that it stands for.
use Rattle.std.proofs.Common.{◌≡◌, ℕ, ◌+◌, ◌*◌, ◌<◌, ◌≤◌, Bool, true, false, cond, List, [], ◌∷◌, ◌++◌, map, length, refl, sym, ap, subst, ◌∙◌, arith}
use Rattle.std.specs.Prelude.{ℤ, count_by, filter}
use Rattle.std.specs.List.{All}
use Rattle.std.specs.Ordering.{int_eq}
use Rattle.std.proofs.lemmas.Bool.Decides.{nat_tests}
use Rattle.std.proofs.lemmas.List.Elements.{filter-append, All-head, All-tail, All-cons, All-append, All-weaker, All-filter}
use Rattle.std.proofs.lemmas.List.Sums.{sum_by-append}
use Rattle.metrics_registry.specs.Quantiles.{ascending}
use Rattle.metrics_registry.specs.QuantileLaws.{same_ascending, count_by-ascending}
use Rattle.rolling_summaries.specs.declared.buckets.Bucket.{Bucket}
use Rattle.rolling_summaries.specs.Window.{Sample, window}
use Rattle.rolling_summaries.specs.Summaries.{Summary, in_window, kept_in_window, snapshot_at}
use Rattle.rolling_summaries.specs.Standing.{NoneAfter, begun_samples, HasLast, Hold, StandsFor}
use Rattle.rolling_summaries.proofs.Kept.{values_of}

-- ---- in and out of the window

out-not_in : (span t b : ℕ) → b + span ≤ t → in_window span t b ≡ false
out-not_in span t b out = grind (arith, nat_tests)

pub not_in-out : (span t b : ℕ) → in_window span t b ≡ false → b + span ≤ t
not_in-out span t b out = grind (arith, nat_tests)

pub in-late : (span t b : ℕ) → in_window span t b ≡ true → t < b + span
in-late span t b within = grind (arith, nat_tests)

abbrev pub Begun : Type 0
Begun = Sample × ℕ

abbrev begun_in : ℕ → ℕ → List Begun → List Begun
begun_in span t begun = filter (λ p. in_window span t p.1) begun

abbrev pub begun_values : List Begun → List ℤ
begun_values begun = map (λ p. p.0.value) begun

abbrev pub AllOut : ℕ → ℕ → List Begun → Type 0
AllOut span t begun = All (λ p. p.1 + span ≤ t) begun

begun_in-out : (span t : ℕ) (begun : List Begun) → AllOut span t begun → begun_in span t begun ≡ []
begun_in-out span t [] out = refl
begun_in-out span t (p ∷ ps) out =
    ap (λ b. cond b (p ∷ begun_in span t ps) (begun_in span t ps)) (out-not_in span t p.1 (All-head (λ (p : Begun). p.1 + span ≤ t) p ps out))
    ∙ begun_in-out span t ps (All-tail (λ (p : Begun). p.1 + span ≤ t) p ps out)

-- samples of one begin are in the window together
begun_in-own : (span t b : ℕ) (last : List Begun) (r : Bool) → in_window span t b ≡ r → All (λ p. p.1 ≡ b) last → begun_in span t last ≡ cond r last []
begun_in-own span t b [] true is own = refl
begun_in-own span t b [] false is own = refl
begun_in-own span t b (p ∷ ps) true is own =
    ap (λ v. cond v (p ∷ begun_in span t ps) (begun_in span t ps)) (ap (in_window span t) (All-head (λ (p : Begun). p.1 ≡ b) p ps own) ∙ is)
    ∙ ap (λ l. p ∷ l) (begun_in-own span t b ps true is (All-tail (λ (p : Begun). p.1 ≡ b) p ps own))
begun_in-own span t b (p ∷ ps) false is own =
    ap (λ v. cond v (p ∷ begun_in span t ps) (begun_in span t ps)) (ap (in_window span t) (All-head (λ (p : Begun). p.1 ≡ b) p ps own) ∙ is)
    ∙ begun_in-own span t b ps false is (All-tail (λ (p : Begun). p.1 ≡ b) p ps own)

-- ---- the window

abbrev copies : ℤ → List ℤ → ℕ
copies v xs = count_by (int_eq v) xs

copies-append : (v : ℤ) (xs ys : List ℤ) → copies v (xs ++ ys) ≡ copies v xs + copies v ys
copies-append v xs ys = sum_by-append (λ x. cond (int_eq v x) 1 0) xs ys

begun_values-append : (xs ys : List Begun) → begun_values (xs ++ ys) ≡ begun_values xs ++ begun_values ys
begun_values-append [] ys = refl
begun_values-append (x ∷ xs) ys = ap (λ l. x.0.value ∷ l) (begun_values-append xs ys)

held-copies : (width span t : ℕ) (v : ℤ) (kept : List Bucket) (begun : List Begun) → Hold width span t kept begun
    → copies v (values_of (kept_in_window span t kept)) ≡ copies v (begun_values (begun_in span t begun))
held-copies width span t v [] begun out = ap (λ l. copies v (begun_values l)) (sym (begun_in-out span t begun out))
held-copies width span t v (b ∷ older) begun (earlier, (last, (split, (has, rest)))) =
    by (held-copies width span t v older earlier rest) (in_window span t b.begin) refl
    ∙ sym (ap (λ l. copies v (begun_values l)) (ap (begun_in span t) split ∙ filter-append (λ (p : Begun). in_window span t p.1) earlier last))
  where
    apart : copies v (begun_values (begun_in span t earlier ++ begun_in span t last)) ≡ copies v (begun_values (begun_in span t earlier)) + copies v (begun_values (begun_in span t last))
    apart = ap (copies v) (begun_values-append (begun_in span t earlier) (begun_in span t last)) ∙ copies-append v (begun_values (begun_in span t earlier)) (begun_values (begun_in span t last))

    own : copies v b.values ≡ copies v (begun_values last)
    own = ap (copies v) has.values ∙ count_by-ascending v (begun_values last)

    by : copies v (values_of (kept_in_window span t older)) ≡ copies v (begun_values (begun_in span t earlier)) → (r : Bool) → in_window span t b.begin ≡ r
        → copies v (values_of (cond r (b ∷ kept_in_window span t older) (kept_in_window span t older))) ≡ copies v (begun_values (begun_in span t earlier ++ begun_in span t last))
    by held true is =
        omega (arith, copies-append v b.values (values_of (kept_in_window span t older)), held, own, apart, ap (λ l. copies v (begun_values l)) (begun_in-own span t b.begin last true is has.own))
    by held false is =
        omega (arith, held, apart, ap (λ l. copies v (begun_values l)) (begun_in-own span t b.begin last false is has.own))

pub held-window : (width span t : ℕ) (kept : List Bucket) (begun : List Begun) → Hold width span t kept begun
    → ascending (values_of (kept_in_window span t kept)) ≡ ascending (begun_values (begun_in span t begun))
held-window width span t kept begun held =
    same_ascending (values_of (kept_in_window span t kept)) (begun_values (begun_in span t begun)) (λ v. held-copies width span t v kept begun held)

-- ---- later moments, and buckets dropped

pub held-later : (width span t u : ℕ) (kept : List Bucket) (begun : List Begun) → t ≤ u → Hold width span t kept begun → Hold width span u kept begun
held-later width span t u [] begun later out =
    All-weaker (λ (p : Begun). p.1 + span ≤ t) (λ (p : Begun). p.1 + span ≤ u) (λ p h. omega arith) begun out
held-later width span t u (b ∷ older) begun later (earlier, (last, (split, (has, rest)))) =
    (earlier, (last, (split, (record { own = has.own; values = has.values; begun = omega (arith, has.begun); apart = has.apart }, held-later width span t u older earlier later rest))))

abbrev AllBucketsOut : ℕ → ℕ → List Bucket → Type 0
AllBucketsOut span t kept = All (λ b. b.begin + span ≤ t) kept

pub all_out : (width span t : ℕ) (kept : List Bucket) (begun : List Begun) → Hold width span t kept begun → AllBucketsOut span t kept → AllOut span t begun
all_out width span t [] begun out buckets = out
all_out width span t (b ∷ older) begun (earlier, (last, (split, (has, rest)))) buckets =
    let front = all_out width span t older earlier rest (All-tail (λ (b : Bucket). b.begin + span ≤ t) b older buckets) in
    let head : b.begin + span ≤ t = All-head (λ (b : Bucket). b.begin + span ≤ t) b older buckets in
    let back = All-weaker (λ (p : Begun). p.1 ≡ b.begin) (λ (p : Begun). p.1 + span ≤ t) (λ p own. omega (arith, own, head)) last has.own in
    subst (AllOut span t) (sym split) (All-append (λ (p : Begun). p.1 + span ≤ t) earlier last front back)

kept_in-out : (span t : ℕ) (kept : List Bucket) → AllBucketsOut span t kept → kept_in_window span t kept ≡ []
kept_in-out span t [] out = refl
kept_in-out span t (b ∷ older) out =
    ap (λ v. cond v (b ∷ kept_in_window span t older) (kept_in_window span t older)) (out-not_in span t b.begin (All-head (λ (b : Bucket). b.begin + span ≤ t) b older out))
    ∙ kept_in-out span t older (All-tail (λ (b : Bucket). b.begin + span ≤ t) b older out)

-- where the newest bucket is out of the window, so are the older ones
older_out : (width span t : ℕ) (b : Bucket) (older : List Bucket) → b.begin + span ≤ t → All (λ o. o.begin + width ≤ b.begin) older → AllBucketsOut span t (b ∷ older)
older_out width span t b older out apart =
    All-cons (λ (b : Bucket). b.begin + span ≤ t) b older out
    (All-weaker (λ (o : Bucket). o.begin + width ≤ b.begin) (λ (o : Bucket). o.begin + span ≤ t) (λ o h. omega (arith, h, out)) older apart)

pub none-left : (width span t : ℕ) (b : Bucket) (older : List Bucket) → in_window span t b.begin ≡ false → All (λ o. o.begin + width ≤ b.begin) older → kept_in_window span t (b ∷ older) ≡ []
none-left width span t b older out apart = kept_in-out span t (b ∷ older) (older_out width span t b older (not_in-out span t b.begin out) apart)

pub held-left : (width span t : ℕ) (kept : List Bucket) (begun : List Begun) → Hold width span t kept begun → Hold width span t (kept_in_window span t kept) begun
held-left width span t [] begun out = out
held-left width span t (b ∷ older) begun (earlier, (last, (split, (has, rest)))) =
    by (held-left width span t older earlier rest) (in_window span t b.begin) refl
  where
    own : HasLast width t b (kept_in_window span t older) last
    own = record {
      own = has.own;
      values = has.values;
      begun = has.begun;
      apart = All-filter (λ (o : Bucket). in_window span t o.begin) (λ (o : Bucket). o.begin + width ≤ b.begin) older has.apart;
    }

    by : Hold width span t (kept_in_window span t older) earlier → (r : Bool) → in_window span t b.begin ≡ r
        → Hold width span t (cond r (b ∷ kept_in_window span t older) (kept_in_window span t older)) begun
    by left true is = (earlier, (last, (split, (own, left))))
    by left false is =
        let out = older_out width span t b older (not_in-out span t b.begin is) has.apart in
        subst (λ kept. Hold width span t kept begun) (sym (kept_in-out span t older (All-tail (λ (b : Bucket). b.begin + span ≤ t) b older out)))
        (all_out width span t (b ∷ older) begun (earlier, (last, (split, (has, rest)))) out)

-- ---- as many buckets as a summary was built for

pub apart-length : (width span t : ℕ) (b : Bucket) (older : List Bucket) (begun : List Begun) → Hold width span t (b ∷ older) begun
    → All (λ o. t < o.begin + span) (b ∷ older) → t + length older * width < b.begin + span
apart-length width span t b [] begun held late = omega (arith, All-head (λ (o : Bucket). t < o.begin + span) b [] late)
apart-length width span t b (o ∷ older) begun (earlier, (last, (split, (has, rest)))) late =
    let more : t + length older * width < o.begin + span = apart-length width span t o older earlier rest (All-tail (λ (o : Bucket). t < o.begin + span) b (o ∷ older) late) in
    let next : o.begin + width ≤ b.begin = All-head (λ (o : Bucket). o.begin + width ≤ b.begin) o older has.apart in
    omega (arith, more, next)

-- ---- what a summary that stands for samples has in its snapshot

pub snapshot-window : (summary : Summary) (t : ℕ) (samples : List Sample) → StandsFor summary samples → NoneAfter t samples
    → snapshot_at t summary ≡ ascending (window summary.width (summary.limit * summary.width) t samples)
snapshot-window summary t samples stands before =
    let span = summary.limit * summary.width in
    held-window summary.width span t summary.kept (begun_samples summary.width span samples) (stands.holds t before)
