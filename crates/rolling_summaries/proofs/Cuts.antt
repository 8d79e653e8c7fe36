-- How samples are cut into calls doesn't matter where moments never fall.
use Rattle.std.proofs.Common.{◌≡◌, ℕ, zero, suc, ◌+◌, ◌<◌, ◌≤◌, List, [], ◌∷◌, ◌++◌, refl, sym, ap, subst, ◌∙◌, arith, append-nil, append_assoc}
use Rattle.std.specs.Prelude.{ℤ, fold, replicate}
use Rattle.std.proofs.lemmas.List.Elements.{All-push}
use Rattle.std.proofs.lemmas.List.Sums.{fold-append}
use Rattle.metrics_core.specs.Numbers.{in_64_bits}
use Rattle.metrics_registry.specs.Quantiles.{ascending}
use Rattle.metrics_registry.specs.QuantileLaws.{ascending-left}
use Rattle.rolling_summaries.specs.declared.buckets.Bucket.{Bucket}
use Rattle.rolling_summaries.specs.Window.{Sample}
use Rattle.rolling_summaries.specs.Summaries.{Summary, kept_by, kept_after, added}
use Rattle.rolling_summaries.specs.Standing.{NoneAfter, StandsFor, same_samples, Addition, added_samples, added_all, NeverFall, SameInAnyCuts}
use Rattle.rolling_summaries.specs.StandingLaws.{none-after}
use Rattle.rolling_summaries.proofs.Landed.{Lands, lands, taker-newest, stands-more}

-- one sample more
abbrev one_more : Summary → Sample → Summary
one_more summary s = added s.moment s.value 1 summary

-- samples of one moment, the first one apart
kept_after-cut : (limit width t n : ℕ) (v : ℤ) (kept : List Bucket) (samples : List Sample) (l : Lands limit width t kept samples)
    → kept_after limit width t (replicate (suc n) v) (kept_after limit width t (replicate 1 v) kept) ≡ kept_after limit width t (replicate (suc (suc n)) v) kept
kept_after-cut limit width t n v kept samples l =
    let first : Bucket = record { begin = l.begin; values = ascending (l.held ++ v ∷ []) } in
    ap (kept_after limit width t (replicate (suc n) v)) (l.after (v ∷ []))
    ∙ ap (kept_by limit width t (replicate (suc n) v) (first ∷ l.rest)) (taker-newest width t first l.rest l.from l.until)
    ∙ ap (λ values. record { begin = l.begin; values = values } ∷ l.rest)
    (ascending-left (l.held ++ v ∷ []) (replicate (suc n) v) ∙ ap ascending (append_assoc l.held (v ∷ []) (replicate (suc n) v)))
    ∙ sym (l.after (replicate (suc (suc n)) v))

-- the summary after calls is that after their samples one by one
one_by_one : (n : ℕ) (v : ℤ) (t : ℕ) (summary : Summary) (samples : List Sample) → 0 < summary.limit → 0 < summary.width → StandsFor summary samples → NoneAfter t samples
    → added t v n summary ≡ fold one_more summary (same_samples v t n)
one_by_one zero v t summary samples some wide stands before = refl
one_by_one (suc zero) v t summary samples some wide stands before = refl
one_by_one (suc (suc n)) v t summary samples some wide stands before =
    let x : Sample = record { value = v; moment = t } in
    let l = lands summary.limit summary.width t summary.kept samples some wide stands.newest (stands.holds t before) in
    let first = stands-more summary.limit summary.width summary.kept summary.count t 0 v samples some wide stands before in
    let counts : in_64_bits (summary.count + suc (suc n)) ≡ in_64_bits (in_64_bits (summary.count + 1) + suc n) = omega arith in
    (λ j. record summary { kept = sym (kept_after-cut summary.limit summary.width t n v summary.kept samples l) j; count = counts j })
    ∙ one_by_one (suc n) v t (added t v 1 summary) (samples ++ x ∷ []) some wide first (All-push (λ (s : Sample). s.moment ≤ t) samples x before (omega arith))

stands-any : (n : ℕ) (v : ℤ) (t : ℕ) (summary : Summary) (samples : List Sample) → 0 < summary.limit → 0 < summary.width → StandsFor summary samples → NoneAfter t samples
    → StandsFor (added t v n summary) (samples ++ same_samples v t n)
stands-any zero v t summary samples some wide stands before = subst (StandsFor summary) (sym (append-nil samples)) stands
stands-any (suc n) v t summary samples some wide stands before = stands-more summary.limit summary.width summary.kept summary.count t n v samples some wide stands before

-- ---- calls in turn

abbrev OneByOne : List Addition → Summary → List Sample → Type 0
OneByOne calls summary samples =
    0 < summary.limit → 0 < summary.width → StandsFor summary samples → NeverFall (samples ++ added_samples calls)
    → added_all summary calls ≡ fold one_more summary (added_samples calls)

call-more : (n : ℕ) (v : ℤ) (t : ℕ) (calls : List Addition) → ((summary : Summary) (samples : List Sample) → OneByOne calls summary samples)
    → (summary : Summary) (samples : List Sample) → 0 < summary.limit → 0 < summary.width → StandsFor summary samples
    → NeverFall (samples ++ (same_samples v t n ++ added_samples calls))
    → added_all (added t v n summary) calls ≡ fold one_more summary (same_samples v t n ++ added_samples calls)
call-more zero v t calls rest summary samples some wide stands rising = rest summary samples some wide stands rising
call-more (suc n) v t calls rest summary samples some wide stands rising =
    let x : Sample = record { value = v; moment = t } in
    let before = none-after samples (replicate n x ++ added_samples calls) x rising in
    rest (added t v (suc n) summary) (samples ++ same_samples v t (suc n)) some wide (stands-any (suc n) v t summary samples some wide stands before)
    (subst NeverFall (sym (append_assoc samples (same_samples v t (suc n)) (added_samples calls))) rising)
    ∙ ap (λ s. fold one_more s (added_samples calls)) (one_by_one (suc n) v t summary samples some wide stands before)
    ∙ sym (fold-append one_more summary (same_samples v t (suc n)) (added_samples calls))

calls-one_by_one : (calls : List Addition) (summary : Summary) (samples : List Sample) → OneByOne calls summary samples
calls-one_by_one [] summary samples some wide stands rising = refl
calls-one_by_one (c ∷ calls) summary samples some wide stands rising =
    call-more c.samples c.value c.moment calls (calls-one_by_one calls) summary samples some wide stands rising

pub same_in_any_cuts : SameInAnyCuts
same_in_any_cuts summary samples xs ys some wide stands rising same =
    calls-one_by_one xs summary samples some wide stands rising
    ∙ ap (fold one_more summary) same
    ∙ sym (calls-one_by_one ys summary samples some wide stands (subst (λ more. NeverFall (samples ++ more)) same rising))
