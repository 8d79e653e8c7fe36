-- Where samples land that are not before the others, and what the summary stands for then.
use Rattle.std.proofs.Common.{◌≡◌, ℕ, zero, suc, ◌+◌, ◌-◌, ◌*◌, ◌/◌, ◌%◌, ◌<◌, ◌≤◌, Bool, true, false, cond, List, [], ◌∷◌, ◌++◌, map, length, take, Some, None, refl, sym, ap, subst, ◌∙◌, arith, append-nil, append_assoc, length-append}
use Rattle.std.specs.Prelude.{ℤ, Option, ◌&&◌, nat_lt, nat_le, replicate, zip}
use Rattle.std.specs.List.{All, position_from}
use Rattle.std.proofs.lemmas.Bool.Decides.{nat_tests}
use Rattle.std.proofs.lemmas.List.{length-replicate}
use Rattle.std.proofs.lemmas.List.Elements.{All-head, All-tail, All-cons, All-nil, All-append, All-weaker, All-replicate, filter_passes}
use Rattle.std.proofs.lemmas.Iterator.Adapters.{position_from-zero}
use Rattle.metrics_core.specs.Numbers.{in_64_bits}
use Rattle.metrics_registry.specs.Quantiles.{ascending}
use Rattle.metrics_registry.specs.QuantileLaws.{ascending-left}
use Rattle.rolling_summaries.specs.declared.buckets.Bucket.{Bucket}
use Rattle.rolling_summaries.specs.Window.{Sample, begin_behind, begins_behind}
use Rattle.rolling_summaries.specs.Summaries.{in_window, kept_in_window, takes, ends_search, taker, taker_from, aligned, newest_begin, begun, begun_at, kept_by, kept_after}
use Rattle.rolling_summaries.specs.Standing.{NoneAfter, begun_samples, last_behind, last_begin, Hold, StandsFor, same_samples}
use Rattle.rolling_summaries.proofs.Held.{Begun, begun_values, in-late, none-left, held-left, held-later, apart-length}

-- ---- the bucket that takes a sample

abbrev found : ℕ → ℕ → List Bucket → Option ℕ
found width t kept = position_from (ends_search width t) 0 kept

taker-is : (width t : ℕ) (kept : List Bucket) → taker width t kept ≡ taker_from width t kept (found width t kept)
taker-is width t kept = ap (taker_from width t kept) (position_from-zero (ends_search width t) kept)

takes-own : (width t : ℕ) (b : Bucket) → b.begin ≤ t → t < b.begin + width → takes width t b ≡ true
takes-own width t b from until = grind (arith, nat_tests)

takes-past : (width t : ℕ) (b : Bucket) → b.begin + width ≤ t → takes width t b ≡ false
takes-past width t b past = grind (arith, nat_tests)

ends-own : (width t : ℕ) (b : Bucket) → b.begin ≤ t → t < b.begin + width → ends_search width t b ≡ true
ends-own width t b from until = grind (arith, nat_tests)

ends-past : (width t : ℕ) (b : Bucket) → b.begin + width < t → ends_search width t b ≡ true
ends-past width t b past = grind (arith, nat_tests)

ends-at : (width t : ℕ) (b : Bucket) → t ≡ b.begin + width → ends_search width t b ≡ false
ends-at width t b at = grind (arith, nat_tests)

pub taker-newest : (width t : ℕ) (b : Bucket) (older : List Bucket) → b.begin ≤ t → t < b.begin + width → taker width t (b ∷ older) ≡ Some 0
taker-newest width t b older from until =
    taker-is width t (b ∷ older)
    ∙ ap (λ r. taker_from width t (b ∷ older) (cond r (Some 0) (position_from (ends_search width t) 1 older))) (ends-own width t b from until)
    ∙ ap (λ r. cond r (Some 0) None) (takes-own width t b from until)

pub taker-none : (width t : ℕ) (b : Bucket) (older : List Bucket) → 0 < width → b.begin + width ≤ t → All (λ o. o.begin + width ≤ b.begin) older → taker width t (b ∷ older) ≡ None
taker-none width t b older wide past apart =
    taker-is width t (b ∷ older) ∙ by (nat_lt (b.begin + width) t) refl older apart
  where
    by : (r : Bool) → nat_lt (b.begin + width) t ≡ r → (older : List Bucket) → All (λ o. o.begin + width ≤ b.begin) older → taker_from width t (b ∷ older) (found width t (b ∷ older)) ≡ None
    by true is older apart =
        let late : b.begin + width < t = grind (arith, nat_tests) in
        ap (λ r. taker_from width t (b ∷ older) (cond r (Some 0) (position_from (ends_search width t) 1 older))) (ends-past width t b late)
        ∙ ap (λ r. cond r (Some 0) None) (takes-past width t b past)
    by false is [] apart =
        let at : t ≡ b.begin + width = grind (arith, nat_tests) in
        ap (λ r. taker_from width t (b ∷ []) (cond r (Some 0) None)) (ends-at width t b at)
    by false is (o ∷ os) apart =
        let at : t ≡ b.begin + width = grind (arith, nat_tests) in
        let older : o.begin + width ≤ b.begin = All-head (λ (o : Bucket). o.begin + width ≤ b.begin) o os apart in
        ap (λ r. taker_from width t (b ∷ o ∷ os) (cond r (Some 0) (position_from (ends_search width t) 1 (o ∷ os)))) (ends-at width t b at)
        ∙ ap (λ r. taker_from width t (b ∷ o ∷ os) (cond r (Some 1) (position_from (ends_search width t) 2 os))) (ends-past width t o (omega arith))
        ∙ ap (λ r. cond r (Some 1) None) (takes-past width t o (omega arith))

-- ---- the begin of the next sample

abbrev moments : List Sample → List ℕ
moments samples = map (λ s. s.moment) samples

abbrev pub next_begin : ℕ → ℕ → List Sample → ℕ → ℕ
next_begin width span [] t = t
next_begin width span (s ∷ samples) t = begin_behind width span (last_behind width span s.moment (moments samples)) t

begin_behind-own : (width span b t : ℕ) → t < b + width → begin_behind width span b t ≡ b
begin_behind-own width span b t until =
    let own : nat_lt t (b + width) ≡ true = grind (arith, nat_tests) in
    ap (λ r. cond r b (cond (nat_le span t && nat_le b (t - span)) t (aligned width b t))) own

begin_behind-past : (width span b t : ℕ) → b + width ≤ t → in_window span t b ≡ false → begin_behind width span b t ≡ t
begin_behind-past width span b t past out =
    let other : nat_lt t (b + width) ≡ false = grind (arith, nat_tests) in
    let gone : (nat_le span t && nat_le b (t - span)) ≡ true = grind (arith, nat_tests) in
    ap (λ r. cond r b (cond (nat_le span t && nat_le b (t - span)) t (aligned width b t))) other
    ∙ ap (λ r. cond r t (aligned width b t)) gone

begin_behind-next : (width span b t : ℕ) → b + width ≤ t → in_window span t b ≡ true → begin_behind width span b t ≡ aligned width b t
begin_behind-next width span b t past within =
    let other : nat_lt t (b + width) ≡ false = grind (arith, nat_tests) in
    let left : (nat_le span t && nat_le b (t - span)) ≡ false = grind (arith, nat_tests) in
    ap (λ r. cond r b (cond (nat_le span t && nat_le b (t - span)) t (aligned width b t))) other
    ∙ ap (λ r. cond r t (aligned width b t)) left

zip-behind : (width span b : ℕ) (xs ys : List Sample)
    → zip (xs ++ ys) (begins_behind width span b (moments (xs ++ ys)))
    ≡ zip xs (begins_behind width span b (moments xs)) ++ zip ys (begins_behind width span (last_behind width span b (moments xs)) (moments ys))
zip-behind width span b [] ys = refl
zip-behind width span b (x ∷ xs) ys = ap (λ l. (x, begin_behind width span b x.moment) ∷ l) (zip-behind width span (begin_behind width span b x.moment) xs ys)

zip-same : (width span b n : ℕ) (x : Sample) → x.moment < b + width → zip (replicate n x) (begins_behind width span b (moments (replicate n x))) ≡ replicate n (x, b)
zip-same width span b zero x until = refl
zip-same width span b (suc n) x until =
    ap (λ g. (x, g) ∷ zip (replicate n x) (begins_behind width span g (moments (replicate n x)))) (begin_behind-own width span b x.moment until)
    ∙ ap (λ l. (x, b) ∷ l) (zip-same width span b n x until)

zip-next : (width span b g n : ℕ) (x : Sample) → begin_behind width span b x.moment ≡ g → x.moment < g + width
    → zip (replicate (suc n) x) (begins_behind width span b (moments (replicate (suc n) x))) ≡ replicate (suc n) (x, g)
zip-next width span b g n x next until =
    ap (λ g. (x, g) ∷ zip (replicate n x) (begins_behind width span g (moments (replicate n x)))) next
    ∙ ap (λ l. (x, g) ∷ l) (zip-same width span g n x until)

pub begun_samples-more : (width span g n : ℕ) (samples : List Sample) (x : Sample) → next_begin width span samples x.moment ≡ g → x.moment < g + width
    → begun_samples width span (samples ++ replicate (suc n) x) ≡ begun_samples width span samples ++ replicate (suc n) (x, g)
begun_samples-more width span g n [] x next until =
    ap (λ g. (x, g) ∷ zip (replicate n x) (begins_behind width span g (moments (replicate n x)))) next
    ∙ ap (λ l. (x, g) ∷ l) (zip-same width span g n x until)
begun_samples-more width span g n (s ∷ samples) x next until =
    ap (λ l. (s, s.moment) ∷ l) (
    zip-behind width span s.moment samples (replicate (suc n) x)
    ∙ ap (λ l. zip samples (begins_behind width span s.moment (moments samples)) ++ l) (zip-next width span (last_behind width span s.moment (moments samples)) g n x next until))

last_behind-append : (width span b : ℕ) (xs ys : List Sample) → last_behind width span b (moments (xs ++ ys)) ≡ last_behind width span (last_behind width span b (moments xs)) (moments ys)
last_behind-append width span b [] ys = refl
last_behind-append width span b (x ∷ xs) ys = last_behind-append width span (begin_behind width span b x.moment) xs ys

last_behind-same : (width span b n : ℕ) (x : Sample) → x.moment < b + width → last_behind width span b (moments (replicate n x)) ≡ b
last_behind-same width span b zero x until = refl
last_behind-same width span b (suc n) x until =
    ap (λ g. last_behind width span g (moments (replicate n x))) (begin_behind-own width span b x.moment until) ∙ last_behind-same width span b n x until

pub last_begin-more : (width span g n : ℕ) (samples : List Sample) (x : Sample) → next_begin width span samples x.moment ≡ g → x.moment < g + width
    → last_begin width span (samples ++ replicate (suc n) x) ≡ Some g
last_begin-more width span g n [] x next until =
    ap (λ g. Some (last_behind width span g (moments (replicate n x)))) next ∙ ap Some (last_behind-same width span g n x until)
last_begin-more width span g n (s ∷ samples) x next until =
    ap Some (
    last_behind-append width span s.moment samples (replicate (suc n) x)
    ∙ ap (λ g. last_behind width span g (moments (replicate n x))) next
    ∙ last_behind-same width span g n x until)

-- ---- where values land

pub record Lands (limit width t : ℕ) (kept : List Bucket) (samples : List Sample) : Type 0 where
  pub begin : ℕ
  pub held : List ℤ
  pub rest : List Bucket
  pub earlier : List Begun
  pub last : List Begun
  pub after : (values : List ℤ) → kept_after limit width t values kept ≡ record { begin = begin; values = ascending (held ++ values) } ∷ rest
  pub from : begin ≤ t
  pub until : t < begin + width
  pub next : next_begin width (limit * width) samples t ≡ begin
  pub split : begun_samples width (limit * width) samples ≡ earlier ++ last
  pub own : All (λ p. p.1 ≡ begin) last
  pub values : held ≡ ascending (begun_values last)
  pub apart : All (λ o. o.begin + width ≤ begin) rest
  pub holds : Hold width (limit * width) t rest earlier

take-short : {A : Type 0} (n : ℕ) (l : List A) → length l ≤ n → take n l ≡ l
take-short zero [] short = refl
take-short (suc n) [] short = refl
take-short zero (x ∷ l) short = absurd (omega arith)
take-short (suc n) (x ∷ l) short = ap (λ r. x ∷ r) (take-short n l (omega arith))

no_begun : (width : ℕ) (b : ℕ) → All (λ (p : Begun). p.1 ≡ b) []
no_begun width b = All-nil (λ (p : Begun). p.1 ≡ b)

no_older : (width b : ℕ) → All (λ (o : Bucket). o.begin + width ≤ b) []
no_older width b = All-nil (λ (o : Bucket). o.begin + width ≤ b)

alone : (limit t : ℕ) (values : List ℤ) → 0 < limit → begun_at limit values [] (Some t) ≡ record { begin = t; values = ascending values } ∷ []
alone limit t values some = take-short limit (record { begin = t; values = ascending values } ∷ []) (omega arith)

last-one : (width span b : ℕ) (samples : List Sample) (s : Sample) → Some b ≡ last_begin width span (s ∷ samples) → last_behind width span s.moment (moments samples) ≡ b
last-one width span b samples s newest = cc

product-least : (width q r d : ℕ) → q * width + r ≡ d → r < width → width ≤ d → width ≤ q * width
product-least width zero r d is small far = absurd (omega arith)
product-least width (suc q) r d is small far = omega arith

below-limit : (width k limit : ℕ) → k * width < limit * width → k < limit
below-limit width k zero less = absurd (omega arith)
below-limit width zero (suc limit) less = omega arith
below-limit width (suc k) (suc limit) less =
    let fewer : k < limit = below-limit width k limit (omega arith) in
    omega arith

pub aligned-after : (width b t : ℕ) → 0 < width → b + width ≤ t → b + width ≤ aligned width b t
aligned-after width b t wide past =
    let d = t - b in
    let parts : d / width * width + d % width ≡ d = omega arith in
    let least : width ≤ d / width * width = product-least width (d / width) (d % width) d parts (omega arith) (omega arith) in
    omega (arith, least)

aligned-from : (width b t : ℕ) → 0 < width → b ≤ t → aligned width b t ≤ t
aligned-from width b t wide past =
    let d = t - b in
    let parts : d / width * width + d % width ≡ d = omega arith in
    omega (arith, parts)

aligned-until : (width b t : ℕ) → 0 < width → b ≤ t → t < aligned width b t + width
aligned-until width b t wide past =
    let d = t - b in
    let parts : d / width * width + d % width ≡ d = omega arith in
    let small : d % width < width = omega arith in
    omega (arith, parts, small)

-- behind the newest bucket, which is in the window
landed-behind : (limit width t : ℕ) (b : Bucket) (older : List Bucket) (s : Sample) (samples : List Sample) → 0 < width
    → last_behind width (limit * width) s.moment (moments samples) ≡ b.begin
    → Hold width (limit * width) t (b ∷ older) (begun_samples width (limit * width) (s ∷ samples))
    → b.begin + width ≤ t → taker width t (b ∷ older) ≡ None → in_window (limit * width) t b.begin ≡ true → Lands limit width t (b ∷ older) (s ∷ samples)
landed-behind limit width t b older s samples wide last holds past none is =
    let span = limit * width in
    let all = begun_samples width span (s ∷ samples) in
    let left = kept_in_window span t older in
    let left-is : kept_in_window span t (b ∷ older) ≡ b ∷ left = ap (λ r. cond r (b ∷ left) left) is in
    let kept : Hold width span t (b ∷ left) all = subst (λ kept. Hold width span t kept all) left-is (held-left width span t (b ∷ older) all holds) in
    let within : All (λ o. in_window span t o.begin ≡ true) (b ∷ left) =
    subst (All (λ (o : Bucket). in_window span t o.begin ≡ true)) left-is (filter_passes (λ (o : Bucket). in_window span t o.begin) (b ∷ older)) in
    let late : All (λ o. t < o.begin + span) (b ∷ left) =
    All-weaker (λ (o : Bucket). in_window span t o.begin ≡ true) (λ (o : Bucket). t < o.begin + span) (λ o h. in-late span t o.begin h) (b ∷ left) within in
    let long : t + length left * width < b.begin + span = apart-length width span t b left all kept late in
    let few : length left + 1 < limit = below-limit width (length left + 1) limit (omega (arith, long, past)) in
    let after-newest : b.begin + width ≤ aligned width b.begin t = aligned-after width b.begin t wide past in
    let later : nat_lt b.begin t ≡ true = grind (arith, nat_tests) in
    record {
      begin = aligned width b.begin t;
      held = [];
      rest = b ∷ left;
      earlier = all;
      last = [];
      after = λ values.
          ap (kept_by limit width t values (b ∷ older)) none
          ∙ ap (begun limit width t values) left-is
          ∙ ap (λ r. begun_at limit values (b ∷ left) (cond r (Some (aligned width b.begin t)) None)) later
          ∙ take-short limit (record { begin = aligned width b.begin t; values = ascending values } ∷ b ∷ left) (omega (arith, few));
      from = aligned-from width b.begin t wide (omega arith);
      until = aligned-until width b.begin t wide (omega arith);
      next = ap (λ g. begin_behind width span g t) last ∙ begin_behind-next width span b.begin t past is;
      split = sym (append-nil all);
      own = no_begun width (aligned width b.begin t);
      values = refl;
      apart = All-cons (λ (o : Bucket). o.begin + width ≤ aligned width b.begin t) b left after-newest
          (All-weaker (λ (o : Bucket). o.begin + width ≤ b.begin) (λ (o : Bucket). o.begin + width ≤ aligned width b.begin t) (λ o h. omega (arith, h, after-newest)) left kept.1.1.1.0.apart);
      holds = kept;
    }

landed-past : (limit width t : ℕ) (b : Bucket) (older : List Bucket) (s : Sample) (samples : List Sample) → 0 < limit → 0 < width
    → last_behind width (limit * width) s.moment (moments samples) ≡ b.begin
    → Hold width (limit * width) t (b ∷ older) (begun_samples width (limit * width) (s ∷ samples))
    → b.begin + width ≤ t → (r : Bool) → in_window (limit * width) t b.begin ≡ r → Lands limit width t (b ∷ older) (s ∷ samples)
landed-past limit width t b older s samples some wide last holds past true is =
    landed-behind limit width t b older s samples wide last holds past (taker-none width t b older wide past holds.1.1.1.0.apart) is
landed-past limit width t b older s samples some wide last holds past false is =
    let span = limit * width in
    let all = begun_samples width span (s ∷ samples) in
    let none = taker-none width t b older wide past holds.1.1.1.0.apart in
    let gone = none-left width span t b older is holds.1.1.1.0.apart in
    record {
      begin = t;
      held = [];
      rest = [];
      earlier = all;
      last = [];
      after = λ values. ap (kept_by limit width t values (b ∷ older)) none ∙ ap (begun limit width t values) gone ∙ alone limit t values some;
      from = omega arith;
      until = omega arith;
      next = ap (λ g. begin_behind width span g t) last ∙ begin_behind-past width span b.begin t past is;
      split = sym (append-nil all);
      own = no_begun width t;
      values = refl;
      apart = no_older width t;
      holds = subst (λ kept. Hold width span t kept all) gone (held-left width span t (b ∷ older) all holds);
    }

pub lands : (limit width t : ℕ) (kept : List Bucket) (samples : List Sample) → 0 < limit → 0 < width
    → newest_begin kept ≡ last_begin width (limit * width) samples
    → Hold width (limit * width) t kept (begun_samples width (limit * width) samples) → Lands limit width t kept samples
lands limit width t [] [] some wide newest holds = record {
  begin = t;
  held = [];
  rest = [];
  earlier = [];
  last = [];
  after = λ values. alone limit t values some;
  from = omega arith;
  until = omega arith;
  next = refl;
  split = refl;
  own = no_begun width t;
  values = refl;
  apart = no_older width t;
  holds = holds;
}
lands limit width t [] (s ∷ samples) some wide newest holds = cc
lands limit width t (b ∷ older) [] some wide newest holds = cc
lands limit width t (b ∷ older) (s ∷ samples) some wide newest holds = by (nat_lt t (b.begin + width)) refl
  where
    latest : last_behind width (limit * width) s.moment (moments samples) ≡ b.begin
    latest = last-one width (limit * width) b.begin samples s newest

    by : (r : Bool) → nat_lt t (b.begin + width) ≡ r → Lands limit width t (b ∷ older) (s ∷ samples)
    by true is =
        let until : t < b.begin + width = grind (arith, nat_tests) in
        record {
          begin = b.begin;
          held = b.values;
          rest = older;
          earlier = holds.0;
          last = holds.1.0;
          after = λ values. ap (kept_by limit width t values (b ∷ older)) (taker-newest width t b older holds.1.1.1.0.begun until);
          from = holds.1.1.1.0.begun;
          until = until;
          next = ap (λ g. begin_behind width (limit * width) g t) latest ∙ begin_behind-own width (limit * width) b.begin t until;
          split = holds.1.1.0;
          own = holds.1.1.1.0.own;
          values = holds.1.1.1.0.values;
          apart = holds.1.1.1.0.apart;
          holds = holds.1.1.1.1;
        }
    by false is =
        landed-past limit width t b older s samples some wide latest holds (grind (arith, nat_tests)) (in_window (limit * width) t b.begin) refl

-- ---- the samples that it then stands for

begun_values-same : (n : ℕ) (x : Sample) (g : ℕ) → begun_values (replicate n (x, g)) ≡ replicate n x.value
begun_values-same zero x g = refl
begun_values-same (suc n) x g = ap (λ l. x.value ∷ l) (begun_values-same n x g)

begun_values-append : (xs ys : List Begun) → begun_values (xs ++ ys) ≡ begun_values xs ++ begun_values ys
begun_values-append [] ys = refl
begun_values-append (x ∷ xs) ys = ap (λ l. x.0.value ∷ l) (begun_values-append xs ys)

held-more : (limit width t n : ℕ) (kept : List Bucket) (samples : List Sample) (x : Sample) → t ≡ x.moment → (l : Lands limit width t kept samples)
    → Hold width (limit * width) t (record { begin = l.begin; values = ascending (l.held ++ replicate n x.value) } ∷ l.rest)
    (begun_samples width (limit * width) samples ++ replicate n (x, l.begin))
held-more limit width t n kept samples x at l =
    let more = replicate n (x, l.begin) in (
      l.earlier,
      (
        l.last ++ more,
        (
          ap (λ b. b ++ more) l.split ∙ append_assoc l.earlier l.last more,
          (
            record {
              own = All-append (λ (p : Begun). p.1 ≡ l.begin) l.last more l.own (All-replicate (λ (p : Begun). p.1 ≡ l.begin) n (x, l.begin) refl);
              values =
                  ap (λ h. ascending (h ++ replicate n x.value)) l.values
                  ∙ ascending-left (begun_values l.last) (replicate n x.value)
                  ∙ ap (λ v. ascending (begun_values l.last ++ v)) (sym (begun_values-same n x l.begin))
                  ∙ ap ascending (sym (begun_values-append l.last more));
              begun = l.from;
              apart = l.apart;
            },
            l.holds,
          ),
        ),
      ),
    )

-- a moment that no sample is after isn't before any of them
all-middle : (t : ℕ) (xs ys : List Sample) (y : Sample) → NoneAfter t (xs ++ y ∷ ys) → y.moment ≤ t
all-middle t [] ys y all = All-head (λ (s : Sample). s.moment ≤ t) y ys all
all-middle t (x ∷ xs) ys y all = all-middle t xs ys y (All-tail (λ (s : Sample). s.moment ≤ t) x (xs ++ y ∷ ys) all)

counted : (count k n : ℕ) → count ≡ in_64_bits k → in_64_bits (count + n) ≡ in_64_bits (k + n)
counted count k n is = ap (λ c. in_64_bits (c + n)) is ∙ omega arith

pub stands-more : (limit width : ℕ) (kept : List Bucket) (count t n : ℕ) (v : ℤ) (samples : List Sample) → 0 < limit → 0 < width
    → StandsFor (record { limit = limit; width = width; kept = kept; count = count }) samples → NoneAfter t samples
    → StandsFor (record { limit = limit; width = width; kept = kept_after limit width t (replicate (suc n) v) kept; count = in_64_bits (count + suc n) }) (samples ++ same_samples v t (suc n))
stands-more limit width kept count t n v samples some wide stands before =
    let span = limit * width in
    let x : Sample = record { value = v; moment = t } in
    let l = lands limit width t kept samples some wide stands.newest (stands.holds t before) in
    let after = l.after (replicate (suc n) v) in
    record {
      count = counted count (length samples) (suc n) stands.count ∙ ap in_64_bits (sym (length-append samples (replicate (suc n) x) ∙ ap (λ m. length samples + m) (length-replicate (suc n) x)));
      newest = ap newest_begin after ∙ sym (last_begin-more width span l.begin n samples x l.next l.until);
      holds = λ u all.
          subst (λ begun. Hold width span u (kept_after limit width t (replicate (suc n) v) kept) begun) (sym (begun_samples-more width span l.begin n samples x l.next l.until))
          (subst (λ kept. Hold width span u kept (begun_samples width span samples ++ replicate (suc n) (x, l.begin))) (sym after)
          (held-later width span t u (record { begin = l.begin; values = ascending (l.held ++ replicate (suc n) v) } ∷ l.rest) (begun_samples width span samples ++ replicate (suc n) (x, l.begin)) (all-middle u samples (replicate n x) x all) (held-more limit width t (suc n) kept samples x refl l)));
    }

pub stands-added : (limit width : ℕ) (kept new : List Bucket) (count more t n : ℕ) (v : ℤ) (samples : List Sample) → 0 < limit → 0 < width → 0 < n → more ≡ n
    → new ≡ kept_after limit width t (replicate n v) kept
    → StandsFor (record { limit = limit; width = width; kept = kept; count = count }) samples → NoneAfter t samples
    → StandsFor (record { limit = limit; width = width; kept = new; count = in_64_bits (count + more) }) (samples ++ same_samples v t n)
stands-added limit width kept new count more t zero v samples some wide many same is stands before = absurd (omega arith)
stands-added limit width kept new count more t (suc n) v samples some wide many same is stands before =
    subst (λ m. StandsFor (record { limit = limit; width = width; kept = new; count = in_64_bits (count + m) }) (samples ++ same_samples v t (suc n))) (sym same)
    (subst (λ kept. StandsFor (record { limit = limit; width = width; kept = kept; count = in_64_bits (count + suc n) }) (samples ++ same_samples v t (suc n))) (sym is)
    (stands-more limit width kept count t n v samples some wide stands before))
