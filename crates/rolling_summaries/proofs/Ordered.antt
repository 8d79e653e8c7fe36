-- What follows where the buckets of a summary are apart.
use Rattle.std.proofs.Common.{◌≡◌, ◌≢◌, ℕ, zero, suc, ◌+◌, ◌-◌, ◌*◌, ◌<◌, ◌≤◌, Bool, true, false, cond, List, [], ◌∷◌, ◌++◌, length, get_or, take, Some, None, refl, sym, ap, subst, ◌∙◌, arith, append-nil, append_assoc}
use Rattle.std.specs.Prelude.{ℤ, Option, option_map, filter, nat_lt, not, unwrap_or, slice_get}
use Rattle.std.specs.List.{All, prefix_len}
use Rattle.std.specs.List.Sorted.{IsPartitionedBy, IsPartitionPoint}
use Rattle.std.proofs.lemmas.Bool.Decides.{nat_tests}
use Rattle.std.proofs.lemmas.Option.{none-some, same_Some}
use Rattle.std.proofs.lemmas.List.Elements.{filter-append, All-head, All-tail, All-cons, All-nil, All-weaker, All-filter, All-get_or, All-take}
use Rattle.metrics_registry.specs.Quantiles.{ascending}
use Rattle.metrics_registry.specs.QuantileLaws.{ascending-left, ascending-again}
use Rattle.rolling_summaries.specs.declared.buckets.Bucket.{Bucket}
use Rattle.rolling_summaries.specs.Summaries.{in_window, kept_in_window, takes, ends_search, taker_at, taker_from, taker, aligned, joined, newest_begin, new_begin, begun_at, begun, kept_by, kept_after, Apart, AreOrdered}
use Rattle.rolling_summaries.proofs.Kept.{values_of, newest-here}
use Rattle.rolling_summaries.proofs.Held.{not_in-out, none-left}
use Rattle.rolling_summaries.proofs.Landed.{taker-newest, taker-none, aligned-after}

-- a bucket begins a width at least before b
abbrev Before : ℕ → Bucket → Bucket → Type 0
Before width b o = o.begin + width ≤ b.begin

All-front : (P : Bucket → Type 0) (xs ys : List Bucket) → All P (xs ++ ys) → All P xs
All-front P [] ys all = All-nil P
All-front P (x ∷ xs) ys all = All-cons P x xs (All-head P x (xs ++ ys) all) (All-front P xs ys (All-tail P x (xs ++ ys) all))

pub Apart-front : (width : ℕ) (xs ys : List Bucket) → Apart width (xs ++ ys) → Apart width xs
Apart-front width [] ys apart = tt
Apart-front width (x ∷ xs) ys apart = (All-front (Before width x) xs ys apart.0, Apart-front width xs ys apart.1)

-- ---- the window

in-newer : (width span t a b : ℕ) → a + width ≤ b → in_window span t a ≡ true → in_window span t b ≡ true
in-newer width span t a b newer within = grind (arith, nat_tests)

abbrev AllIn : ℕ → ℕ → List Bucket → Type 0
AllIn span t kept = All (λ b. in_window span t b.begin ≡ true) kept

all-in : (width span t n : ℕ) (kept : List Bucket) (o : Bucket) → Apart width kept → suc n ≡ length kept → o ≡ get_or kept n o → in_window span t o.begin ≡ true → AllIn span t kept
all-in width span t n [] o apart long own within = absurd (omega arith)
all-in width span t zero (b ∷ []) o apart long own within =
    All-cons (λ (b : Bucket). in_window span t b.begin ≡ true) b [] (ap (λ (x : Bucket). in_window span t x.begin) (sym own) ∙ within) (All-nil (λ (b : Bucket). in_window span t b.begin ≡ true))
all-in width span t (suc n) (b ∷ []) o apart long own within = absurd (omega arith)
all-in width span t zero (b ∷ c ∷ older) o apart long own within = absurd (omega arith)
all-in width span t (suc n) (b ∷ c ∷ older) o apart long own within =
    let rest = all-in width span t n (c ∷ older) o apart.1 (omega arith) own within in
    let newer : c.begin + width ≤ b.begin = All-head (Before width b) c older apart.0 in
    let next : in_window span t c.begin ≡ true = All-head (λ (b : Bucket). in_window span t b.begin ≡ true) c older rest in
    All-cons (λ (b : Bucket). in_window span t b.begin ≡ true) b (c ∷ older) (in-newer width span t c.begin b.begin newer next) rest

kept-all : (span t : ℕ) (kept : List Bucket) → AllIn span t kept → kept_in_window span t kept ≡ kept
kept-all span t [] all = refl
kept-all span t (b ∷ older) all =
    ap (λ v. cond v (b ∷ kept_in_window span t older) (kept_in_window span t older)) (All-head (λ (b : Bucket). in_window span t b.begin ≡ true) b older all)
    ∙ ap (λ l. b ∷ l) (kept-all span t older (All-tail (λ (b : Bucket). in_window span t b.begin ≡ true) b older all))

-- where the oldest bucket is in the window, so are all
pub kept-oldest : (width span t : ℕ) (kept : List Bucket) (o : Bucket) → Apart width kept → 0 < length kept → o ≡ get_or kept (length kept - 1) o → in_window span t o.begin ≡ true → kept_in_window span t kept ≡ kept
kept-oldest width span t [] o apart some own within = refl
kept-oldest width span t (b ∷ older) o apart some own within =
    let last : length (b ∷ older) - 1 ≡ length older = omega arith in
    kept-all span t (b ∷ older) (all-in width span t (length older) (b ∷ older) o apart refl (own ∙ ap (λ n. get_or (b ∷ older) n o) last) within)

-- where it is out of the window, it is left out
pub kept-dropped : (span t : ℕ) (left : List Bucket) (o : Bucket) → in_window span t o.begin ≡ false → kept_in_window span t (left ++ o ∷ []) ≡ kept_in_window span t left
kept-dropped span t left o out =
    filter-append (λ b. in_window span t b.begin) left (o ∷ [])
    ∙ ap (λ v. kept_in_window span t left ++ cond v (o ∷ []) []) out
    ∙ append-nil (kept_in_window span t left)

-- the newest begin in the window, where the newest bucket is out of it
newest-out : (width span t : ℕ) (b : Bucket) (older : List Bucket) → Apart width (b ∷ older) → in_window span t b.begin ≡ false → newest_begin (kept_in_window span t (b ∷ older)) ≡ None
newest-out width span t b older apart out = ap newest_begin (none-left width span t b older out apart.0)

pub newest-gone : (width span t : ℕ) (kept : List Bucket) (d : Bucket) → Apart width kept → d ≡ get_or kept 0 d → in_window span t d.begin ≡ false → None ≡ newest_begin (kept_in_window span t kept)
newest-gone width span t [] d apart own out = refl
newest-gone width span t (b ∷ older) d apart own out = sym (newest-out width span t b older apart (ap (λ (x : Bucket). in_window span t x.begin) (sym own) ∙ out))

-- ---- the walk over the buckets in the window: what is in the bag, and what is left to walk over

abbrev WalkedTo : ℕ → ℕ → List Bucket → List ℤ → List Bucket → Type 0
WalkedTo span t kept bag rest = ascending (values_of (kept_in_window span t kept)) ≡ ascending (bag ++ values_of (kept_in_window span t rest))

pub walked-end : (span t : ℕ) (kept rest : List Bucket) (bag : List ℤ) → length rest ≡ 0 → bag ≡ ascending bag → WalkedTo span t kept bag rest → bag ≡ ascending (values_of (kept_in_window span t kept))
walked-end span t kept [] bag none ordered walked = ordered ∙ ap ascending (sym (append-nil bag)) ∙ sym walked
walked-end span t kept (b ∷ rest) bag none ordered walked = absurd (omega arith)

pub walked-out : (width span t : ℕ) (kept rest older : List Bucket) (b : Bucket) (bag : List ℤ) → rest ≡ b ∷ older → Apart width rest → in_window span t b.begin ≡ false → bag ≡ ascending bag → WalkedTo span t kept bag rest
    → bag ≡ ascending (values_of (kept_in_window span t kept))
walked-out width span t kept rest older b bag is apart out ordered walked =
    let none : kept_in_window span t rest ≡ [] = ap (kept_in_window span t) is ∙ none-left width span t b older out (subst (Apart width) is apart).0 in
    ordered ∙ ap ascending (sym (append-nil bag)) ∙ ap (λ l. ascending (bag ++ values_of l)) (sym none) ∙ sym walked

pub walked-in : (span t : ℕ) (kept rest older : List Bucket) (b : Bucket) (bag new : List ℤ) → rest ≡ b ∷ older → in_window span t b.begin ≡ true → new ≡ ascending (bag ++ b.values) → WalkedTo span t kept bag rest → WalkedTo span t kept new older
walked-in span t kept rest older b bag new is within own walked =
    let more = kept_in_window span t older in
    walked
    ∙ ap (λ l. ascending (bag ++ values_of (kept_in_window span t l))) is
    ∙ ap (λ r. ascending (bag ++ values_of (cond r (b ∷ more) more))) within
    ∙ ap ascending (sym (append_assoc bag b.values (values_of more)))
    ∙ sym (ascending-left (bag ++ b.values) (values_of more))
    ∙ ap (λ n. ascending (n ++ values_of more)) (sym own)

pub ordered-more : (bag values new : List ℤ) → new ≡ ascending (bag ++ values) → new ≡ ascending new
ordered-more bag values new is = is ∙ sym (ascending-again (bag ++ values)) ∙ ap ascending (sym is)

-- ---- the values of each bucket in order

abbrev IsOrdered : Bucket → Type 0
IsOrdered b = b.values ≡ ascending b.values

ordered-joined : (values : List ℤ) (place : ℕ) (kept : List Bucket) → AreOrdered kept → AreOrdered (joined values place kept)
ordered-joined values place [] ordered = ordered
ordered-joined values zero (b ∷ older) ordered =
    All-cons IsOrdered (record b { values = ascending (b.values ++ values) }) older (sym (ascending-again (b.values ++ values))) (All-tail IsOrdered b older ordered)
ordered-joined values (suc place) (b ∷ older) ordered =
    All-cons IsOrdered b (joined values place older) (All-head IsOrdered b older ordered) (ordered-joined values place older (All-tail IsOrdered b older ordered))

pub ordered-kept_after : (limit width t : ℕ) (values : List ℤ) (kept : List Bucket) → AreOrdered kept → AreOrdered (kept_after limit width t values kept)
ordered-kept_after limit width t values kept ordered = by (taker width t kept)
  where
    left : List Bucket
    left = kept_in_window (limit * width) t kept

    ordered_left : AreOrdered left
    ordered_left = All-filter (λ b. in_window (limit * width) t b.begin) IsOrdered kept ordered

    begun_so : (begin : Option ℕ) → AreOrdered (begun_at limit values left begin)
    begun_so None = ordered_left
    begun_so (Some begin) =
        All-take IsOrdered limit (record { begin = begin; values = ascending values } ∷ left)
        (All-cons IsOrdered (record { begin = begin; values = ascending values }) left (sym (ascending-again values)) ordered_left)

    by : (place : Option ℕ) → AreOrdered (kept_by limit width t values kept place)
    by None = begun_so (new_begin width t (newest_begin left))
    by (Some place) = ordered-joined values place kept ordered

-- where one bucket alone is in the window, its values are those of the window
none_older : (width span t : ℕ) (older : List Bucket) → Apart width older → ((o : Bucket) → slice_get older 0 ≡ Some o → in_window span t o.begin ≡ false) → kept_in_window span t older ≡ []
none_older width span t [] apart out = refl
none_older width span t (o ∷ rest) apart out = none-left width span t o rest (out o refl) apart.0

pub sole : (width span t : ℕ) (kept : List Bucket) (d : Bucket) → Apart width kept → AreOrdered kept → slice_get kept 0 ≡ Some d → in_window span t d.begin ≡ true
    → ((o : Bucket) → slice_get kept 1 ≡ Some o → in_window span t o.begin ≡ false) → d.values ≡ ascending (values_of (kept_in_window span t kept))
sole width span t [] d apart ordered at within out = absurd (none-some d at)
sole width span t (b ∷ older) d apart ordered at within out =
    let same = same_Some b d at in
    let none = none_older width span t older apart.1 out in
    ap (λ (x : Bucket). x.values) (sym same)
    ∙ All-head IsOrdered b older ordered
    ∙ ap ascending (sym (append-nil b.values))
    ∙ ap (λ l. ascending (values_of (b ∷ l))) (sym none)
    ∙ ap (λ r. ascending (values_of (cond r (b ∷ kept_in_window span t older) (kept_in_window span t older)))) (sym (ap (λ (x : Bucket). in_window span t x.begin) same ∙ within))

-- then there is one bucket in it
pub one-sole : (width span t : ℕ) (kept : List Bucket) (d : Bucket) → Apart width kept → slice_get kept 0 ≡ Some d → in_window span t d.begin ≡ true
    → ((o : Bucket) → slice_get kept 1 ≡ Some o → in_window span t o.begin ≡ false) → length (kept_in_window span t kept) ≡ 1
one-sole width span t [] d apart at within out = absurd (none-some d at)
one-sole width span t (b ∷ older) d apart at within out =
    ap (λ r. length (cond r (b ∷ kept_in_window span t older) (kept_in_window span t older))) (ap (λ (x : Bucket). in_window span t x.begin) (same_Some b d at) ∙ within)
    ∙ ap (λ l. length (b ∷ l)) (none_older width span t older apart.1 out)

-- where the newest bucket is out of the window there isn't one bucket in it
pub none-sole : (width span t : ℕ) (kept : List Bucket) (d : Bucket) → Apart width kept → slice_get kept 0 ≡ Some d → in_window span t d.begin ≡ false → length (kept_in_window span t kept) ≢ 1
none-sole width span t [] d apart at out one = absurd (none-some d at)
none-sole width span t (b ∷ older) d apart at out one =
    let none = none-left width span t b older (ap (λ (x : Bucket). in_window span t x.begin) (same_Some b d at) ∙ out) apart.0 in
    let no : 0 ≡ 1 = sym (ap length none) ∙ one in
    omega (arith, no)

-- ---- the bucket that takes a sample

later_place : (width t : ℕ) (b : Bucket) (older : List Bucket) (n : ℕ) (r : Bool) → taker_from width t (b ∷ older) (cond r (Some (1 + n)) None) ≡ option_map suc (taker_from width t older (cond r (Some n) None))
later_place width t b older n false = refl
later_place width t b older n true =
    let next : 1 + n ≡ suc n = omega arith in
    ap (λ m. taker_at width t (b ∷ older) m) next ∙ at (unwrap_or (option_map (takes width t) (slice_get older n)) false)
  where
    at : (r : Bool) → cond r (Some (suc n)) None ≡ option_map suc (cond r (Some n) None)
    at true = refl
    at false = refl

taker-later : (width t : ℕ) (b : Bucket) (older : List Bucket) → t < b.begin → taker width t (b ∷ older) ≡ option_map suc (taker width t older)
taker-later width t b older before =
    let goes_on : ends_search width t b ≡ false = grind (arith, nat_tests) in
    let n = prefix_len (λ x. not (ends_search width t x)) older in
    let within : nat_lt (1 + n) (suc (length older)) ≡ nat_lt n (length older) = grind (arith, nat_tests) in
    ap (λ e. taker_from width t (b ∷ older) (cond (nat_lt (cond (not e) (1 + n) 0) (suc (length older))) (Some (cond (not e) (1 + n) 0)) None)) goes_on
    ∙ ap (λ r. taker_from width t (b ∷ older) (cond r (Some (1 + n)) None)) within
    ∙ later_place width t b older n (nat_lt n (length older))

-- the first bucket that does not begin after t, at a place
taker-first : (width t place : ℕ) (kept : List Bucket) (d : Bucket) → 0 < width → Apart width kept → ((k : ℕ) → k < place → t < (get_or kept k d).begin) → place < length kept → (get_or kept place d).begin ≤ t
    → taker width t kept ≡ cond (takes width t (get_or kept place d)) (Some place) None
taker-first width t place [] d wide apart after within from = absurd (omega arith)
taker-first width t zero (b ∷ older) d wide apart after within from = by (takes width t b) refl
  where
    by : (r : Bool) → takes width t b ≡ r → taker width t (b ∷ older) ≡ cond r (Some zero) None
    by true is = taker-newest width t b older from (grind (arith, nat_tests))
    by false is = taker-none width t b older wide (grind (arith, nat_tests)) apart.0
taker-first width t (suc place) (b ∷ older) d wide apart after within from =
    taker-later width t b older (after 0 (omega arith))
    ∙ ap (option_map suc) (taker-first width t place older d wide apart.1 (λ k lt. after (suc k) (omega arith)) (omega arith) from)
    ∙ (elim (takes width t (get_or older place d)) as (λ r. option_map suc (cond r (Some place) None) ≡ cond r (Some (suc place)) None) [ true ↦ refl | false ↦ refl ])

taker-all_after : (width t : ℕ) (kept : List Bucket) (d : Bucket) → ((k : ℕ) → k < length kept → t < (get_or kept k d).begin) → taker width t kept ≡ None
taker-all_after width t [] d after = refl
taker-all_after width t (b ∷ older) d after =
    taker-later width t b older (after 0 (omega arith))
    ∙ ap (option_map suc) (taker-all_after width t older d (λ k lt. after (suc k) (omega arith)))

abbrev Later : ℕ → Bucket → Type 0
Later t b = nat_lt t b.begin ≡ true

abbrev NotLater : ℕ → Bucket → Type 0
NotLater t b = nat_lt t b.begin ≡ false

later-after : (t : ℕ) (b : Bucket) → Later t b → t < b.begin
later-after t b later = grind (arith, nat_tests)

-- the search by halves: the buckets before a place begin after t, and the one at it doesn't
pub taker-halved : (width t place : ℕ) (kept : List Bucket) (b : Bucket) → 0 < width → Apart width kept → IsPartitionPoint (Later t) (NotLater t) kept place → place < length kept → b ≡ get_or kept place b
    → (r : Bool) → r ≡ takes width t b → cond r (Some place) None ≡ taker width t kept
taker-halved width t place kept b wide apart parted within own r is =
    let here : NotLater t (get_or kept place b) = parted.1 place b (omega arith) within in
    let from : (get_or kept place b).begin ≤ t = not-later (get_or kept place b) here in
    ap (λ v. cond v (Some place) None) (is ∙ ap (takes width t) own)
    ∙ sym (taker-first width t place kept b wide apart (λ k lt. later-after t (get_or kept k b) (parted.0 k b (omega arith) lt)) within from)
  where
    not-later : (b : Bucket) → NotLater t b → b.begin ≤ t
    not-later b early = grind (arith, nat_tests)

pub taker-halved_none : (width t place : ℕ) (kept : List Bucket) (d : Bucket) → IsPartitionPoint (Later t) (NotLater t) kept place → length kept ≤ place → None ≡ taker width t kept
taker-halved_none width t place kept d parted past =
    sym (taker-all_after width t kept d (λ k lt. later-after t (get_or kept k d) (parted.0 k d (omega arith) (omega arith))))

begins-fall : (width : ℕ) (kept : List Bucket) (i j : ℕ) (d : Bucket) → Apart width kept → i ≤ j → j < length kept → (get_or kept j d).begin ≤ (get_or kept i d).begin
begins-fall width [] i j d apart order within = absurd (omega arith)
begins-fall width (b ∷ older) zero zero d apart order within = omega arith
begins-fall width (b ∷ older) zero (suc j) d apart order within =
    let before : (get_or older j d).begin + width ≤ b.begin = All-get_or (Before width b) older j d (omega arith) apart.0 in
    omega (arith, before)
begins-fall width (b ∷ older) (suc i) zero d apart order within = absurd (omega arith)
begins-fall width (b ∷ older) (suc i) (suc j) d apart order within = begins-fall width older i j d apart.1 (omega arith) (omega arith)

pub parted : (width t : ℕ) (kept : List Bucket) → Apart width kept → IsPartitionedBy (λ b. nat_lt t b.begin) kept
parted width t kept apart i j d order within later =
    still t (get_or kept j d).begin (get_or kept i d).begin (begins-fall width kept i j d apart order within) later
  where
    still : (t a b : ℕ) → a ≤ b → nat_lt t a ≡ true → nat_lt t b ≡ true
    still t a b above later = grind (arith, nat_tests)

-- ---- the buckets stay apart

Apart-joined : (width : ℕ) (values : List ℤ) (place : ℕ) (kept : List Bucket) → Apart width kept → Apart width (joined values place kept)
Apart-joined width values place [] apart = tt
Apart-joined width values zero (b ∷ older) apart = apart
Apart-joined width values (suc place) (b ∷ older) apart = (before-joined b values place older apart.0, Apart-joined width values place older apart.1)
  where
    before-joined : (b : Bucket) (values : List ℤ) (place : ℕ) (older : List Bucket) → All (Before width b) older → All (Before width b) (joined values place older)
    before-joined b values place [] all = all
    before-joined b values zero (o ∷ os) all =
        All-cons (Before width b) (record o { values = ascending (o.values ++ values) }) os (All-head (Before width b) o os all) (All-tail (Before width b) o os all)
    before-joined b values (suc place) (o ∷ os) all =
        All-cons (Before width b) o (joined values place os) (All-head (Before width b) o os all) (before-joined b values place os (All-tail (Before width b) o os all))

Apart-filter : (width : ℕ) (p : Bucket → Bool) (kept : List Bucket) → Apart width kept → Apart width (filter p kept)
Apart-filter width p [] apart = tt
Apart-filter width p (b ∷ older) apart = by (p b) (Apart-filter width p older apart.1)
  where
    by : (r : Bool) → Apart width (filter p older) → Apart width (cond r (b ∷ filter p older) (filter p older))
    by true rest = (All-filter p (Before width b) older apart.0, rest)
    by false rest = rest

Apart-take : (width n : ℕ) (kept : List Bucket) → Apart width kept → Apart width (take n kept)
Apart-take width zero [] apart = tt
Apart-take width zero (b ∷ older) apart = tt
Apart-take width (suc n) [] apart = tt
Apart-take width (suc n) (b ∷ older) apart = (All-take (Before width b) n older apart.0, Apart-take width n older apart.1)

-- what is known of the begin of a new bucket
record IsNew (limit width t begin : ℕ) (kept : List Bucket) : Type 0 where
  apart : All (λ o. o.begin + width ≤ begin) kept
  within : in_window (limit * width) t begin ≡ true

out-new : (limit width t begin : ℕ) (b : Bucket) (older : List Bucket) → 0 < limit → 0 < width → Apart width (b ∷ older) → in_window (limit * width) t b.begin ≡ false → begin ≡ t → IsNew limit width t begin (b ∷ older)
out-new limit width t begin b older some wide apart out is =
    let past : b.begin + limit * width ≤ t = not_in-out (limit * width) t b.begin out in
    let long : width ≤ limit * width = least limit some in
    record {
      apart = All-cons (λ (o : Bucket). o.begin + width ≤ begin) b older (omega arith)
          (All-weaker (Before width b) (λ (o : Bucket). o.begin + width ≤ begin) (λ o h. omega (arith, h)) older apart.0);
      within = now (limit * width) (omega arith);
    }
  where
    least : (limit : ℕ) → 0 < limit → width ≤ limit * width
    least zero some = absurd (omega arith)
    least (suc limit) some = omega arith

    now : (span : ℕ) → 0 < span → in_window span t begin ≡ true
    now span long = grind (arith, nat_tests)

next-new : (limit width t begin : ℕ) (b : Bucket) (older : List Bucket) → 0 < width → Apart width (b ∷ older) → taker width t (b ∷ older) ≡ None → in_window (limit * width) t b.begin ≡ true → b.begin < t → begin ≡ aligned width b.begin t
    → IsNew limit width t begin (b ∷ older)
next-new limit width t begin b older wide apart none within after is = by (nat_lt t (b.begin + width)) refl
  where
    by : (r : Bool) → nat_lt t (b.begin + width) ≡ r → IsNew limit width t begin (b ∷ older)
    by true early = let own = taker-newest width t b older (omega arith) (grind (arith, nat_tests)) in cc
    by false late =
        let past : b.begin + width ≤ t = grind (arith, nat_tests) in
        let next : b.begin + width ≤ aligned width b.begin t = aligned-after width b.begin t wide past in
        let behind : b.begin + width ≤ begin = omega (arith, next, is) in
        record {
          apart = All-cons (λ (o : Bucket). o.begin + width ≤ begin) b older behind
              (All-weaker (Before width b) (λ (o : Bucket). o.begin + width ≤ begin) (λ o h. omega (arith, h, behind)) older apart.0);
          within = in-newer width (limit * width) t b.begin begin behind within;
        }

span-long : (limit width : ℕ) → 0 < limit → 0 < width → 0 < limit * width
span-long zero width some wide = absurd (omega arith)
span-long (suc limit) width some wide = omega arith

is-new : (limit width t begin : ℕ) (kept : List Bucket) → 0 < limit → 0 < width → Apart width kept → taker width t kept ≡ None
    → Some begin ≡ new_begin width t (newest_begin (kept_in_window (limit * width) t kept)) → IsNew limit width t begin kept
is-new limit width t begin [] some wide apart none is =
    let own : begin ≡ t = cc in
    let long : 0 < limit * width = span-long limit width some wide in
    record { apart = All-nil (λ (o : Bucket). o.begin + width ≤ begin); within = now (limit * width) long own }
  where
    now : (span : ℕ) → 0 < span → begin ≡ t → in_window span t begin ≡ true
    now span long own = grind (arith, nat_tests)
is-new limit width t begin (b ∷ older) some wide apart none is = by (in_window (limit * width) t b.begin) refl
  where
    behind : in_window (limit * width) t b.begin ≡ true → (r : Bool) → nat_lt b.begin t ≡ r → Some begin ≡ cond r (Some (aligned width b.begin t)) None → IsNew limit width t begin (b ∷ older)
    behind within true after own = next-new limit width t begin b older wide apart none within (grind (arith, nat_tests)) (cc)
    behind within false after own = cc

    by : (r : Bool) → in_window (limit * width) t b.begin ≡ r → IsNew limit width t begin (b ∷ older)
    by true within = behind within (nat_lt b.begin t) refl (is ∙ ap (new_begin width t) (newest-here (limit * width) t b older within))
    by false out =
        let own : Some begin ≡ Some t = is ∙ ap (new_begin width t) (newest-out width (limit * width) t b older apart out) in
        out-new limit width t begin b older some wide apart out (cc)

-- a new bucket stands apart from those that are kept
pub Apart-new : (limit width t : ℕ) (bucket : Bucket) (kept : List Bucket) → 0 < limit → 0 < width → Apart width kept → taker width t kept ≡ None
    → Some bucket.begin ≡ new_begin width t (newest_begin (kept_in_window (limit * width) t kept)) → Apart width (bucket ∷ kept)
Apart-new limit width t bucket kept some wide apart none is = ((is-new limit width t bucket.begin kept some wide apart none is).apart, apart)

-- the buckets after it, once those out of the window and those past the limit are dropped
pub begun-new : (limit width t : ℕ) (values : List ℤ) (bucket : Bucket) (kept : List Bucket) → 0 < limit → 0 < width → Apart width kept → taker width t kept ≡ None
    → Some bucket.begin ≡ new_begin width t (newest_begin (kept_in_window (limit * width) t kept)) → bucket.values ≡ ascending values
    → take limit (kept_in_window (limit * width) t (bucket ∷ kept)) ≡ begun limit width t values (kept_in_window (limit * width) t kept)
begun-new limit width t values bucket kept some wide apart none is own =
    let left = kept_in_window (limit * width) t kept in
    ap (λ r. take limit (cond r (bucket ∷ left) left)) (is-new limit width t bucket.begin kept some wide apart none is).within
    ∙ ap (λ vs. take limit (record { begin = bucket.begin; values = vs } ∷ left)) own
    ∙ ap (begun_at limit values left) is

-- no bucket begins
pub begun-none : (limit width t : ℕ) (values : List ℤ) (left : List Bucket) → None ≡ new_begin width t (newest_begin left) → left ≡ begun limit width t values left
begun-none limit width t values left is = ap (begun_at limit values left) is

pub Apart-kept_after : (limit width t : ℕ) (values : List ℤ) (kept : List Bucket) → 0 < limit → 0 < width → Apart width kept → Apart width (kept_after limit width t values kept)
Apart-kept_after limit width t values kept some wide apart = by (taker width t kept) refl
  where
    new : taker width t kept ≡ None → (begin : Option ℕ) → begin ≡ new_begin width t (newest_begin (kept_in_window (limit * width) t kept))
        → Apart width (begun_at limit values (kept_in_window (limit * width) t kept) begin)
    new none None is = Apart-filter width (λ b. in_window (limit * width) t b.begin) kept apart
    new none (Some begin) is =
        let first = (is-new limit width t begin kept some wide apart none is).apart in
        let left = kept_in_window (limit * width) t kept in
        Apart-take width limit (record { begin = begin; values = ascending values } ∷ left)
        (All-filter (λ b. in_window (limit * width) t b.begin) (λ (o : Bucket). o.begin + width ≤ begin) kept first, Apart-filter width (λ b. in_window (limit * width) t b.begin) kept apart)

    by : (place : Option ℕ) → taker width t kept ≡ place → Apart width (kept_by limit width t values kept place)
    by (Some place) is = Apart-joined width values place kept apart
    by None none = new none (new_begin width t (newest_begin (kept_in_window (limit * width) t kept))) refl
