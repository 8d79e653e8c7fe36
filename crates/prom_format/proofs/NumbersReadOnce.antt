-- Numbers are read in one way: values that are spelled alike before a newline are the same.
use Rattle.std.proofs.Common.{◌≡◌, ℕ, zero, suc, ◌+◌, ◌-◌, ◌/◌, ◌%◌, ◌^◌, ◌<◌, Bool, true, false, List, [], ◌∷◌, ◌++◌, length, replicate, refl, sym, ap, ◌∙◌, subst, arith, append_assoc, inl, inr, ◌⊎◌, ◌≢◌}
use Rattle.std.specs.Prelude.{decimal, ℤ, pos, negsuc, if◌then◌else◌, ◌==◌}
use Rattle.std.specs.List.{list_all}
use Rattle.std.specs.Int.{w128, is_negative}
use Rattle.std.specs.Int.RustNames.{FitsSigned}
use Rattle.std.specs.Str.Parse.{AllDigits, digits_value}
use Rattle.std.proofs.lemmas.Bool.{and_from, and_parts, cases_eq, false≢true}
use Rattle.std.proofs.lemmas.Bool.Decides.{nat_tests}
use Rattle.std.proofs.lemmas.Fmt.{decimal_is_IsNumeral_wide, length-decimal-le}
use Rattle.std.proofs.lemmas.List.{length-append, length-replicate}
use Rattle.std.proofs.lemmas.List.Folds.{list_all-append}
use Rattle.std.proofs.lemmas.Str.Parse.{digit_from_value}
use Rattle.metrics_core.specs.Characters.{is_digit, minus_sign}
use Rattle.metrics_core.specs.Numbers.{padded, without_trailing_zeros, before_zeros, fraction_text, page_number, one}
use Rattle.metrics_core.proofs.Digits.{fraction_text-some, decimal-one_before}
use Rattle.prom_format.proofs.ReadOnce.{first_same, others_same, Stops, spans_told}

-- ---- digits

abbrev AreDigits : List ℕ → Type 0
AreDigits ds = list_all is_digit ds ≡ true

numeral_digits : (ds : List ℕ) → AllDigits 10 ds → AreDigits ds
numeral_digits [] all = refl
numeral_digits (d ∷ ds) all =
    let within = digit_from_value d all.0 in
    let here : is_digit d ≡ true = grind (arith, nat_tests, within) in
    and_from _ _ here (numeral_digits ds all.1)

decimal_digits : (n : ℕ) → n < 10 ^ 64 → AreDigits (decimal n)
decimal_digits n small = numeral_digits (decimal n) (decimal_is_IsNumeral_wide n small).0.1

decimal_some : (n : ℕ) → n < 10 ^ 64 → 0 < length (decimal n)
decimal_some n small = (decimal_is_IsNumeral_wide n small).0.0

decimal_told : (m n : ℕ) → m < 10 ^ 64 → n < 10 ^ 64 → decimal m ≡ decimal n → m ≡ n
decimal_told m n hm hn e =
    sym (decimal_is_IsNumeral_wide m hm).1 ∙ ap (digits_value 10) e ∙ (decimal_is_IsNumeral_wide n hn).1

-- ---- the fraction

zeros_digits : (k : ℕ) → AreDigits (replicate k 48)
zeros_digits zero = refl
zeros_digits (suc k) = and_from _ _ refl (zeros_digits k)

padded_digits : (n : ℕ) → n < one → AreDigits (padded 9 n)
padded_digits n small =
    list_all-append is_digit (replicate (9 - length (decimal n)) 48) (decimal n)
    ∙ and_from _ _ (zeros_digits (9 - length (decimal n))) (decimal_digits n (omega (arith, small)))

padded_length : (n : ℕ) → n < one → length (padded 9 n) ≡ 9
padded_length n small = omega (
  arith,
  length-append (replicate (9 - length (decimal n)) 48) (decimal n),
  length-replicate {A = ℕ} (9 - length (decimal n)) 48,
  length-decimal-le 9 n (omega arith) (omega (arith, small)) (omega (arith, small)),
)

-- zeros put back at the end, up to a length
abbrev refilled : ℕ → List ℕ → List ℕ
refilled k [] = replicate k 48
refilled zero (d ∷ ds) = d ∷ ds
refilled (suc k) (d ∷ ds) = d ∷ refilled k ds

refilled_step : (d : ℕ) (ds front : List ℕ) → refilled (length ds) front ≡ ds → refilled (length (d ∷ ds)) (before_zeros d front) ≡ d ∷ ds
refilled_step d ds (c ∷ front) e = ap (λ t. d ∷ t) e
refilled_step d ds [] e = by (cases_eq d 48)
  where
    by : (d ≡ 48) ⊎ (d ≡ 48 → ⊥) → refilled (length (d ∷ ds)) (before_zeros d []) ≡ d ∷ ds
    by (inl is) = subst (λ c. refilled (length (d ∷ ds)) (before_zeros c []) ≡ c ∷ ds) (sym is) (ap (λ t. 48 ∷ t) e)
    by (inr other) =
        let kept : before_zeros d [] ≡ d ∷ [] = grind (arith, nat_tests) in
        ap (refilled (length (d ∷ ds))) kept ∙ ap (λ t. d ∷ t) e

refilled_back : (ds : List ℕ) → refilled (length ds) (without_trailing_zeros ds) ≡ ds
refilled_back [] = refl
refilled_back (d ∷ ds) = refilled_step d ds (without_trailing_zeros ds) (refilled_back ds)

front_digits : (d : ℕ) (front : List ℕ) → is_digit d ≡ true → AreDigits front → AreDigits (before_zeros d front)
front_digits d (c ∷ front) here all = and_from _ _ here all
front_digits d [] here all = by (d == 48)
  where
    by : (b : Bool) → AreDigits (if b then [] else d ∷ [])
    by true = refl
    by false = and_from _ _ here refl

trimmed_digits : (ds : List ℕ) → AreDigits ds → AreDigits (without_trailing_zeros ds)
trimmed_digits [] all = refl
trimmed_digits (d ∷ ds) all =
    let parts = and_parts (is_digit d) (list_all is_digit ds) all in
    front_digits d (without_trailing_zeros ds) parts.0 (trimmed_digits ds parts.1)

-- the numbers of nine digits with the zeros at the end left out
trimmed_told : (f g : ℕ) → f < one → g < one → without_trailing_zeros (padded 9 f) ≡ without_trailing_zeros (padded 9 g) → padded 9 f ≡ padded 9 g
trimmed_told f g hf hg e =
    sym (refilled_back (padded 9 f)) ∙ ap (λ k. refilled k (without_trailing_zeros (padded 9 f))) (padded_length f hf ∙ sym (padded_length g hg))
    ∙ ap (refilled (length (padded 9 g))) e ∙ refilled_back (padded 9 g)

padded_told : (f g : ℕ) → f < one → g < one → padded 9 f ≡ padded 9 g → f ≡ g
padded_told f g hf hg e =
    let whole = decimal-one_before f hf ∙ ap (λ ds. 49 ∷ ds) e ∙ sym (decimal-one_before g hg) in
    let same = decimal_told (1000000000 + f) (1000000000 + g) (omega (arith, hf)) (omega (arith, hg)) whole in
    omega (arith, same)

-- a fraction before a newline, as it is spelled
abbrev fraction_line : ℕ → List ℕ → List ℕ
fraction_line f r = fraction_text [] f ++ 10 ∷ r

fraction_some : (f : ℕ) (r : List ℕ) → f ≢ 0 → fraction_line f r ≡ 46 ∷ (without_trailing_zeros (padded 9 f) ++ 10 ∷ r)
fraction_some f r some = ap (λ t. t ++ 10 ∷ r) (fraction_text-some [] f some)

fraction_none : (f : ℕ) (r : List ℕ) → f ≡ 0 → fraction_line f r ≡ 10 ∷ r
fraction_none f r none = ap (λ n. fraction_line n r) none

newline_ends : (r : List ℕ) → Stops is_digit (10 ∷ r)
newline_ends r = record { first = 10; others = r; split = refl; stops = refl }

fraction_stops : (f : ℕ) (r : List ℕ) → Stops is_digit (fraction_line f r)
fraction_stops f r = by (cases_eq f 0)
  where
    by : (f ≡ 0) ⊎ (f ≡ 0 → ⊥) → Stops is_digit (fraction_line f r)
    by (inl none) = record { first = 10; others = r; split = fraction_none f r none; stops = refl }
    by (inr some) = record { first = 46; others = without_trailing_zeros (padded 9 f) ++ 10 ∷ r; split = fraction_some f r some; stops = refl }

fraction_told : (f g : ℕ) (r s : List ℕ) → f < one → g < one → fraction_line f r ≡ fraction_line g s → (f ≡ g) × (r ≡ s)
fraction_told f g r s hf hg e = by (cases_eq f 0) (cases_eq g 0)
  where
    by : (f ≡ 0) ⊎ (f ≡ 0 → ⊥) → (g ≡ 0) ⊎ (g ≡ 0 → ⊥) → (f ≡ g) × (r ≡ s)
    by (inl f0) (inl g0) = (f0 ∙ sym g0, others_same 10 10 r s (sym (fraction_none f r f0) ∙ e ∙ fraction_none g s g0))
    by (inl f0) (inr some) =
        let first = first_same 10 46 r (without_trailing_zeros (padded 9 g) ++ 10 ∷ s) (sym (fraction_none f r f0) ∙ e ∙ fraction_some g s some) in
        absurd (omega (arith, first))
    by (inr some) (inl g0) =
        let first = first_same 46 10 (without_trailing_zeros (padded 9 f) ++ 10 ∷ r) s (sym (fraction_some f r some) ∙ e ∙ fraction_none g s g0) in
        absurd (omega (arith, first))
    by (inr f1) (inr g1) =
        let left = without_trailing_zeros (padded 9 f) in
        let right = without_trailing_zeros (padded 9 g) in
        let behind = others_same 46 46 (left ++ 10 ∷ r) (right ++ 10 ∷ s) (sym (fraction_some f r f1) ∙ e ∙ fraction_some g s g1) in
        let told = spans_told is_digit left right (10 ∷ r) (10 ∷ s) (trimmed_digits (padded 9 f) (padded_digits f hf)) (trimmed_digits (padded 9 g) (padded_digits g hg)) (newline_ends r) (newline_ends s) behind in
        (padded_told f g hf hg (trimmed_told f g hf hg told.0), others_same 10 10 r s told.1)

-- ---- a number without its sign

abbrev magnitude_line : ℕ → List ℕ → List ℕ
magnitude_line m r = decimal (m / one) ++ fraction_line (m % one) r

magnitude_told : (m n : ℕ) (r s : List ℕ) → m < 2 ^ 128 → n < 2 ^ 128 → magnitude_line m r ≡ magnitude_line n s → (m ≡ n) × (r ≡ s)
magnitude_told m n r s hm hn e =
    let left : m / one < 10 ^ 64 = omega (arith, hm) in
    let right : n / one < 10 ^ 64 = omega (arith, hn) in
    let told = spans_told is_digit (decimal (m / one)) (decimal (n / one)) (fraction_line (m % one) r) (fraction_line (n % one) s)
    (decimal_digits (m / one) left) (decimal_digits (n / one) right) (fraction_stops (m % one) r) (fraction_stops (n % one) s) e in
    let quotient = decimal_told (m / one) (n / one) left right told.0 in
    let fraction = fraction_told (m % one) (n % one) r s (omega arith) (omega arith) told.1 in
    (omega (arith, quotient, fraction.0), fraction.1)

-- ---- the sign

no_sign : (m : ℕ) → is_negative (pos m) ≡ false
no_sign m = grind (arith, nat_tests)

a_sign : (m : ℕ) → is_negative (negsuc m) ≡ true
a_sign m = grind (arith, nat_tests)

number_pos : (m : ℕ) (r : List ℕ) → page_number (pos m) ++ 10 ∷ r ≡ magnitude_line m r
number_pos m r =
    ap (λ b. ((if b then minus_sign ∷ [] else []) ++ decimal (m / one) ++ fraction_text [] (m % one)) ++ 10 ∷ r) (no_sign m)
    ∙ append_assoc (decimal (m / one)) (fraction_text [] (m % one)) (10 ∷ r)

number_negsuc : (m : ℕ) (r : List ℕ) → page_number (negsuc m) ++ 10 ∷ r ≡ 45 ∷ magnitude_line (suc m) r
number_negsuc m r =
    ap (λ b. ((if b then minus_sign ∷ [] else []) ++ decimal (suc m / one) ++ fraction_text [] (suc m % one)) ++ 10 ∷ r) (a_sign m)
    ∙ ap (λ t. 45 ∷ t) (append_assoc (decimal (suc m / one)) (fraction_text [] (suc m % one)) (10 ∷ r))

digits_no_sign : (ds r x : List ℕ) → 0 < length ds → AreDigits ds → ds ++ r ≢ 45 ∷ x
digits_no_sign [] r x some all e = omega (arith, some)
digits_no_sign (d ∷ ds) r x some all e =
    let here = (and_parts (is_digit d) (list_all is_digit ds) all).0 in
    false≢true (sym (ap is_digit (first_same d 45 (ds ++ r) x e)) ∙ here)

magnitude_no_sign : (m : ℕ) (r x : List ℕ) → m < 2 ^ 128 → magnitude_line m r ≢ 45 ∷ x
magnitude_no_sign m r x hm =
    let low : m / one < 10 ^ 64 = omega (arith, hm) in
    digits_no_sign (decimal (m / one)) (fraction_line (m % one) r) x (decimal_some (m / one) low) (decimal_digits (m / one) low)

pub number_told : (y z : ℤ) (r s : List ℕ) → FitsSigned w128 y → FitsSigned w128 z → page_number y ++ 10 ∷ r ≡ page_number z ++ 10 ∷ s → (y ≡ z) × (r ≡ s)
number_told (pos m) (pos n) r s hm hn e =
    let told = magnitude_told m n r s (omega (arith, hm.sfits)) (omega (arith, hn.sfits)) (sym (number_pos m r) ∙ e ∙ number_pos n s) in
    (ap pos told.0, told.1)
number_told (negsuc m) (negsuc n) r s hm hn e =
    let behind = others_same 45 45 (magnitude_line (suc m) r) (magnitude_line (suc n) s) (sym (number_negsuc m r) ∙ e ∙ number_negsuc n s) in
    let told = magnitude_told (suc m) (suc n) r s (omega (arith, hm.sfits)) (omega (arith, hn.sfits)) behind in
    let same : m ≡ n = omega (arith, told.0) in
    (ap negsuc same, told.1)
number_told (pos m) (negsuc n) r s hm hn e =
    absurd (magnitude_no_sign m r (magnitude_line (suc n) s) (omega (arith, hm.sfits)) (sym (number_pos m r) ∙ e ∙ number_negsuc n s))
number_told (negsuc m) (pos n) r s hm hn e =
    absurd (magnitude_no_sign n s (magnitude_line (suc m) r) (omega (arith, hn.sfits)) (sym (number_pos n s) ∙ sym e ∙ number_negsuc m r))
