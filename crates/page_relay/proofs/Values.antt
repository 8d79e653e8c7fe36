-- The spelling of a value: with its point left out and zeros behind it, its digits are read as the value.
use Rattle.std.proofs.Common.{◌≡◌, ℕ, zero, suc, ◌+◌, ◌-◌, ◌*◌, ◌/◌, ◌%◌, ◌^◌, ◌<◌, ◌≤◌, Bool, true, false, ◌==◌, ◌||◌, List, [], ◌∷◌, ◌++◌, length, take, drop, replicate, refl, sym, ap, subst, ◌∙◌, append_assoc, arith, inl, inr, ◌⊎◌}
use Rattle.std.specs.Prelude.{decimal, ℤ, pos, negsuc, neg_ℤ, IsUtf8, Result, Ok, Err, if◌then◌else◌}
use Rattle.std.specs.List.{list_all, position_or_len}
use Rattle.std.specs.Int.{w128, is_negative}
use Rattle.std.specs.Int.RustNames.{FitsSigned}
use Rattle.std.specs.Result.{OkIff}
use Rattle.std.specs.Str.Parse.{AllDigits, digits_value, digits_value_after, ParsesSigned}
use Rattle.std.specs.Char.{digit_value}
use Rattle.std.proofs.lemmas.Bool.{and_from, and_parts, cases_eq}
use Rattle.std.proofs.lemmas.Bool.Decides.{nat_tests}
use Rattle.std.proofs.lemmas.Fmt.{decimal_is_IsNumeral_wide, decimal_digit, length-decimal-le}
use Rattle.std.proofs.lemmas.List.{length-append, length-replicate, length-drop, length_push, append-nil, take_at, drop_at, take_all, drop_all}
use Rattle.std.proofs.lemmas.List.Folds.{list_all-append}
use Rattle.std.proofs.lemmas.Str.Parse.{digit_from_value, IsNumeralModel, numerals_by_value, tells_digits, parse_signed_digits, parse_signed_minus}
use Rattle.metrics_core.specs.Characters.{is_digit, minus_sign, full_stop}
use Rattle.metrics_core.specs.Numbers.{padded, without_trailing_zeros, before_zeros, fraction_text, page_number, one}
use Rattle.std.proofs.lemmas.Str.{IsUtf8-from_ascii}
use Rattle.metrics_core.proofs.Digits.{fraction_text-some, decimal-one_before}
use Rattle.page_relay.specs.Reading.{all_places}
use Rattle.page_relay.proofs.Names.{kind_ascii}

-- ---- digits

abbrev pub AreDigits : List ℕ → Type 0
AreDigits ds = list_all is_digit ds ≡ true

numeral_digits : (ds : List ℕ) → AllDigits 10 ds → AreDigits ds
numeral_digits [] all = refl
numeral_digits (d ∷ ds) all =
    let within = digit_from_value d all.0 in
    let here : is_digit d ≡ true = grind (arith, nat_tests, within) in
    and_from _ _ here (numeral_digits ds all.1)

pub decimal_digits : (n : ℕ) → n < 10 ^ 64 → AreDigits (decimal n)
decimal_digits n small = numeral_digits (decimal n) (decimal_is_IsNumeral_wide n small).0.1

zeros_digits : (k : ℕ) → AreDigits (replicate k 48)
zeros_digits zero = refl
zeros_digits (suc k) = and_from _ _ refl (zeros_digits k)

padded_digits : (n : ℕ) → n < one → AreDigits (padded 9 n)
padded_digits n small =
    list_all-append is_digit (replicate (9 - length (decimal n)) 48) (decimal n)
    ∙ and_from _ _ (zeros_digits (9 - length (decimal n))) (decimal_digits n (omega (arith, small)))

padded_length : (n : ℕ) → n < one → length (padded 9 n) ≡ 9
padded_length n small = omega (
  arith,
  length-append (replicate (9 - length (decimal n)) 48) (decimal n),
  length-replicate {A = ℕ} (9 - length (decimal n)) 48,
  length-decimal-le 9 n (omega arith) (omega (arith, small)) (omega (arith, small)),
)

-- ---- the zeros at the end

-- digits without the zeros at their end, and zeros behind them up to the length of all
refilled : (ds : List ℕ) → without_trailing_zeros ds ++ replicate (length ds - length (without_trailing_zeros ds)) 48 ≡ ds
refilled [] = refl
refilled (d ∷ ds) = step (without_trailing_zeros ds) refl (refilled ds)
  where
    step : (front : List ℕ) → without_trailing_zeros ds ≡ front → front ++ replicate (length ds - length front) 48 ≡ ds → before_zeros d front ++ replicate (length (d ∷ ds) - length (before_zeros d front)) 48 ≡ d ∷ ds
    step (c ∷ front) is e =
        let same : suc (length ds) - suc (suc (length front)) ≡ length ds - suc (length front) = omega arith in
        ap (λ k. d ∷ ((c ∷ front) ++ replicate k 48)) same ∙ ap (λ t. d ∷ t) e
    step [] is e = by (cases_eq d 48)
      where
        one_more : suc (length ds) - 0 ≡ suc (length ds - 0)
        one_more = omega arith

        same_count : suc (length ds) - 1 ≡ length ds - 0
        same_count = omega arith

        by : (d ≡ 48) ⊎ (d ≡ 48 → ⊥) → before_zeros d [] ++ replicate (length (d ∷ ds) - length (before_zeros d [])) 48 ≡ d ∷ ds
        by (inl same) = subst (λ c. before_zeros c [] ++ replicate (length (c ∷ ds) - length (before_zeros c [])) 48 ≡ c ∷ ds) (sym same) (ap (λ k. replicate k 48) one_more ∙ ap (λ t. 48 ∷ t) e)
        by (inr other) =
            let kept : before_zeros d [] ≡ d ∷ [] = grind (arith, nat_tests) in
            ap (λ t. t ++ replicate (length (d ∷ ds) - length t) 48) kept ∙ ap (λ k. d ∷ replicate k 48) same_count ∙ ap (λ t. d ∷ t) e

front_digits : (d : ℕ) (front : List ℕ) → is_digit d ≡ true → AreDigits front → AreDigits (before_zeros d front)
front_digits d (c ∷ front) here all = and_from _ _ here all
front_digits d [] here all = by (d == 48)
  where
    by : (b : Bool) → AreDigits (if b then [] else d ∷ [])
    by true = refl
    by false = and_from _ _ here refl

trimmed_digits : (ds : List ℕ) → AreDigits ds → AreDigits (without_trailing_zeros ds)
trimmed_digits [] all = refl
trimmed_digits (d ∷ ds) all =
    let parts = and_parts (is_digit d) (list_all is_digit ds) all in
    front_digits d (without_trailing_zeros ds) parts.0 (trimmed_digits ds parts.1)

-- ---- all places of the spelling of a value

-- characters of a number but the point
abbrev pub in_whole : ℕ → Bool
in_whole c = is_digit c || c == minus_sign

digits_whole : (ds : List ℕ) → AreDigits ds → list_all in_whole ds ≡ true
digits_whole [] all = refl
digits_whole (d ∷ ds) all =
    let parts = and_parts (is_digit d) (list_all is_digit ds) all in
    and_from _ _ (rw parts.0 refl) (digits_whole ds parts.1)

not_point : (c : ℕ) → in_whole c ≡ true → (c == full_stop) ≡ false
not_point c h = grind (arith, nat_tests)

point_step : (t : Bool) (c : ℕ) (whole rest : List ℕ) → (c == full_stop) ≡ t → t ≡ false → position_or_len (λ d. d == full_stop) rest ≡ length whole → position_or_len (λ d. d == full_stop) (c ∷ rest) ≡ length (c ∷ whole)
point_step t c whole rest is other e = rw (is ∙ other, e) (omega arith)

-- where the first point stands
point_at : (whole rest : List ℕ) → list_all in_whole whole ≡ true → position_or_len (λ c. c == full_stop) rest ≡ 0 → position_or_len (λ c. c == full_stop) (whole ++ rest) ≡ length whole
point_at [] rest all none = none
point_at (c ∷ whole) rest all none =
    let parts = and_parts (in_whole c) (list_all in_whole whole) all in
    point_step (c == full_stop) c whole (whole ++ rest) refl (not_point c parts.0) (point_at whole rest parts.1 none)

-- the text without what stands at this place, with zeros behind it
abbrev places_at : List ℕ → ℕ → List ℕ
places_at text p = take p text ++ drop (p + 1) text ++ replicate (9 - (length text - p - 1)) 48

places_none : (whole : List ℕ) → list_all in_whole whole ≡ true → all_places whole ≡ whole ++ replicate 9 48
places_none whole all =
    let at : position_or_len (λ c. c == full_stop) whole ≡ length whole = ap (position_or_len (λ c. c == full_stop)) (sym (append-nil whole)) ∙ point_at whole [] all refl in
    let count : 9 - (length whole - length whole - 1) ≡ 9 = omega arith in
    let front : take (length whole) whole ≡ whole = take_all (length whole) whole (omega arith) in
    let back : drop (length whole + 1) whole ≡ [] = drop_all (length whole + 1) whole (omega arith) in
    ap (places_at whole) at ∙ (λ j. front j ++ back j ++ replicate (count j) 48) ∙ ap (λ l. l ++ replicate 9 48) (append-nil whole)

places_some : (whole fraction : List ℕ) → list_all in_whole whole ≡ true → all_places (whole ++ full_stop ∷ fraction) ≡ whole ++ (fraction ++ replicate (9 - length fraction) 48)
places_some whole fraction all =
    let text = whole ++ full_stop ∷ fraction in
    let at : position_or_len (λ c. c == full_stop) text ≡ length whole = point_at whole (full_stop ∷ fraction) all refl in
    let count : 9 - (length text - length whole - 1) ≡ 9 - length fraction = omega (arith, length-append whole (full_stop ∷ fraction)) in
    let front : take (length whole) text ≡ whole = take_at whole (full_stop ∷ fraction) (length whole) refl in
    let split : text ≡ (whole ++ full_stop ∷ []) ++ fraction = sym (append_assoc whole (full_stop ∷ []) fraction) in
    let back : drop (length whole + 1) text ≡ fraction = ap (drop (length whole + 1)) split ∙ drop_at (whole ++ full_stop ∷ []) fraction (length whole + 1) (length_push whole full_stop) in
    ap (places_at text) at ∙ (λ j. front j ++ back j ++ replicate (count j) 48) ∙ append_assoc whole fraction (replicate (9 - length fraction) 48)

-- a sign, and the whole part
abbrev pub signed_whole : Bool → ℕ → List ℕ
signed_whole negative m = (if negative then minus_sign ∷ [] else []) ++ decimal (m / one)

whole_all : (negative : Bool) (m : ℕ) → m / one < 10 ^ 64 → list_all in_whole (signed_whole negative m) ≡ true
whole_all true m small = digits_whole (decimal (m / one)) (decimal_digits (m / one) small)
whole_all false m small = digits_whole (decimal (m / one)) (decimal_digits (m / one) small)

padded_zero : padded 9 0 ≡ replicate 9 48
padded_zero = ap (λ ds. replicate (9 - length ds) 48 ++ ds) (decimal_digit 0 (omega arith))

fraction_places : (negative : Bool) (m : ℕ) → m / one < 10 ^ 64 → all_places (signed_whole negative m ++ fraction_text [] (m % one)) ≡ signed_whole negative m ++ padded 9 (m % one)
fraction_places negative m small = by (cases_eq (m % one) 0)
  where
    whole : List ℕ
    whole = signed_whole negative m

    all : list_all in_whole whole ≡ true
    all = whole_all negative m small

    by : (m % one ≡ 0) ⊎ (m % one ≡ 0 → ⊥) → all_places (whole ++ fraction_text [] (m % one)) ≡ whole ++ padded 9 (m % one)
    by (inl none) =
        ap (λ f. all_places (whole ++ fraction_text [] f)) none ∙ ap all_places (append-nil whole) ∙ places_none whole all
        ∙ ap (λ l. whole ++ l) (sym padded_zero) ∙ ap (λ f. whole ++ padded 9 f) (sym none)
    by (inr some) =
        let trimmed = without_trailing_zeros (padded 9 (m % one)) in
        let zeros = refilled (padded 9 (m % one)) in
        let nine_long = padded_length (m % one) (omega arith) in
        ap (λ l. all_places (whole ++ l)) (fraction_text-some [] (m % one) some) ∙ places_some whole trimmed all
        ∙ ap (λ n. whole ++ (trimmed ++ replicate (n - length trimmed) 48)) (sym nine_long) ∙ ap (λ l. whole ++ l) zeros

-- the digits so far, with the zeros that they want
pub places_begin : (text digits front back : List ℕ) (p : ℕ) → p ≡ position_or_len (λ c. c == full_stop) text → front ≡ take p text → back ≡ drop (p + 1) text → digits ≡ front ++ back → digits ++ replicate (9 - length back) 48 ≡ all_places text
places_begin text digits front back p at is_front is_back is =
    let count : 9 - length back ≡ 9 - (length text - p - 1) = omega (arith, ap length is_back, length-drop (p + 1) text) in
    (λ j. (is ∙ (λ i. is_front i ++ is_back i)) j ++ replicate (count j) 48) ∙ ap (places_at text) at

pub places_more : (digits : List ℕ) (n : ℕ) → n < 9 → (digits ++ 48 ∷ []) ++ replicate (9 - (n + 1)) 48 ≡ digits ++ replicate (9 - n) 48
places_more digits n few =
    let count : suc (9 - (n + 1)) ≡ 9 - n = omega (arith, few) in
    append_assoc digits (48 ∷ []) (replicate (9 - (n + 1)) 48) ∙ ap (λ k. digits ++ replicate k 48) count

pub places_end : (digits : List ℕ) (n : ℕ) → 9 ≤ n → digits ++ replicate (9 - n) 48 ≡ digits
places_end digits n enough =
    let count : 9 - n ≡ 0 = omega (arith, enough) in
    ap (λ k. digits ++ replicate k 48) count ∙ append-nil digits

-- ---- the number that they write

following : (n : ℕ) (xs ys : List ℕ) → digits_value_after 10 n (xs ++ ys) ≡ digits_value_after 10 (digits_value_after 10 n xs) ys
following n [] ys = refl
following n (x ∷ xs) ys = following (n * 10 + digit_value x) xs ys

nine : (n : ℕ) (ds : List ℕ) → length ds ≡ 9 → digits_value_after 10 n ds ≡ n * 1000000000 + digits_value_after 10 0 ds
nine n [] len = absurd (omega (arith, len))
nine n (a ∷ []) len = absurd (omega (arith, len))
nine n (a ∷ b ∷ []) len = absurd (omega (arith, len))
nine n (a ∷ b ∷ c ∷ []) len = absurd (omega (arith, len))
nine n (a ∷ b ∷ c ∷ d ∷ []) len = absurd (omega (arith, len))
nine n (a ∷ b ∷ c ∷ d ∷ e ∷ []) len = absurd (omega (arith, len))
nine n (a ∷ b ∷ c ∷ d ∷ e ∷ f ∷ []) len = absurd (omega (arith, len))
nine n (a ∷ b ∷ c ∷ d ∷ e ∷ f ∷ g ∷ []) len = absurd (omega (arith, len))
nine n (a ∷ b ∷ c ∷ d ∷ e ∷ f ∷ g ∷ h ∷ []) len = absurd (omega (arith, len))
nine n (a ∷ b ∷ c ∷ d ∷ e ∷ f ∷ g ∷ h ∷ i ∷ []) len = omega arith
nine n (a ∷ b ∷ c ∷ d ∷ e ∷ f ∷ g ∷ h ∷ i ∷ j ∷ ds) len = absurd (omega (arith, len))

padded_value : (f : ℕ) → f < one → digits_value 10 (padded 9 f) ≡ f
padded_value f small =
    let told : digits_value 10 (49 ∷ padded 9 f) ≡ 1000000000 + f = ap (digits_value 10) (sym (decimal-one_before f small)) ∙ (decimal_is_IsNumeral_wide (1000000000 + f) (omega (arith, small))).1 in
    let parts : digits_value_after 10 1 (padded 9 f) ≡ 1 * 1000000000 + digits_value_after 10 0 (padded 9 f) = nine 1 (padded 9 f) (padded_length f small) in
    omega (arith, told, parts)

digit_value_small : (d : ℕ) → is_digit d ≡ true → digit_value d < 10
digit_value_small d h = grind (arith, nat_tests)

digits_all : (ds : List ℕ) → AreDigits ds → AllDigits 10 ds
digits_all [] all = tt
digits_all (d ∷ ds) all =
    let parts = and_parts (is_digit d) (list_all is_digit ds) all in
    (digit_value_small d parts.0, digits_all ds parts.1)

-- the whole part and all places of a magnitude
abbrev magnitude_digits : ℕ → List ℕ
magnitude_digits m = decimal (m / one) ++ padded 9 (m % one)

magnitude_are : (m : ℕ) → m < 2 ^ 128 → AreDigits (magnitude_digits m)
magnitude_are m small =
    list_all-append is_digit (decimal (m / one)) (padded 9 (m % one))
    ∙ and_from _ _ (decimal_digits (m / one) (omega (arith, small))) (padded_digits (m % one) (omega arith))

magnitude_value : (m : ℕ) → m < 2 ^ 128 → digits_value 10 (magnitude_digits m) ≡ m
magnitude_value m small =
    let whole : digits_value 10 (decimal (m / one)) ≡ m / one = (decimal_is_IsNumeral_wide (m / one) (omega (arith, small))).1 in
    let fraction : digits_value 10 (padded 9 (m % one)) ≡ m % one = padded_value (m % one) (omega arith) in
    following 0 (decimal (m / one)) (padded 9 (m % one))
    ∙ nine (digits_value 10 (decimal (m / one))) (padded 9 (m % one)) (padded_length (m % one) (omega arith))
    ∙ ap (λ n. n * 1000000000 + digits_value 10 (padded 9 (m % one))) whole
    ∙ ap (λ n. m / one * 1000000000 + n) fraction ∙ omega arith

magnitude_some : (m : ℕ) → m < 2 ^ 128 → 0 < length (magnitude_digits m)
magnitude_some m small =
    omega (arith, length-append (decimal (m / one)) (padded 9 (m % one)), padded_length (m % one) (omega arith))

-- ---- values

no_sign : (m : ℕ) → is_negative (pos m) ≡ false
no_sign m = grind (arith, nat_tests)

a_sign : (m : ℕ) → is_negative (negsuc m) ≡ true
a_sign m = grind (arith, nat_tests)

places_pos : (m : ℕ) → m < 2 ^ 128 → all_places (page_number (pos m)) ≡ magnitude_digits m
places_pos m small =
    ap (λ b. all_places (signed_whole b m ++ fraction_text [] (m % one))) (no_sign m) ∙ fraction_places false m (omega (arith, small))

places_negsuc : (m : ℕ) → suc m < 2 ^ 128 → all_places (page_number (negsuc m)) ≡ 45 ∷ magnitude_digits (suc m)
places_negsuc m small =
    ap (λ b. all_places (signed_whole b (suc m) ++ fraction_text [] (suc m % one))) (a_sign m) ∙ fraction_places true (suc m) (omega (arith, small))

own : IsNumeralModel (AllDigits 10) (digits_value 10)
own = numerals_by_value (AllDigits 10) tells_digits

given_ok : {A E : Type 0} (r : Result A E) (P : Type 0) (v : A) → OkIff r P v → P → r ≡ Ok v
given_ok (Ok x) P v given holds = ap Ok given.1
given_ok (Err e) P v given holds = absurd (given holds)

-- the places of a value's spelling are parsed as the value
pub value_parsed : {E : Type 0} (v : ℤ) (digits : List ℕ) (r : Result ℤ E) → FitsSigned w128 v → digits ≡ all_places (page_number v) → ParsesSigned w128 10 digits r → r ≡ Ok v
value_parsed (pos m) digits r fits is h =
    let small : m < 2 ^ 128 = omega (arith, fits.sfits) in
    let same : digits ≡ magnitude_digits m = is ∙ places_pos m small in
    let value = magnitude_value m small in
    let read = parse_signed_digits own w128 (magnitude_digits m) r (subst (λ l. ParsesSigned w128 10 l r) same h) (digits_all (magnitude_digits m) (magnitude_are m small)) in
    given_ok r _ (pos (digits_value 10 (magnitude_digits m))) read (magnitude_some m small, omega (arith, fits.sfits, value)) ∙ ap (λ n. Ok (pos n)) value
value_parsed (negsuc m) digits r fits is h =
    let small : suc m < 2 ^ 128 = omega (arith, fits.sfits) in
    let same : digits ≡ 45 ∷ magnitude_digits (suc m) = is ∙ places_negsuc m small in
    let value = magnitude_value (suc m) small in
    let read = parse_signed_minus own w128 (45 ∷ magnitude_digits (suc m)) r (subst (λ l. ParsesSigned w128 10 l r) same h) refl in
    given_ok r _ (neg_ℤ (pos (digits_value 10 (magnitude_digits (suc m))))) read (digits_all (magnitude_digits (suc m)) (magnitude_are (suc m) small), magnitude_some (suc m) small, omega (arith, fits.sfits, value))
    ∙ ap (λ n. Ok (neg_ℤ (pos n))) value

-- ---- characters of a number

abbrev pub in_number : ℕ → Bool
in_number c = in_whole c || c == full_stop

whole_number : (ds : List ℕ) → list_all in_whole ds ≡ true → list_all in_number ds ≡ true
whole_number [] all = refl
whole_number (d ∷ ds) all =
    let parts = and_parts (in_whole d) (list_all in_whole ds) all in
    and_from _ _ (rw parts.0 refl) (whole_number ds parts.1)

fraction_number : (f : ℕ) → f < one → list_all in_number (fraction_text [] f) ≡ true
fraction_number f small = by (cases_eq f 0)
  where
    by : (f ≡ 0) ⊎ (f ≡ 0 → ⊥) → list_all in_number (fraction_text [] f) ≡ true
    by (inl none) = ap (λ n. list_all in_number (fraction_text [] n)) none
    by (inr some) =
        ap (list_all in_number) (fraction_text-some [] f some)
        ∙ whole_number (without_trailing_zeros (padded 9 f)) (digits_whole (without_trailing_zeros (padded 9 f)) (trimmed_digits (padded 9 f) (padded_digits f small)))

signed_number : (negative : Bool) (m : ℕ) → m < 2 ^ 128 → list_all in_number (signed_whole negative m ++ fraction_text [] (m % one)) ≡ true
signed_number negative m small =
    list_all-append in_number (signed_whole negative m) (fraction_text [] (m % one))
    ∙ and_from _ _ (whole_number (signed_whole negative m) (whole_all negative m (omega (arith, small)))) (fraction_number (m % one) (omega arith))

pub number_all : (v : ℤ) → FitsSigned w128 v → list_all in_number (page_number v) ≡ true
number_all (pos m) fits = signed_number (is_negative (pos m)) m (omega (arith, fits.sfits))
number_all (negsuc m) fits = signed_number (is_negative (negsuc m)) (suc m) (omega (arith, fits.sfits))

pub number_low : (c : ℕ) → in_number c ≡ true → c < 128
number_low c h = grind (arith, nat_tests)

whole_low : (c : ℕ) → in_whole c ≡ true → c < 128
whole_low c h = grind (arith, nat_tests)

places_ascii : (digits : List ℕ) → list_all in_whole digits ≡ true → IsUtf8 digits
places_ascii digits all = IsUtf8-from_ascii digits (kind_ascii in_whole whole_low digits all)

pub places_utf8 : (v : ℤ) → FitsSigned w128 v → IsUtf8 (all_places (page_number v))
places_utf8 (pos m) fits =
    let small : m < 2 ^ 128 = omega (arith, fits.sfits) in
    subst IsUtf8 (sym (places_pos m small)) (places_ascii (magnitude_digits m) (digits_whole (magnitude_digits m) (magnitude_are m small)))
places_utf8 (negsuc m) fits =
    let small : suc m < 2 ^ 128 = omega (arith, fits.sfits) in
    subst IsUtf8 (sym (places_negsuc m small)) (places_ascii (45 ∷ magnitude_digits (suc m)) (digits_whole (magnitude_digits (suc m)) (magnitude_are (suc m) small)))
