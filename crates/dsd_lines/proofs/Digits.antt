-- Digits and the numbers that they are the decimal form of.
use Rattle.std.proofs.Common.{◌≡◌, ◌≢◌, ℕ, zero, suc, ◌+◌, ◌-◌, ◌*◌, ◌^◌, ◌<◌, ◌≤◌, true, false, ◌&&◌, List, [], ◌∷◌, length, get_or, Option, Some, None, Result, Ok, Err, refl, sym, ap, subst, ◌∙◌, arith, inl, inr, lit<}
use Rattle.std.specs.Prelude.{decimal, bytes_eq, nat_lt, MatchResult, MatchOption, IsUtf8, SomeIff}
use Rattle.std.specs.Result.{result_ok, OkIff}
use Rattle.std.specs.Char.{is_ascii_digit, digit_value}
use Rattle.std.specs.List.{list_all}
use Rattle.std.specs.Str.Parse.{AllDigits, digits_value, ParsesUnsigned}
use Rattle.std.proofs.lemmas.Bool.{cases_lt, cases_eq, lt-ltb, le-leb, ltb-true, and_parts, and_from, false≢true}
use Rattle.std.proofs.lemmas.Bool.Decides.{nat_tests}
use Rattle.std.proofs.lemmas.Fmt.{decimal_is_IsNumeral, decimal_digit, decimal_nonempty, first_decimal, decimal-digits_value, IsAscii-from_digits}
use Rattle.std.proofs.lemmas.Option.{cond_some}
use Rattle.std.proofs.lemmas.Slice.Eq.{bytes_eq-Decides}
use Rattle.std.proofs.lemmas.Str.{IsUtf8-from_ascii}
use Rattle.std.proofs.lemmas.Str.Parse.{digit_from_value, digits_value_short, IsNumeralModel, numerals_by_value, tells_digits, parse_digits}
use Rattle.std.proofs.Math.Nat.{pow-suc, mul-lt-mul_of_pos_right}
use Rattle.std.proofs.lemmas.Int.Digits.{digits_value-lt}
use Rattle.std.proofs.lemmas.Nat.{pow-add}
use Rattle.dsd_lines.specs.Reading.{number_of, fraction_of}

pub own : IsNumeralModel (AllDigits 10) (digits_value 10)
own = numerals_by_value (AllDigits 10) tells_digits

-- ---- digits

is_digit_value : (b : ℕ) → is_ascii_digit b ≡ true → digit_value b < 10
is_digit_value b e = grind (arith, nat_tests)

pub value_is_digit : (b : ℕ) → digit_value b < 10 → is_ascii_digit b ≡ true
value_is_digit b h =
    let range = digit_from_value b h in
    grind (arith, nat_tests)

pub digits_all : (text : List ℕ) → list_all is_ascii_digit text ≡ true → AllDigits 10 text
digits_all [] all = tt
digits_all (c ∷ text) all =
    let parts = and_parts (is_ascii_digit c) (list_all is_ascii_digit text) all in
    (is_digit_value c parts.0, digits_all text parts.1)

pub all_digits : (text : List ℕ) → AllDigits 10 text → list_all is_ascii_digit text ≡ true
all_digits [] all = refl
all_digits (c ∷ text) all = and_from (is_ascii_digit c) (list_all is_ascii_digit text) (value_is_digit c all.0) (all_digits text all.1)

pub digits_are_text : {S E : Type 0} (Q : S → Type 0) (P : E → Type 0) (digits : List ℕ) (r : Result S E) → AllDigits 10 digits → MatchResult r Q (λ e. ¬ (IsUtf8 digits) × P e) → result_ok r ≡ None → ⊥
digits_are_text Q P digits (Ok x) all h e = cc
digits_are_text Q P digits (Err x) all h e = h.0 (IsUtf8-from_ascii digits (IsAscii-from_digits digits all))

pub parsed : {E : Type 0} (digits : List ℕ) (r : Result ℕ E) → AllDigits 10 digits → ParsesUnsigned 64 10 digits r → SomeIff (result_ok r) ((0 < length digits) × (digits_value 10 digits < 2 ^ 64)) (digits_value 10 digits)
parsed digits r all h = by r (parse_digits own 64 digits r h all)
  where
    by : {E : Type 0} (r : Result ℕ E) → OkIff r ((0 < length digits) × (digits_value 10 digits < 2 ^ 64)) (digits_value 10 digits) → SomeIff (result_ok r) ((0 < length digits) × (digits_value 10 digits < 2 ^ 64)) (digits_value 10 digits)
    by (Ok x) given = given
    by (Err x) given = given

-- ---- numbers

-- the decimal form of a number is read as it
pub number_again : (n : ℕ) → n < 2 ^ 64 → number_of (decimal n) ≡ Some n
number_again n small =
    let value : digits_value 10 (decimal n) ≡ n = (decimal_is_IsNumeral n small).1 in
    let same : bytes_eq (decimal n) (decimal n) ≡ true = (bytes_eq-Decides (decimal n) (decimal n)).1 refl in
    let within : nat_lt n (2 ^ 64) ≡ true = lt-ltb n (2 ^ 64) small in
    rw (value, same, within) refl

-- and what is read as a number is its decimal form
pub number_takes : (text : List ℕ) (n : ℕ) → number_of text ≡ Some n → (text ≡ decimal n) × (n < 2 ^ 64)
number_takes text n e =
    let value = digits_value 10 text in
    let tested = cond_some (bytes_eq (decimal value) text && nat_lt value (2 ^ 64)) value n e in
    let parts = and_parts (bytes_eq (decimal value) text) (nat_lt value (2 ^ 64)) tested.0 in
    let small : value < 2 ^ 64 = ltb-true value (2 ^ 64) parts.1 in
    (sym ((bytes_eq-Decides (decimal value) text).0 parts.0) ∙ ap decimal tested.1, subst (λ m. m < 2 ^ 64) tested.1 small)

-- what is the decimal form of no number is read as none
number_none : (text : List ℕ) → ((n : ℕ) → n < 2 ^ 64 → text ≢ decimal n) → number_of text ≡ None
number_none text none = by (number_of text) refl
  where
    by : (o : Option ℕ) → number_of text ≡ o → number_of text ≡ None
    by None e = e
    by (Some n) e = let h = number_takes text n e in absurd (none n h.1 h.0)

pub no_digits : (text : List ℕ) → list_all is_ascii_digit text ≡ false → number_of text ≡ None
no_digits text other = number_none text (λ n small is.
    let all = all_digits (decimal n) (decimal_is_IsNumeral n small).0.1 in
    false≢true (sym other ∙ ap (list_all is_ascii_digit) is ∙ all))

-- no number but 0 has a zero at its front
pub zero_in_front : (text : List ℕ) → 1 < length text → get_or text 0 0 ≡ 48 → number_of text ≡ None
zero_in_front text long zero_first = number_none text (λ n small is.
    elim (cases_eq n 0) [
      | inl e ↦ let one : text ≡ 48 ∷ [] = is ∙ ap decimal e ∙ decimal_digit 0 (lit< tt) in let len : length text ≡ 1 = ap length one in absurd (omega arith)
      | inr e ↦ let first : 48 < get_or (decimal n) 0 0 = first_decimal n (omega arith) small in let same : get_or text 0 0 ≡ get_or (decimal n) 0 0 = ap (λ (x : List ℕ). get_or x 0 0) is in absurd (omega arith)
    ])

-- digits without a zero in front of others are read as their value
pub digits_read : (text : List ℕ) (found : Option ℕ) → AllDigits 10 text → (1 < length text → get_or text 0 0 ≢ 48) → SomeIff found ((0 < length text) × (digits_value 10 text < 2 ^ 64)) (digits_value 10 text) → found ≡ number_of text
digits_read text (Some n) all plain given =
    let first : get_or text 0 0 ≡ 48 → length text ≡ 1 = λ e. elim (cases_lt 1 (length text)) [ inl long ↦ absurd (plain long e) | inr short ↦ omega (arith, given.0.0) ] in
    let is : text ≡ decimal n = sym (decimal-digits_value own text all given.0.0 first given.0.1) ∙ ap decimal (sym given.1) in
    sym (ap number_of is ∙ number_again n (subst (λ v. v < 2 ^ 64) (sym given.1) given.0.1))
digits_read text None all plain given = sym (number_none text (λ n small is.
    given (subst (λ (ds : List ℕ). 0 < length ds) (sym is) (decimal_nonempty n small), subst (λ (v : ℕ). v < 2 ^ 64) (sym (ap (digits_value 10) is ∙ (decimal_is_IsNumeral n small).1)) small)))

-- ---- fractions

-- digits that are one to nine are read as so many billionths, and less than one
pub no_fraction : (digits : List ℕ) → list_all is_ascii_digit digits ≡ false → fraction_of digits ≡ None
no_fraction digits other = rw other refl

pub few_digits : (digits : List ℕ) (found : Option ℕ) → list_all is_ascii_digit digits ≡ true → length digits ≤ 9 → SomeIff found ((0 < length digits) × (digits_value 10 digits < 2 ^ 64)) (digits_value 10 digits)
    → MatchOption found (length digits ≡ 0) (λ n. (0 < length digits) × (n ≡ digits_value 10 digits))
few_digits digits (Some n) all few given = (given.0.0, given.1)
few_digits digits None all few given =
    elim (cases_lt 0 (length digits)) [
      | inl some ↦ let value = digits_value_short own digits 9 (digits_all digits all) few in absurd (given (some, omega (arith, value)))
      | inr none ↦ omega (arith, none)
    ]

pub fraction_read : (digits : List ℕ) → list_all is_ascii_digit digits ≡ true → 0 < length digits → length digits ≤ 9 → fraction_of digits ≡ Some (digits_value 10 digits * 10 ^ (9 - length digits))
fraction_read digits all some few = rw (all, le-leb 1 (length digits) some, le-leb (length digits) 9 few) refl

pub fraction_empty : (digits : List ℕ) → length digits ≡ 0 → fraction_of digits ≡ None
fraction_empty [] none = refl
fraction_empty (d ∷ digits) none = absurd (omega (arith, none))

ten_some : (k : ℕ) → 0 < 10 ^ k
ten_some zero = lit< tt
ten_some (suc k) = let rest = ten_some k in omega (arith, pow-suc 10 k)

below_ten_to : (k v : ℕ) → k ≤ 9 → v < 10 ^ k → v * 10 ^ (9 - k) < 10 ^ 9
below_ten_to k v few h =
    let nine : k + (9 - k) ≡ 9 = omega (arith, few) in
    subst (λ n. v * 10 ^ (9 - k) < n) (sym (pow-add 10 k (9 - k)) ∙ ap (λ n. 10 ^ n) nine) (mul-lt-mul_of_pos_right h (ten_some (9 - k)))

pub fraction_small : (digits : List ℕ) → length digits ≤ 9 → list_all is_ascii_digit digits ≡ true → digits_value 10 digits * 10 ^ (9 - length digits) < 10 ^ 9
fraction_small digits few all = below_ten_to (length digits) (digits_value 10 digits) few (digits_value-lt 10 digits (digits_all digits all))
