-- What is read from the front of a line is what stands there, and what stands there is read.
use Rattle.std.proofs.Common.{◌≡◌, ◌≢◌, ℕ, suc, ◌+◌, ◌-◌, ◌*◌, ◌^◌, ◌<◌, ◌≤◌, Bool, true, false, cond, not, ◌&&◌, leb, List, [], ◌∷◌, ◌++◌, length, get_or, take, drop, Option, Some, None, Result, Ok, Err, refl, sym, ap, subst, ◌∙◌, arith, inl, inr, lit<}
use Rattle.std.specs.Prelude.{decimal, bytes_eq, nat_eq, position, unwrap_or, MatchOption, MatchResult, IsUtf8}
use Rattle.std.specs.Result.{result_ok, OkIff}
use Rattle.std.specs.Char.{is_ascii_digit, digit_value}
use Rattle.std.specs.List.{position_or_len}
use Rattle.std.specs.Str.Parse.{AllDigits, digits_value, digits_value_after, ParsesUnsigned}
use Rattle.std.proofs.Math.Numerals.{one-add}
use Rattle.std.proofs.lemmas.Bool.{cases_lt, cases_eq, lt-ltb, le-ltb, le-leb, lt-leb, leb-true, and_parts}
use Rattle.std.proofs.lemmas.Bool.Decides.{nat_tests, Decides-eqb}
use Rattle.std.proofs.lemmas.Fmt.{decimal_is_IsNumeral, decimal_digit, decimal_nonempty, first_decimal, decimal-digits_value, IsAscii-from_digits}
use Rattle.std.proofs.lemmas.List.{take_at, drop_at, take-append-drop}
use Rattle.std.proofs.lemmas.List.Sums.{prefix_len-le-length}
use Rattle.std.proofs.lemmas.Option.{cond_some, some_pair_parts}
use Rattle.std.proofs.lemmas.Slice.Eq.{bytes_eq-Decides}
use Rattle.std.proofs.lemmas.Str.{IsUtf8-from_ascii, digit_value_digit}
use Rattle.std.proofs.lemmas.Str.Parse.{digit_from_value, digits_value_short, IsNumeralModel, numerals_by_value, tells_digits, parse_digits}
use Rattle.drive_script.specs.Reading.{◌>>=◌, behind, digit_count, number_of, number_at}

-- the place of the first element that passes, or the length
pub position_or_length : (p : ℕ → Bool) (xs : List ℕ) → unwrap_or (position p xs) (length xs) ≡ position_or_len p xs
position_or_length p xs =
    let within : position_or_len p xs ≤ length xs = prefix_len-le-length (λ x. not (p x)) xs in
    elim (cases_lt (position_or_len p xs) (length xs)) [
      | inl lt ↦ rw (lt-ltb (position_or_len p xs) (length xs) lt) refl
      | inr le ↦ rw (le-ltb (position_or_len p xs) (length xs) le) (omega arith)
    ]

-- the value of a step that gave one
pub bind_some : {A B : Type 0} (o : Option A) (f : A → Option B) (y : B) → (o >>= f) ≡ Some y → (x : A) × (o ≡ Some x) × (f x ≡ Some y)
bind_some None f y e = absurd cc
bind_some (Some x) f y e = (x, refl, e)

-- ---- literals

pub behind_takes : (literal bytes rest : List ℕ) → behind literal bytes ≡ Some rest → bytes ≡ literal ++ rest
unfolding behind
behind_takes literal bytes rest e =
    let parts = cond_some (bytes_eq literal (take (length literal) bytes)) (drop (length literal) bytes) rest e in
    let front : literal ≡ take (length literal) bytes = (bytes_eq-Decides literal (take (length literal) bytes)).0 parts.0 in
    sym (take-append-drop (length literal) bytes) ∙ ap (λ (x : List ℕ). x ++ drop (length literal) bytes) (sym front) ∙ ap (λ (x : List ℕ). literal ++ x) parts.1

pub behind_again : (literal rest : List ℕ) → behind literal (literal ++ rest) ≡ Some rest
unfolding behind
behind_again literal rest =
    let same : bytes_eq literal literal ≡ true = (bytes_eq-Decides literal literal).1 refl in
    rw (take_at literal rest (length literal) refl, drop_at literal rest (length literal) refl, same) refl

-- ---- a literal that is held to the bytes one by one

-- all but the first
abbrev others : List ℕ → List ℕ
others xs = take (length xs - 1) (drop 1 xs)

others_are : (x : ℕ) (xs : List ℕ) → others (x ∷ xs) ≡ xs
others_are x xs =
    let count : length (x ∷ xs) - 1 ≡ length xs = omega arith in
    ap (λ n. take n xs) count ∙ take_own xs
  where
    take_own : (ys : List ℕ) → take (length ys) ys ≡ ys
    take_own [] = refl
    take_own (y ∷ ys) = ap (λ l. y ∷ l) (take_own ys)

-- it goes on as the bytes do
pub behind_goes : (literal bytes : List ℕ) → 0 < length literal → 0 < length bytes → get_or bytes 0 0 ≡ get_or literal 0 0 → behind (others literal) (others bytes) ≡ behind literal bytes
unfolding behind
behind_goes [] bytes some more same = absurd (omega (arith, some))
behind_goes (b ∷ literal) [] some more same = absurd (omega (arith, more))
behind_goes (b ∷ literal) (c ∷ bytes) some more same = (λ j. behind (others_are b literal j) (others_are c bytes j)) ∙ sym (goes b c literal bytes (sym same))
  where
    goes : (x y : ℕ) (xs ys : List ℕ) → x ≡ y → behind (x ∷ xs) (y ∷ ys) ≡ behind xs ys
    goes x y xs ys same = rw ((Decides-eqb x y).1 same) refl

-- it goes on differently
pub behind_differs : (literal bytes : List ℕ) → 0 < length literal → 0 < length bytes → (get_or bytes 0 0 ≡ get_or literal 0 0 → ⊥) → behind literal bytes ≡ None
unfolding behind
behind_differs [] bytes some more differ = absurd (omega (arith, some))
behind_differs (b ∷ literal) [] some more differ = absurd (omega (arith, more))
behind_differs (b ∷ literal) (c ∷ bytes) some more differ = by (nat_eq b c) refl
  where
    by : (t : Bool) → nat_eq b c ≡ t → behind (b ∷ literal) (c ∷ bytes) ≡ None
    by true e = absurd (differ (sym ((Decides-eqb b c).0 e)))
    by false e = rw e refl

-- the bytes end before it
pub behind_ends : (literal bytes : List ℕ) → 0 < length literal → length bytes < 1 → behind literal bytes ≡ None
unfolding behind
behind_ends [] bytes some none = absurd (omega (arith, some))
behind_ends (b ∷ literal) [] some none = refl
behind_ends (b ∷ literal) (c ∷ bytes) some none = absurd (omega (arith, none))

-- it ends
pub behind_over : (literal bytes : List ℕ) → length literal < 1 → behind literal bytes ≡ Some bytes
unfolding behind
behind_over [] bytes none = refl
behind_over (b ∷ literal) bytes none = absurd (omega (arith, none))

-- ---- numbers

is_digit_value : (b : ℕ) → is_ascii_digit b ≡ true → digit_value b < 10
is_digit_value b e = grind (arith, nat_tests)

value_is_digit : (b : ℕ) → digit_value b < 10 → is_ascii_digit b ≡ true
value_is_digit b h =
    let range = digit_from_value b h in
    grind (arith, nat_tests)

front_step : (t : Bool) (b n : ℕ) (bytes : List ℕ) → is_ascii_digit b ≡ t → AllDigits 10 (take n bytes) → AllDigits 10 (take (cond (not (not t)) (1 + n) 0) (b ∷ bytes))
front_step true b n bytes e h = rw one-add (is_digit_value b e, h)
front_step false b n bytes e h = tt

-- the digits at the front are digits
pub digits_front : (bytes : List ℕ) → AllDigits 10 (take (digit_count bytes) bytes)
digits_front [] = tt
digits_front (b ∷ bytes) = front_step (is_ascii_digit b) b (digit_count bytes) bytes refl (digits_front bytes)

pub digit_count-append : (digits rest : List ℕ) → AllDigits 10 digits → digit_count rest ≡ 0 → digit_count (digits ++ rest) ≡ length digits
digit_count-append [] rest h none = none
digit_count-append (d ∷ digits) rest h none = rw (value_is_digit d h.0, digit_count-append digits rest h.1 none) (omega arith)

-- the digits of a number are read as it
number_of_decimal : (most n : ℕ) → n < 2 ^ 64 → number_of most (decimal n) ≡ cond (leb n most) (Some n) None
number_of_decimal most n small =
    let value : digits_value 10 (decimal n) ≡ n = (decimal_is_IsNumeral n small).1 in
    let same : bytes_eq (decimal n) (decimal n) ≡ true = (bytes_eq-Decides (decimal n) (decimal n)).1 refl in
    rw (value, same) refl

-- what is the decimal form of no number is read as none
number_of_none : (most : ℕ) (digits : List ℕ) → most < 2 ^ 64 → ((n : ℕ) → n < 2 ^ 64 → digits ≢ decimal n) → number_of most digits ≡ None
number_of_none most digits small none = by (bytes_eq (decimal value) digits && leb value most) refl
  where
    value : ℕ
    value = digits_value 10 digits

    by : (t : Bool) → (bytes_eq (decimal value) digits && leb value most) ≡ t → cond t (Some value) None ≡ None
    by true e =
        let parts = and_parts (bytes_eq (decimal value) digits) (leb value most) e in
        let within : value ≤ most = leb-true value most parts.1 in
        absurd (none value (omega arith) (sym ((bytes_eq-Decides (decimal value) digits).0 parts.0)))
    by false e = refl

-- the three ways in which a number is read
pub number_none : (most : ℕ) (bytes digits : List ℕ) → most < 2 ^ 64 → digits ≡ take (digit_count bytes) bytes → ((n : ℕ) → n < 2 ^ 64 → digits ≢ decimal n) → number_at most bytes ≡ None
unfolding number_at
number_none most bytes digits small front none = rw (number_of_none most (take (digit_count bytes) bytes) small (λ n fits e. none n fits (front ∙ e))) refl

pub number_past : (most n : ℕ) (bytes digits : List ℕ) → n < 2 ^ 64 → digits ≡ take (digit_count bytes) bytes → digits ≡ decimal n → most < n → number_at most bytes ≡ None
unfolding number_at
number_past most n bytes digits small front is past = rw (sym front ∙ is, number_of_decimal most n small, lt-leb n most past) refl

pub number_read : (most n : ℕ) (bytes digits rest : List ℕ) → n < 2 ^ 64 → digits ≡ take (digit_count bytes) bytes → rest ≡ drop (digit_count bytes) bytes → digits ≡ decimal n → n ≤ most → number_at most bytes ≡ Some (n, rest)
unfolding number_at
number_read most n bytes digits rest small front back is within = rw (back, sym front ∙ is, number_of_decimal most n small, le-leb n most within) refl

pub number_takes : (most n : ℕ) (bytes rest : List ℕ) → number_at most bytes ≡ Some (n, rest) → (bytes ≡ decimal n ++ rest) × (n ≤ most)
unfolding number_at
number_takes most n bytes rest e =
    let digits : List ℕ = take (digit_count bytes) bytes in
    let value : ℕ = digits_value 10 digits in
    let step = bind_some (number_of most digits) (λ m. Some (m, drop (digit_count bytes) bytes)) (n, rest) e in
    let tested = cond_some (bytes_eq (decimal value) digits && leb value most) value step.0 step.1 in
    let parts = and_parts (bytes_eq (decimal value) digits) (leb value most) tested.0 in
    let given = some_pair_parts step.0 n (drop (digit_count bytes) bytes) rest step.2 in
    let is : value ≡ n = tested.1 ∙ given.0 in
    let front : digits ≡ decimal n = sym ((bytes_eq-Decides (decimal value) digits).0 parts.0) ∙ ap decimal is in
    let within : value ≤ most = leb-true value most parts.1 in
    (sym (take-append-drop (digit_count bytes) bytes) ∙ ap (λ (x : List ℕ). x ++ drop (digit_count bytes) bytes) front ∙ ap (λ (x : List ℕ). decimal n ++ x) given.1, omega arith)

pub number_again : (most n : ℕ) (rest : List ℕ) → most < 2 ^ 64 → n ≤ most → digit_count rest ≡ 0 → number_at most (decimal n ++ rest) ≡ Some (n, rest)
number_again most n rest small within none =
    let count : digit_count (decimal n ++ rest) ≡ length (decimal n) = digit_count-append (decimal n) rest (decimal_is_IsNumeral n (omega arith)).0.1 none in
    number_read most n (decimal n ++ rest) (decimal n) rest (omega arith) (sym (take_at (decimal n) rest (digit_count (decimal n ++ rest)) (sym count))) (sym (drop_at (decimal n) rest (digit_count (decimal n ++ rest)) (sym count))) refl within

-- ---- what `parse` says of digits

pub own : IsNumeralModel (AllDigits 10) (digits_value 10)
own = numerals_by_value (AllDigits 10) tells_digits

pub digits_are_text : {S E : Type 0} (Q : S → Type 0) (P : E → Type 0) (digits : List ℕ) (r : Result S E) → AllDigits 10 digits → MatchResult r Q (λ e. ¬ (IsUtf8 digits) × P e) → result_ok r ≡ None → ⊥
digits_are_text Q P digits (Ok x) all h e = cc
digits_are_text Q P digits (Err x) all h e = h.0 (IsUtf8-from_ascii digits (IsAscii-from_digits digits all))

-- no number but 0 has a zero at its front
pub no_zero_in_front : (n : ℕ) (digits : List ℕ) → n < 2 ^ 64 → 1 < length digits → get_or digits 0 0 ≡ 48 → digits ≡ decimal n → ⊥
no_zero_in_front n digits small long zero_first is =
    elim (cases_eq n 0) [
      | inl e ↦ let one : digits ≡ 48 ∷ [] = is ∙ ap decimal e ∙ decimal_digit 0 (lit< tt) in let len : length digits ≡ 1 = ap length one in omega arith
      | inr e ↦ let first : 48 < get_or (decimal n) 0 0 = first_decimal n (omega arith) small in let same : get_or digits 0 0 ≡ get_or (decimal n) 0 0 = ap (λ (x : List ℕ). get_or x 0 0) is in omega arith
    ]

pub parsed : {E : Type 0} (digits : List ℕ) (r : Result ℕ E) → AllDigits 10 digits → (1 < length digits → get_or digits 0 0 ≢ 48) → ParsesUnsigned 64 10 digits r
    → MatchOption (result_ok r) ((n : ℕ) → n < 2 ^ 64 → digits ≢ decimal n) (λ n. digits ≡ decimal n)
parsed digits r all plain h = by r (parse_digits own 64 digits r h all)
  where
    first : 0 < length digits → get_or digits 0 0 ≡ 48 → length digits ≡ 1
    first some e = elim (cases_lt 1 (length digits)) [ inl long ↦ absurd (plain long e) | inr short ↦ omega arith ]

    by : {E : Type 0} (r : Result ℕ E) → OkIff r ((0 < length digits) × (digits_value 10 digits < 2 ^ 64)) (digits_value 10 digits) → MatchOption (result_ok r) ((n : ℕ) → n < 2 ^ 64 → digits ≢ decimal n) (λ n. digits ≡ decimal n)
    by (Ok x) given = sym (decimal-digits_value own digits all given.0.0 (first given.0.0) given.0.1) ∙ ap decimal (sym given.1)
    by (Err x) given = λ n small is. given (subst (λ (ds : List ℕ). 0 < length ds) (sym is) (decimal_nonempty n small), subst (λ (v : ℕ). v < 2 ^ 64) (sym (ap (digits_value 10) is ∙ (decimal_is_IsNumeral n small).1)) small)

-- further digits never lessen a number
pub grows : (n : ℕ) (ds : List ℕ) → n ≤ digits_value_after 10 n ds
grows n [] = omega arith
grows n (c ∷ cs) = let rest = grows (n * 10 + digit_value c) cs in omega arith

-- so a number that goes on to at most nineteen digits has room in 64 bits, also with the next one
pub has_room : (digits ds : List ℕ) (n : ℕ) → AllDigits 10 digits → length digits ≤ 19 → AllDigits 10 ds → digits_value_after 10 n ds ≡ digits_value 10 digits → 0 < length ds
    → (n * 10 < 2 ^ 64) × (n * 10 + (get_or ds 0 0 - 48) < 2 ^ 64)
has_room digits [] n all few each same some = absurd (omega (arith, some))
has_room digits (c ∷ cs) n all few each same some =
    let value = digit_value_digit c (digit_from_value c each.0) in
    let total = digits_value_short own digits 19 all few in
    let below = grows (n * 10 + digit_value c) cs in
    (omega (arith, total, below, same), omega (arith, value, total, below, same))

-- at the end the number is that of all digits
pub at_end : (digits ds : List ℕ) (n : ℕ) → AllDigits 10 digits → length digits ≤ 19 → digits_value_after 10 n ds ≡ digits_value 10 digits → length ds < 1 → n < 10 ^ 19
at_end digits [] n all few same none = let total = digits_value_short own digits 19 all few in omega (arith, total, same)
at_end digits (c ∷ cs) n all few same none = absurd (omega (arith, none))

-- digits without a zero in front, which have room, are the decimal form of their value
pub short_decimal : (digits : List ℕ) → AllDigits 10 digits → 0 < length digits → length digits ≤ 19 → (1 < length digits → get_or digits 0 0 ≢ 48) → digits ≡ decimal (digits_value 10 digits)
short_decimal digits all some few plain = sym (decimal-digits_value own digits all some first (omega (arith, digits_value_short own digits 19 all few)))
  where
    first : get_or digits 0 0 ≡ 48 → length digits ≡ 1
    first e = elim (cases_lt 1 (length digits)) [ inl long ↦ absurd (plain long e) | inr short ↦ omega arith ]

-- ---- a number in one pass

digit_first : (c : ℕ) (cs : List ℕ) → is_ascii_digit c ≡ true → digit_count (c ∷ cs) ≡ suc (digit_count cs)
digit_first c cs e = rw (e, one-add) refl

value_of_digit : (c : ℕ) → is_ascii_digit c ≡ true → digit_value c ≡ c - 48
value_of_digit c e = let value = digit_value_digit c (digit_from_value c (is_digit_value c e)) in omega (arith, value)

-- the value so far goes on with the first digit to the same number, and the same bytes are behind it
pub goes_on : (n c : ℕ) (cs : List ℕ) → is_ascii_digit c ≡ true
    → digits_value_after 10 n (take (digit_count (c ∷ cs)) (c ∷ cs)) ≡ digits_value_after 10 (n * 10 + (c - 48)) (take (digit_count cs) cs)
goes_on n c cs e = rw (digit_first c cs e) (ap (λ d. digits_value_after 10 (n * 10 + d) (take (digit_count cs) cs)) (value_of_digit c e))

pub goes_past : (c : ℕ) (cs : List ℕ) → is_ascii_digit c ≡ true → drop (digit_count (c ∷ cs)) (c ∷ cs) ≡ drop (digit_count cs) cs
goes_past c cs e = rw (digit_first c cs e) refl

pub zero_front : (c : ℕ) (cs : List ℕ) → c ≡ 48 → digit_count cs ≡ 0 → take (digit_count (c ∷ cs)) (c ∷ cs) ≡ decimal 0
zero_front c cs zero none =
    ap (λ d. take (digit_count (d ∷ cs)) (d ∷ cs)) zero ∙ ap (λ n. take n (48 ∷ cs)) (digit_first 48 cs refl ∙ ap suc none) ∙ sym (decimal_digit 0 (lit< tt))

-- digits behind one that is no zero are the decimal form of the value that they go on to
pub begun_number : (n c : ℕ) (cs : List ℕ) → is_ascii_digit c ≡ true → c ≢ 48 → n < 2 ^ 64 → n ≡ digits_value_after 10 (c - 48) (take (digit_count cs) cs)
    → take (digit_count (c ∷ cs)) (c ∷ cs) ≡ decimal n
begun_number n c cs digit plain small is = front ∙ sym (decimal-digits_value own digits all (omega arith) (λ e. absurd (plain e)) (rw value small)) ∙ ap decimal value
  where
    digits : List ℕ
    digits = c ∷ take (digit_count cs) cs

    front : take (digit_count (c ∷ cs)) (c ∷ cs) ≡ digits
    front = rw (digit_first c cs digit) refl

    all : AllDigits 10 digits
    all = subst (AllDigits 10) front (digits_front (c ∷ cs))

    value : digits_value 10 digits ≡ n
    value =
        let same : 0 * 10 + (c - 48) ≡ c - 48 = omega arith in
        sym (ap (digits_value 10) front) ∙ goes_on 0 c cs digit ∙ ap (λ m. digits_value_after 10 m (take (digit_count cs) cs)) same ∙ sym is
