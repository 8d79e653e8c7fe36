-- Numbers and values: what is read is their spelling, and each spelling is read.
use Rattle.std.proofs.Common.{◌≡◌, ℕ, zero, suc, ◌+◌, ◌-◌, ◌*◌, ◌^◌, ◌<◌, ◌≤◌, Bool, true, false, ◌&&◌, leb, List, [], ◌∷◌, ◌++◌, length, take, drop, Option, Some, None, refl, sym, ap, subst, ◌∙◌, append_assoc, arith, lit<, lit≤}
use Rattle.std.specs.Prelude.{codes, decimal, ℤ, if◌then◌else◌}
use Rattle.std.specs.Str.Parse.{AllDigits, digits_value}
use Rattle.std.proofs.lemmas.Bool.{and_parts, leb-true, le-leb}
use Rattle.std.proofs.lemmas.Bool.Decides.{nat_tests}
use Rattle.std.specs.Prelude.{Result, Ok, Err}
use Rattle.std.specs.Result.{OkIff, result_ok}
use Rattle.std.specs.Str.Parse.{ParsesUnsigned}
use Rattle.std.proofs.Math.Nat.{pow-suc, mul-lt-mul_of_pos_right}
use Rattle.std.proofs.lemmas.Fmt.{decimal_is_IsNumeral, decimal_nonempty}
use Rattle.std.proofs.lemmas.Int.Digits.{digits_value-lt}
use Rattle.std.proofs.lemmas.Nat.{pow-add}
use Rattle.std.proofs.lemmas.List.{take_at, drop_at, take-append-drop}
use Rattle.std.proofs.lemmas.Option.{cond_some, same_Some}
use Rattle.std.proofs.lemmas.Str.Parse.{digit_from_value, parse_digits, digits_value_short}
use Rattle.metrics_core.specs.Numbers.{one}
use Rattle.drive_script.specs.Words.{IsDec, sign, signed, point_and, billionths, greatest}
use Rattle.drive_script.specs.Reading.{◌>>=◌, both, behind, digit_count, number_at, positive_at, fraction_of, fraction_behind, fraction_at, value_of, signed_at, sign_behind, fixed_at}
use Rattle.drive_script.proofs.Fields.{bind_some, behind_takes, behind_again, number_takes, number_again, digits_front, digit_count-append, own}
use Rattle.drive_script.proofs.Readers.{IsReader, stops_less, SpellsBoth, both_reads}
use Rattle.drive_script.proofs.Spaced.{WordEnds}

-- no digit stands at the front
abbrev pub NoDigit : List ℕ → Type 0
NoDigit rest = digit_count rest ≡ 0

abbrev pub SpellsNumber : ℕ → ℕ → List ℕ → Type 0
SpellsNumber most n front = (front ≡ decimal n) × (n ≤ most)

pub number_reads : (most : ℕ) → most < 2 ^ 64 → IsReader (number_at most) (SpellsNumber most) NoDigit
number_reads most small = record {
  takes = λ bytes n rest e. let h = number_takes most n bytes rest e in (decimal n, (refl, h.1), h.0);
  again = λ n front rest h stop. ap (λ l. number_at most (l ++ rest)) h.0 ∙ number_again most n rest small h.1 stop;
}

-- numbers end before a space too
pub no_digit : (rest : List ℕ) → WordEnds rest → NoDigit rest
no_digit [] stop = refl
no_digit (b ∷ rest) stop = subst (λ c. NoDigit (c ∷ rest)) (sym stop) refl

pub number_words : (most : ℕ) → most < 2 ^ 64 → IsReader (number_at most) (SpellsNumber most) WordEnds
number_words most small = stops_less (number_at most) (SpellsNumber most) NoDigit WordEnds (number_reads most small) no_digit

-- a number from 1 on
abbrev pub SpellsPositive : ℕ → ℕ → List ℕ → Type 0
SpellsPositive most n front = (1 ≤ n) × SpellsNumber most n front

pub positive_reads : (most : ℕ) → most < 2 ^ 64 → IsReader (positive_at most) (SpellsPositive most) WordEnds
unfolding positive_at
positive_reads most small = record { takes = takes; again = again }
  where
    takes : (bytes : List ℕ) (n : ℕ) (rest : List ℕ) → positive_at most bytes ≡ Some (n, rest) → (front : List ℕ) × SpellsPositive most n front × (bytes ≡ front ++ rest)
    takes bytes n rest e =
        let m = bind_some (number_at most bytes) (λ n. if leb 1 n.0 then Some n else None) (n, rest) e in
        let tested = cond_some (leb 1 m.0.0) m.0 (n, rest) m.2 in
        let some : 1 ≤ m.0.0 = leb-true 1 m.0.0 tested.0 in
        let h = (number_words most small).takes bytes m.0.0 m.0.1 m.1 in
        subst (λ (p : ℕ × List ℕ). (front : List ℕ) × SpellsPositive most p.0 front × (bytes ≡ front ++ p.1)) {x = m.0} {y = (n, rest)} tested.1 (h.0, (some, h.1), h.2)

    again : (n : ℕ) (front rest : List ℕ) → SpellsPositive most n front → WordEnds rest → positive_at most (front ++ rest) ≡ Some (n, rest)
    again n front rest (some, number) stop =
        let within : leb 1 n ≡ true = le-leb 1 n some in
        ap (λ o. o >>= λ n. if leb 1 n.0 then Some n else None) ((number_words most small).again n front rest number stop) ∙ rw within refl

-- ---- fractions

abbrev SpellsFraction : ℕ → List ℕ → Type 0
SpellsFraction n front = (digits : List ℕ) × (length digits ≤ 9) × AllDigits 10 digits × (front ≡ point_and digits) × (n ≡ digits_value 10 digits * 10 ^ (9 - length digits))

-- digits that are some have a point before them
pointed : (digits : List ℕ) → 1 ≤ length digits → point_and digits ≡ codes "." ++ digits
pointed [] some = absurd (omega (arith, some))
pointed (d ∷ digits) some = refl

fraction_takes : (bytes : List ℕ) (n : ℕ) (rest : List ℕ) → fraction_at bytes ≡ Some (n, rest) → (front : List ℕ) × SpellsFraction n front × (bytes ≡ front ++ rest)
unfolding fraction_at
fraction_takes bytes n rest e = by (behind (codes ".") bytes) refl e
  where
    by : (o : Option (List ℕ)) → behind (codes ".") bytes ≡ o → fraction_behind o bytes ≡ Some (n, rest) → (front : List ℕ) × SpellsFraction n front × (bytes ≡ front ++ rest)
    by None is f =
        let same : ◌≡◌ {A = ℕ × List ℕ} (0, bytes) (n, rest) = same_Some (0, bytes) (n, rest) f in
        ([], ([], lit≤ tt, tt, refl, sym (ap (λ (p : ℕ × List ℕ). p.0) same)), ap (λ (p : ℕ × List ℕ). p.1) same)
    by (Some digits) is f =
        let some : List ℕ = take (digit_count digits) digits in
        let back : List ℕ = drop (digit_count digits) digits in
        let m = bind_some (fraction_of some) (λ v. Some (v, back)) (n, rest) f in
        let tested = cond_some (leb 1 (length some) && leb (length some) 9) (digits_value 10 some * 10 ^ (9 - length some)) m.0 m.1 in
        let parts = and_parts (leb 1 (length some)) (leb (length some) 9) tested.0 in
        let same : ◌≡◌ {A = ℕ × List ℕ} (m.0, back) (n, rest) = same_Some (m.0, back) (n, rest) m.2 in
        let value : n ≡ digits_value 10 some * 10 ^ (9 - length some) = sym (tested.1 ∙ ap (λ (p : ℕ × List ℕ). p.0) same) in
        let split : bytes ≡ codes "." ++ (some ++ rest) = behind_takes (codes ".") bytes digits is ∙ ap (λ l. codes "." ++ l) (sym (take-append-drop (digit_count digits) digits) ∙ ap (λ (p : ℕ × List ℕ). some ++ p.1) same) in
        (point_and some, (some, leb-true (length some) 9 parts.1, digits_front digits, refl, value), split ∙ ap (λ l. l ++ rest) (sym (pointed some (leb-true 1 (length some) parts.0))))

-- a number before these bytes
abbrev number_before : List ℕ → ℕ → Option (ℕ × List ℕ)
number_before rest n = Some (n, rest)

nothing_read : (rest : List ℕ) → WordEnds rest → fraction_at rest ≡ Some (0, rest)
unfolding fraction_at behind
nothing_read [] stop = refl
nothing_read (b ∷ rest) stop = subst (λ c. fraction_at (c ∷ rest) ≡ Some (0, c ∷ rest)) (sym stop) refl

fraction_again : (n : ℕ) (front rest : List ℕ) → SpellsFraction n front → WordEnds rest → fraction_at (front ++ rest) ≡ Some (n, rest)
unfolding fraction_at
fraction_again n front rest (digits, few, all, spelled, value) stop = ap fraction_at (ap (λ l. l ++ rest) spelled) ∙ by digits few all value
  where
    by : (digits : List ℕ) → length digits ≤ 9 → AllDigits 10 digits → n ≡ digits_value 10 digits * 10 ^ (9 - length digits) → fraction_at (point_and digits ++ rest) ≡ Some (n, rest)
    by [] few all value = nothing_read rest stop ∙ ap (number_before rest) (sym value)
    by (d ∷ digits) few all value =
        let ds : List ℕ = d ∷ digits in
        let behind_point : List ℕ = ds ++ rest in
        let count : digit_count behind_point ≡ length ds = digit_count-append ds rest all (no_digit rest stop) in
        let front_is : take (digit_count behind_point) behind_point ≡ ds = ap (λ k. take k behind_point) count ∙ take_at ds rest (length ds) refl in
        let back_is : drop (digit_count behind_point) behind_point ≡ rest = ap (λ k. drop k behind_point) count ∙ drop_at ds rest (length ds) refl in
        let some : leb 1 (length ds) ≡ true = le-leb 1 (length ds) (omega arith) in
        let within : leb (length ds) 9 ≡ true = le-leb (length ds) 9 few in
        ap (λ o. fraction_behind o (codes "." ++ behind_point)) (behind_again (codes ".") behind_point)
        ∙ ap (λ l. fraction_of l >>= λ v. Some (v, drop (digit_count behind_point) behind_point)) front_is
        ∙ rw (some, within, back_is) (ap (number_before rest) (sym value))

fraction_reads : IsReader fraction_at SpellsFraction WordEnds
fraction_reads = record { takes = fraction_takes; again = fraction_again }

-- ---- values

abbrev most_whole : ℕ
most_whole = 9223372036

no_digit_at_point : (digits rest : List ℕ) → WordEnds rest → NoDigit (point_and digits ++ rest)
no_digit_at_point [] rest stop = no_digit rest stop
no_digit_at_point (d ∷ digits) rest stop = refl

abbrev SpellsParts : ℕ × ℕ → List ℕ → Type 0
SpellsParts = SpellsBoth (SpellsNumber most_whole) (λ _. SpellsFraction)

parts_reads : IsReader (both (number_at most_whole) (λ _. fraction_at)) SpellsParts WordEnds
parts_reads = both_reads (number_at most_whole) (λ _. fraction_at) (SpellsNumber most_whole) (λ _. SpellsFraction) NoDigit WordEnds (number_reads most_whole (lit< tt)) (λ _. fraction_reads)
    (λ a b y rest h stop. subst (λ l. NoDigit (l ++ rest)) (sym h.3) (no_digit_at_point h.0 rest stop))

-- a value behind its sign
signed_takes : (negative : Bool) (bytes : List ℕ) (value : ℤ) (rest : List ℕ) → signed_at negative bytes ≡ Some (value, rest) → (front : List ℕ) × IsDec (sign negative ++ front) value × (bytes ≡ front ++ rest)
signed_takes negative bytes value rest e =
    let m = bind_some (both (number_at most_whole) (λ _. fraction_at) bytes) (λ parts. value_of negative (parts.0.0 * one + parts.0.1) >>= λ v. Some (v, parts.1)) (value, rest) e in
    let k = bind_some (value_of negative (m.0.0.0 * one + m.0.0.1)) (λ v. Some (v, m.0.1)) (value, rest) m.2 in
    let tested = cond_some (leb (m.0.0.0 * one + m.0.0.1) (greatest negative)) (signed negative (m.0.0.0 * one + m.0.0.1)) k.0 k.1 in
    let same : ◌≡◌ {A = ℤ × List ℕ} (k.0, m.0.1) (value, rest) = same_Some (k.0, m.0.1) (value, rest) k.2 in
    let (front, (x, y, number, fraction, whole_front), split) = parts_reads.takes bytes m.0.0 m.0.1 m.1 in
    let (digits, few, all, spelled, fraction_is) = fraction in
    let is : m.0.0.0 * one + m.0.0.1 ≡ billionths m.0.0.0 digits = ap (λ v. m.0.0.0 * one + v) fraction_is in (
      front,
      record {
        negative = negative;
        whole = m.0.0.0;
        digits = digits;
        few = few;
        each_digit = all;
        spelled = ap (λ l. sign negative ++ l) (whole_front ∙ (λ j. number.0 j ++ spelled j)) ∙ sym (append_assoc (sign negative) (decimal m.0.0.0) (point_and digits));
        meant = sym (ap (λ (p : ℤ × List ℕ). p.0) same) ∙ sym tested.1 ∙ ap (signed negative) is;
        fits = subst (λ v. v ≤ greatest negative) is (leb-true (m.0.0.0 * one + m.0.0.1) (greatest negative) tested.0);
      },
      split ∙ ap (λ (p : ℤ × List ℕ). front ++ p.1) same,
    )

whole_small : (negative : Bool) (whole n : ℕ) → whole * one + n ≤ greatest negative → whole ≤ most_whole
whole_small true whole n h = omega (arith, h)
whole_small false whole n h = omega (arith, h)

signed_again : (negative : Bool) (whole : ℕ) (digits rest : List ℕ) (value : ℤ) → length digits ≤ 9 → AllDigits 10 digits → value ≡ signed negative (billionths whole digits) → billionths whole digits ≤ greatest negative → WordEnds rest
    → signed_at negative ((decimal whole ++ point_and digits) ++ rest) ≡ Some (value, rest)
signed_again negative whole digits rest value few all meant fits stop =
    let fraction : ℕ = digits_value 10 digits * 10 ^ (9 - length digits) in
    let read = parts_reads.again (whole, fraction) (decimal whole ++ point_and digits) rest (decimal whole, point_and digits, (refl, whole_small negative whole fraction fits), (digits, few, all, refl, refl), refl) stop in
    let within : leb (whole * one + fraction) (greatest negative) ≡ true = le-leb (whole * one + fraction) (greatest negative) fits in
    ap (λ o. o >>= λ parts. value_of negative (parts.0.0 * one + parts.0.1) >>= λ v. Some (v, parts.1)) read ∙ rw within (ap (λ v. Some (v, rest)) (sym meant))

fixed_takes : (bytes : List ℕ) (value : ℤ) (rest : List ℕ) → fixed_at bytes ≡ Some (value, rest) → (front : List ℕ) × IsDec front value × (bytes ≡ front ++ rest)
unfolding fixed_at
fixed_takes bytes value rest e = by (behind (codes "-") bytes) refl e
  where
    by : (o : Option (List ℕ)) → behind (codes "-") bytes ≡ o → sign_behind o bytes ≡ Some (value, rest) → (front : List ℕ) × IsDec front value × (bytes ≡ front ++ rest)
    by None is f = let h = signed_takes false bytes value rest f in (h.0, h.1, h.2)
    by (Some back) is f =
        let h = signed_takes true back value rest f in
        (sign true ++ h.0, h.1, behind_takes (codes "-") bytes back is ∙ ap (λ l. codes "-" ++ l) h.2)

-- a digit is no sign
no_sign : (digits rest : List ℕ) → 0 < length digits → AllDigits 10 digits → behind (codes "-") (digits ++ rest) ≡ None
unfolding behind
no_sign [] rest some all = absurd (omega (arith, some))
no_sign (d ∷ digits) rest some all =
    let range = digit_from_value d all.0 in
    grind (arith, nat_tests)

fixed_again : (value : ℤ) (front rest : List ℕ) → IsDec front value → WordEnds rest → fixed_at (front ++ rest) ≡ Some (value, rest)
unfolding fixed_at
fixed_again value front rest h stop = ap (λ l. fixed_at (l ++ rest)) h.spelled ∙ by h.negative h.meant h.fits
  where
    unsigned : List ℕ
    unsigned = decimal h.whole ++ point_and h.digits

    whole_fits : (negative : Bool) → billionths h.whole h.digits ≤ greatest negative → h.whole < 2 ^ 64
    whole_fits negative fits = let small = whole_small negative h.whole (digits_value 10 h.digits * 10 ^ (9 - length h.digits)) fits in omega arith

    by : (negative : Bool) → value ≡ signed negative (billionths h.whole h.digits) → billionths h.whole h.digits ≤ greatest negative → fixed_at ((sign negative ++ decimal h.whole ++ point_and h.digits) ++ rest) ≡ Some (value, rest)
    by true meant fits = ap (λ o. sign_behind o (codes "-" ++ (unsigned ++ rest))) (behind_again (codes "-") (unsigned ++ rest)) ∙ signed_again true h.whole h.digits rest value h.few h.each_digit meant fits stop
    by false meant fits =
        let numeral = decimal_is_IsNumeral h.whole (whole_fits false fits) in
        let none : behind (codes "-") (unsigned ++ rest) ≡ None = ap (behind (codes "-")) (append_assoc (decimal h.whole) (point_and h.digits) rest) ∙ no_sign (decimal h.whole) (point_and h.digits ++ rest) (decimal_nonempty h.whole (whole_fits false fits)) numeral.0.1 in
        ap (λ o. sign_behind o (unsigned ++ rest)) none ∙ signed_again false h.whole h.digits rest value h.few h.each_digit meant fits stop

abbrev pub SpellsDec : ℤ → List ℕ → Type 0
SpellsDec value front = IsDec front value

pub fixed_reads : IsReader fixed_at SpellsDec WordEnds
fixed_reads = record { takes = fixed_takes; again = fixed_again }

-- ---- what `parse` says of the digits of a fraction

ten_some : (k : ℕ) → 0 < 10 ^ k
ten_some zero = lit< tt
ten_some (suc k) = let rest = ten_some k in omega (arith, pow-suc 10 k)

below_ten_to : (k v : ℕ) → k ≤ 9 → v < 10 ^ k → v * 10 ^ (9 - k) < 10 ^ 9
below_ten_to k v few h =
    let nine : k + (9 - k) ≡ 9 = omega (arith, few) in
    subst (λ n. v * 10 ^ (9 - k) < n) (sym (pow-add 10 k (9 - k)) ∙ ap (λ n. 10 ^ n) nine) (mul-lt-mul_of_pos_right h (ten_some (9 - k)))

-- digits behind a point are less than one
pub fraction_small : (digits : List ℕ) → length digits ≤ 9 → AllDigits 10 digits → digits_value 10 digits * 10 ^ (9 - length digits) < 10 ^ 9
fraction_small digits few all = below_ten_to (length digits) (digits_value 10 digits) few (digits_value-lt 10 digits all)

-- one to nine digits are parsed
pub fraction_parsed : {E : Type 0} (digits : List ℕ) (r : Result ℕ E) → 0 < length digits → length digits ≤ 9 → AllDigits 10 digits → ParsesUnsigned 64 10 digits r → r ≡ Ok (digits_value 10 digits)
fraction_parsed digits r some few all h = by r (parse_digits own 64 digits r h all)
  where
    small : digits_value 10 digits < 2 ^ 64
    small = let value = digits_value_short own digits 9 all few in omega (arith, value)

    by : {E : Type 0} (r : Result ℕ E) → OkIff r ((0 < length digits) × (digits_value 10 digits < 2 ^ 64)) (digits_value 10 digits) → r ≡ Ok (digits_value 10 digits)
    by (Ok x) given = ap Ok given.1
    by (Err x) given = absurd (given (some, small))

pub not_none : {E : Type 0} (r : Result ℕ E) (v : ℕ) → r ≡ Ok v → result_ok r ≡ None → ⊥
not_none (Ok x) v e none = cc
not_none (Err x) v e none = cc
