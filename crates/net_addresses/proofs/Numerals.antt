-- What `parse` makes of a text that begins as a decimal number does.
use Rattle.std.proofs.Common.{◌≡◌, ◌≢◌, ℕ, zero, suc, ◌^◌, ◌<◌, List, length, get_or, decimal, Result, Ok, Err, true, sym, subst, arith, refl, rules, lit<}
use Rattle.std.specs.Prelude.{MatchResult}
use Rattle.std.specs.Str.{all_ascii_digits}
use Rattle.std.specs.Str.Parse.{ParsesUnsigned, digits_value}
use Rattle.std.proofs.lemmas.Str.Parse.{IsNumeralModel, numerals_by_value, parse_plain, not_in_digits}
use Rattle.std.proofs.lemmas.Fmt.{decimal-digits_value, digits_decimal, digits_value-decimal, decimal_nonempty, first_decimal, decimal_digit}

own : IsNumeralModel (λ ds. all_ascii_digits ds ≡ true) (digits_value 10)
own = numerals_by_value _ (search rules)

-- such a text parses as the number that it writes in decimal, and to an error where it writes none of 16 bits
pub parsed : {E : Type 0} (bs : List ℕ) (r : Result ℕ E) → get_or bs 0 0 ≢ 43 → (get_or bs 0 0 ≡ 48 → length bs ≡ 1) → ParsesUnsigned 16 10 bs r → MatchResult r (λ n. (bs ≡ decimal n) × (n < 2 ^ 16)) (λ _. (n : ℕ) → n < 2 ^ 16 → bs ≢ decimal n)
parsed {E = E} bs (Ok n) plus zero_alone h =
    let (facts, is) = parse_plain own {E = E} 16 bs (Ok n) h plus in
    let small : n < 2 ^ 16 = omega (arith, facts.2, is) in
    (rw is (sym (decimal-digits_value own bs facts.0 facts.1 zero_alone (omega (arith, facts.2)))), small)
parsed bs (Err e) plus zero_alone h = λ n small is.
    let P : List ℕ → Type 0 = λ ds. (all_ascii_digits ds ≡ true) × (0 < length ds) × (digits_value 10 ds < 2 ^ 16) in
    let wide : n < 2 ^ 64 = omega arith in
    let spelled : P (decimal n) = (digits_decimal own n wide, decimal_nonempty n wide, rw (digits_value-decimal own n wide) small) in
    parse_plain own 16 bs (Err e) h plus (subst P (sym is) spelled)

alone : (n : ℕ) → n < 2 ^ 64 → get_or (decimal n) 0 0 ≡ 48 → length (decimal n) ≡ 1
alone zero small e = rw (decimal_digit 0 (lit< tt)) refl
alone (suc n) small e = let first : 48 < get_or (decimal (suc n)) 0 0 = first_decimal (suc n) (omega arith) small in omega (arith, first, e)

-- a number in decimal begins so
pub decimal_begins : (n : ℕ) → n < 2 ^ 64 → (get_or (decimal n) 0 0 ≢ 43) × (get_or (decimal n) 0 0 ≡ 48 → length (decimal n) ≡ 1)
decimal_begins n small = (
  not_in_digits own (decimal n) 43 (digits_decimal own n small) (λ h. omega (arith, h)) 0 (decimal_nonempty n small),
  alone n small,
)
