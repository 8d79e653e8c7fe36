-- A number as a page spells it has nothing that is escaped in a label value.
use Rattle.std.proofs.Common.{◌≡◌, ℕ, zero, suc, ◌-◌, ◌/◌, ◌%◌, ◌≤◌, ◌<◌, Bool, true, false, List, [], ◌∷◌, ◌++◌, length, replicate, refl, arith, ℤ}
use Rattle.std.specs.Prelude.{decimal, unsigned_abs, if◌then◌else◌, ◌==◌}
use Rattle.std.specs.Int.{is_negative}
use Rattle.std.specs.Fmt.{digits, digits_onto, digit_glyph}
use Rattle.std.proofs.lemmas.Bool.Decides.{nat_tests}
use Rattle.metrics_core.specs.Characters.{full_stop, minus_sign}
use Rattle.metrics_core.specs.Numbers.{one, padded, before_zeros, without_trailing_zeros, fraction_text, page_number}
use Rattle.prom_format.specs.Printed.{escaped_character, escaped_label_value}

abbrev IsPlain : ℕ → Type 0
IsPlain c = escaped_character true c ≡ c ∷ []

abbrev ArePlain : List ℕ → Type 0
ArePlain [] = Unit {0}
ArePlain (c ∷ cs) = IsPlain c × ArePlain cs

escaped_plain : (text : List ℕ) → ArePlain text → escaped_label_value text ≡ text
escaped_plain [] plain = refl
escaped_plain (c ∷ cs) plain = λ j. plain.0 j ++ escaped_plain cs plain.1 j

plain_append : (xs ys : List ℕ) → ArePlain xs → ArePlain ys → ArePlain (xs ++ ys)
plain_append [] ys p q = q
plain_append (x ∷ xs) ys p q = (p.0, plain_append xs ys p.1 q)

plain_if : (b : Bool) (xs ys : List ℕ) → ArePlain xs → ArePlain ys → ArePlain (if b then xs else ys)
plain_if true xs ys p q = p
plain_if false xs ys p q = q

-- ---- digits

plain_digit : (c : ℕ) → 48 ≤ c → c ≤ 57 → IsPlain c
plain_digit c low high = grind (arith, nat_tests)

plain_glyph : (d : ℕ) → d < 10 → IsPlain (digit_glyph false d)
plain_glyph d low = grind (arith, nat_tests)

plain_onto : (k n : ℕ) (acc : List ℕ) → ArePlain acc → ArePlain (digits_onto k 10 false n acc)
plain_onto zero n acc p = p
plain_onto (suc k) n acc p =
    let here : ArePlain (digit_glyph false (n % 10) ∷ acc) = (plain_glyph (n % 10) (omega arith), p) in
    plain_if (n / 10 == 0) _ _ here (plain_onto k (n / 10) (digit_glyph false (n % 10) ∷ acc) here)

plain_decimal : (n : ℕ) → ArePlain (decimal n)
unfolding digits
plain_decimal n = plain_onto 64 n [] tt

plain_zeros : (k : ℕ) → ArePlain (replicate k 48)
plain_zeros zero = tt
plain_zeros (suc k) = (refl, plain_zeros k)

-- ---- the fraction

plain_before : (d : ℕ) (es : List ℕ) → IsPlain d → ArePlain es → ArePlain (before_zeros d es)
plain_before d [] here rest = plain_if (d == 48) [] (d ∷ []) tt (here, tt)
plain_before d (e ∷ es) here rest = (here, rest)

plain_without_zeros : (ds : List ℕ) → ArePlain ds → ArePlain (without_trailing_zeros ds)
plain_without_zeros [] plain = tt
plain_without_zeros (d ∷ ds) plain = plain_before d (without_trailing_zeros ds) plain.0 (plain_without_zeros ds plain.1)

plain_fraction : (n : ℕ) → ArePlain (fraction_text [] n)
plain_fraction n =
    let digits = plain_append (replicate (9 - length (decimal n)) 48) (decimal n) (plain_zeros (9 - length (decimal n))) (plain_decimal n) in
    plain_if (n == 0) [] (full_stop ∷ without_trailing_zeros (padded 9 n)) tt (refl, plain_without_zeros (padded 9 n) digits)

pub number-escaped : (value : ℤ) → escaped_label_value (page_number value) ≡ page_number value
number-escaped value =
    let sign = plain_if (is_negative value) (minus_sign ∷ []) [] (refl, tt) tt in
    let number = plain_append _ (decimal (unsigned_abs value / one)) sign (plain_decimal (unsigned_abs value / one)) in
    escaped_plain (page_number value) (plain_append _ _ number (plain_fraction (unsigned_abs value % one)))
