-- What the writer spells is a spelling that is read.
use Rattle.std.proofs.Common.{◌≡◌, ◌≢◌, ℕ, zero, suc, ◌+◌, ◌-◌, ◌*◌, ◌/◌, ◌%◌, ◌^◌, ◌<◌, ◌≤◌, true, false, List, [], ◌∷◌, ◌++◌, map, length, replicate, Option, Some, None, refl, sym, ap, subst, ◌∙◌, append_assoc, append-nil, arith, inl, inr, ◌⊎◌}
use Rattle.std.specs.Prelude.{All, codes, decimal, flat_map, ℤ, pos, negsuc, unsigned_abs, FitsSigned, IfSome, option_map}
use Rattle.std.specs.Int.{w64, is_negative}
use Rattle.std.specs.List.{AllZip, join_by, join_with_byte}
use Rattle.std.specs.Char.{digit_value}
use Rattle.std.specs.Str.Parse.{AllDigits, digits_value, digits_value_after}
use Rattle.std.proofs.Math.Nat.{pow-suc, mul_assoc, mul_comm}
use Rattle.std.proofs.lemmas.Bool.{cases_eq}
use Rattle.std.proofs.lemmas.Bool.Decides.{nat_tests}
use Rattle.std.proofs.lemmas.Fmt.{decimal_is_IsNumeral_wide, decimal_is_IsNumeral, length-decimal-le}
use Rattle.std.proofs.lemmas.List.{length-append, length-replicate}
use Rattle.std.proofs.lemmas.List.Elements.{All-head, All-tail}
use Rattle.std.proofs.lemmas.Grind.{flat_map-append}
use Rattle.metrics_core.specs.Characters.{newline, comma, colon, full_stop, line}
use Rattle.metrics_core.specs.Keys.{LabelText}
use Rattle.metrics_core.specs.Numbers.{one, padded, before_zeros, without_trailing_zeros, fraction_text, dogstatsd_number}
use Rattle.metrics_core.proofs.Digits.{fraction_text-some, decimal-one_before}
use Rattle.dsd_writer.specs.Lines.{tag_text, tags_text, rate_text, timestamp_text, values_text, line_of}
use Rattle.dsd_lines.specs.declared.dialects.Dialect.TheVariants.{DogStatsd}
use Rattle.dsd_lines.specs.Grammar.{PointsText, Counter, Gauge, Steps, Histogram, Distribution, Timer, LineText, IsNumber, IsDecimal, sign, signed, point_and, billionths, greatest, AreSpelled, bar, type_text, AreRateParts, tags_parts, AreTimeParts, IsLine}
use Rattle.dsd_lines.specs.Written.{points_spelled, HaveRange, IsSayable, item_said}

-- ---- the digits of a fraction

zeros_digits : (k : ℕ) → AllDigits 10 (replicate k 48)
zeros_digits zero = tt
zeros_digits (suc k) = (omega arith, zeros_digits k)

digits-append : (xs ys : List ℕ) → AllDigits 10 xs → AllDigits 10 ys → AllDigits 10 (xs ++ ys)
digits-append [] ys x y = y
digits-append (c ∷ xs) ys x y = (x.0, digits-append xs ys x.1 y)

padded_digits : (n : ℕ) → n < one → AllDigits 10 (padded 9 n)
padded_digits n small = digits-append (replicate (9 - length (decimal n)) 48) (decimal n) (zeros_digits (9 - length (decimal n))) (decimal_is_IsNumeral n (omega (arith, small))).0.1

padded_length : (n : ℕ) → n < one → length (padded 9 n) ≡ 9
padded_length n small = omega (
  arith,
  length-append (replicate (9 - length (decimal n)) 48) (decimal n),
  length-replicate {A = ℕ} (9 - length (decimal n)) 48,
  length-decimal-le 9 n (omega arith) (omega (arith, small)) (omega (arith, small)),
)

-- the zeros at the end, which are left out
record Trimmed (ds : List ℕ) : Type 0 where
  zeros : ℕ
  whole : without_trailing_zeros ds ++ replicate zeros 48 ≡ ds
  digits : AllDigits 10 (without_trailing_zeros ds)

trimmed : (ds : List ℕ) → AllDigits 10 ds → Trimmed ds
trimmed [] all = record { zeros = 0; whole = refl; digits = tt }
trimmed (d ∷ ds) all = by (without_trailing_zeros ds) refl (trimmed ds all.1)
  where
    by : (front : List ℕ) → without_trailing_zeros ds ≡ front → Trimmed ds → Trimmed (d ∷ ds)
    by (c ∷ front) is t = record {
      zeros = t.zeros;
      whole = ap (λ l. before_zeros d l ++ replicate t.zeros 48) is ∙ ap (λ l. d ∷ (l ++ replicate t.zeros 48)) (sym is) ∙ ap (λ l. d ∷ l) t.whole;
      digits = subst (λ l. AllDigits 10 (before_zeros d l)) (sym is) (all.0, subst (AllDigits 10) is t.digits);
    }
    by [] is t = cases (cases_eq d 48)
      where
        others : replicate t.zeros 48 ≡ ds
        others = ap (λ l. l ++ replicate t.zeros 48) (sym is) ∙ t.whole

        cases : (d ≡ 48) ⊎ (d ≡ 48 → ⊥) → Trimmed (d ∷ ds)
        cases (inl zero_here) =
            let gone : before_zeros d [] ≡ [] = grind (arith, nat_tests) in
            record {
              zeros = suc t.zeros;
              whole = ap (λ l. before_zeros d l ++ replicate (suc t.zeros) 48) is ∙ ap (λ l. l ++ replicate (suc t.zeros) 48) gone ∙ (λ j. sym zero_here j ∷ others j);
              digits = subst (λ l. AllDigits 10 (before_zeros d l)) (sym is) (subst (AllDigits 10) (sym gone) tt);
            }
        cases (inr other) =
            let kept : before_zeros d [] ≡ d ∷ [] = grind (arith, nat_tests) in
            record {
              zeros = t.zeros;
              whole = ap (λ l. before_zeros d l ++ replicate t.zeros 48) is ∙ ap (λ l. l ++ replicate t.zeros 48) kept ∙ ap (λ l. d ∷ l) others;
              digits = subst (λ l. AllDigits 10 (before_zeros d l)) (sym is) (subst (AllDigits 10) (sym kept) (all.0, tt));
            }

following : (n : ℕ) (xs ys : List ℕ) → digits_value_after 10 n (xs ++ ys) ≡ digits_value_after 10 (digits_value_after 10 n xs) ys
following n [] ys = refl
following n (x ∷ xs) ys = following (n * 10 + digit_value x) xs ys

zeros_after : (n k : ℕ) → digits_value_after 10 n (replicate k 48) ≡ n * 10 ^ k
zeros_after n zero = omega arith
zeros_after n (suc k) =
    let ten : n * 10 + 0 ≡ n * 10 = omega arith in
    zeros_after (n * 10 + 0) k ∙ ap (λ m. m * 10 ^ k) ten ∙ mul_assoc n 10 (10 ^ k) ∙ ap (λ m. n * m) (mul_comm 10 (10 ^ k) ∙ sym (pow-suc 10 k))

zeros_behind : (ds : List ℕ) (k : ℕ) → digits_value 10 (ds ++ replicate k 48) ≡ digits_value 10 ds * 10 ^ k
zeros_behind ds k = following 0 ds (replicate k 48) ∙ zeros_after (digits_value 10 ds) k

nine : (n : ℕ) (ds : List ℕ) → length ds ≡ 9 → digits_value_after 10 n ds ≡ n * 1000000000 + digits_value_after 10 0 ds
nine n [] len = absurd (omega (arith, len))
nine n (a ∷ []) len = absurd (omega (arith, len))
nine n (a ∷ b ∷ []) len = absurd (omega (arith, len))
nine n (a ∷ b ∷ c ∷ []) len = absurd (omega (arith, len))
nine n (a ∷ b ∷ c ∷ d ∷ []) len = absurd (omega (arith, len))
nine n (a ∷ b ∷ c ∷ d ∷ e ∷ []) len = absurd (omega (arith, len))
nine n (a ∷ b ∷ c ∷ d ∷ e ∷ f ∷ []) len = absurd (omega (arith, len))
nine n (a ∷ b ∷ c ∷ d ∷ e ∷ f ∷ g ∷ []) len = absurd (omega (arith, len))
nine n (a ∷ b ∷ c ∷ d ∷ e ∷ f ∷ g ∷ h ∷ []) len = absurd (omega (arith, len))
nine n (a ∷ b ∷ c ∷ d ∷ e ∷ f ∷ g ∷ h ∷ i ∷ []) len = omega arith
nine n (a ∷ b ∷ c ∷ d ∷ e ∷ f ∷ g ∷ h ∷ i ∷ j ∷ ds) len = absurd (omega (arith, len))

padded_value : (f : ℕ) → f < one → digits_value 10 (padded 9 f) ≡ f
padded_value f small =
    let told : digits_value 10 (49 ∷ padded 9 f) ≡ 1000000000 + f = ap (digits_value 10) (sym (decimal-one_before f small)) ∙ (decimal_is_IsNumeral_wide (1000000000 + f) (omega (arith, small))).1 in
    let parts : digits_value_after 10 1 (padded 9 f) ≡ 1 * 1000000000 + digits_value_after 10 0 (padded 9 f) = nine 1 (padded 9 f) (padded_length f small) in
    omega (arith, told, parts)

-- what the digits of a fraction mean
record IsFractionOf (digits : List ℕ) (f : ℕ) : Type 0 where
  few : length digits ≤ 9
  each_digit : AllDigits 10 digits
  meant : digits_value 10 digits * 10 ^ (9 - length digits) ≡ f

trimmed_fraction : (f : ℕ) → f < one → IsFractionOf (without_trailing_zeros (padded 9 f)) f
trimmed_fraction f small =
    let ds = without_trailing_zeros (padded 9 f) in
    let t = trimmed (padded 9 f) (padded_digits f small) in
    let count : length ds + t.zeros ≡ 9 = sym (ap (λ n. length ds + n) (length-replicate {A = ℕ} t.zeros 48)) ∙ sym (length-append ds (replicate t.zeros 48)) ∙ ap length t.whole ∙ padded_length f small in
    let zeros : 9 - length ds ≡ t.zeros = omega (arith, count) in
    record {
      few = omega (arith, count);
      each_digit = t.digits;
      meant = ap (λ k. digits_value 10 ds * 10 ^ k) zeros ∙ sym (zeros_behind ds t.zeros) ∙ ap (digits_value 10) t.whole ∙ padded_value f small;
    }

-- the fraction as the writer spells it: some digits behind a point
record SpelledFraction (f : ℕ) : Type 0 where
  digits : List ℕ
  text : fraction_text (full_stop ∷ 48 ∷ []) f ≡ point_and digits
  is : IsFractionOf digits f

pointed : (digits : List ℕ) → 1 ≤ length digits → full_stop ∷ digits ≡ point_and digits
pointed [] some = absurd (omega (arith, some))
pointed (d ∷ digits) some = refl

spelled_fraction : (f : ℕ) → f < one → SpelledFraction f
spelled_fraction f small = by (cases_eq f 0)
  where
    by : (f ≡ 0) ⊎ (f ≡ 0 → ⊥) → SpelledFraction f
    by (inl none) = record {
      digits = 48 ∷ [];
      text = ap (fraction_text (full_stop ∷ 48 ∷ [])) none;
      is = subst (IsFractionOf (48 ∷ [])) (sym none) (record { few = omega arith; each_digit = (omega arith, tt); meant = refl });
    }
    by (inr some) =
        let is = trimmed_fraction f small in
        let ds = without_trailing_zeros (padded 9 f) in
        record { digits = ds; text = fraction_text-some (full_stop ∷ 48 ∷ []) f some ∙ pointed ds (digits_some ds f some is.meant); is = is }
      where
        digits_some : (ds : List ℕ) (f : ℕ) → f ≢ 0 → digits_value 10 ds * 10 ^ (9 - length ds) ≡ f → 1 ≤ length ds
        digits_some [] f some e = absurd (some (sym e))
        digits_some (d ∷ ds) f some e = omega arith

-- ---- values

no_sign : (m : ℕ) → is_negative (pos m) ≡ false
no_sign m = grind (arith, nat_tests)

a_sign : (m : ℕ) → is_negative (negsuc m) ≡ true
a_sign m = grind (arith, nat_tests)

magnitude_within : (v : ℤ) → FitsSigned w64 v → unsigned_abs v ≤ greatest (is_negative v)
magnitude_within (pos m) fits = subst (λ b. m ≤ greatest b) (sym (no_sign m)) (omega (arith, fits.sfits))
magnitude_within (negsuc m) fits = subst (λ b. suc m ≤ greatest b) (sym (a_sign m)) (omega (arith, fits.sfits))

meant_by : (v : ℤ) → v ≡ signed (is_negative v) (unsigned_abs v)
meant_by (pos m) = ap (λ b. signed b m) (sym (no_sign m))
meant_by (negsuc m) = ap (λ b. signed b (suc m)) (sym (a_sign m))

pub spelled_decimal : (v : ℤ) → FitsSigned w64 v → IsDecimal (dogstatsd_number v) v
spelled_decimal v fits =
    let m = unsigned_abs v in
    let f = spelled_fraction (m % one) (omega arith) in
    let whole : m ≡ billionths (m / one) f.digits = (omega arith) ∙ ap (λ n. m / one * one + n) (sym f.is.meant) in
    record {
      negative = is_negative v;
      whole = m / one;
      digits = f.digits;
      few = f.is.few;
      each_digit = f.is.each_digit;
      spelled = ap (λ l. sign (is_negative v) ++ decimal (m / one) ++ l) f.text;
      meant = meant_by v ∙ ap (signed (is_negative v)) whole;
      fits = subst (λ n. n ≤ greatest (is_negative v)) whole (magnitude_within v fits);
    }

-- ---- lines

-- texts, each behind a character
abbrev behind_each : ℕ → List (List ℕ) → List ℕ
behind_each c texts = flat_map (λ text. c ∷ text) texts

join_behind : (c : ℕ) (x : List ℕ) (xs : List (List ℕ)) → join_with_byte c (x ∷ xs) ≡ x ++ behind_each c xs
join_behind c x [] = sym (append-nil x)
join_behind c x (y ∷ xs) = ap (λ l. x ++ c ∷ l) (join_behind c y xs)

tags_join : (tag : LabelText) (tags : List LabelText) → join_with_byte comma (map tag_text (tag ∷ tags)) ≡ join_by tag_text (codes ",") (tag ∷ tags)
tags_join tag tags = join_behind comma (tag_text tag) (map tag_text tags) ∙ ap (λ l. tag_text tag ++ l) (by tags)
  where
    by : (tags : List LabelText) → behind_each comma (map tag_text tags) ≡ flat_map (λ tag. codes "," ++ tag_text tag) tags
    by [] = refl
    by (tag ∷ tags) = ap (λ l. (comma ∷ tag_text tag) ++ l) (by tags)

tags_spelled : (tags : List LabelText) → behind_each bar (tags_parts tags) ≡ tags_text tags
tags_spelled [] = refl
tags_spelled (tag ∷ tags) = append-nil (bar ∷ 35 ∷ join_with_byte comma (map tag_text (tag ∷ tags))) ∙ ap (λ l. bar ∷ 35 ∷ l) (tags_join tag tags)

-- the parts that the writer spells
abbrev rate_parts : Option ℕ → List (List ℕ)
rate_parts None = []
rate_parts (Some rate) = (64 ∷ dogstatsd_number (pos rate)) ∷ []

abbrev time_parts : Option ℕ → List (List ℕ)
time_parts None = []
time_parts (Some seconds) = (84 ∷ decimal seconds) ∷ []

rate_spelled : (rate : Option ℕ) → behind_each bar (rate_parts rate) ≡ rate_text (option_map pos rate)
rate_spelled None = refl
rate_spelled (Some rate) = append-nil (bar ∷ 64 ∷ dogstatsd_number (pos rate))

time_spelled : (timestamp : Option ℕ) → behind_each bar (time_parts timestamp) ≡ timestamp_text timestamp
time_spelled None = refl
time_spelled (Some seconds) = append-nil (bar ∷ 84 ∷ decimal seconds)

is_rate : (rate : Option ℕ) → IfSome rate (λ rate. (1000 ≤ rate) × (rate ≤ one)) → AreRateParts (rate_parts rate) rate
is_rate None h = refl
is_rate (Some rate) h = (dogstatsd_number (pos rate), refl, record { spelled = spelled_decimal (pos rate) (record { sfits = omega (arith, h) }); least = h.0; most = h.1 })

is_time : (timestamp : Option ℕ) → IfSome timestamp (λ seconds. seconds < 2 ^ 64) → AreTimeParts (time_parts timestamp) timestamp
is_time None h = refl
is_time (Some seconds) h = (decimal seconds, refl, (refl, h))

numbers_spelled : (numbers : List ℤ) → All (FitsSigned w64) numbers → AllZip IsDecimal (map dogstatsd_number numbers) numbers
numbers_spelled [] all = tt
numbers_spelled (v ∷ numbers) all = (spelled_decimal v (All-head (FitsSigned w64) v numbers all), numbers_spelled numbers (All-tail (FitsSigned w64) v numbers all))

counts_spelled : (counts : List ℕ) → All (λ n. n < 2 ^ 64) counts → AllZip IsNumber (map decimal counts) counts
counts_spelled [] all = tt
counts_spelled (n ∷ counts) all = ((refl, All-head (λ n. n < 2 ^ 64) n counts all), counts_spelled counts (All-tail (λ n. n < 2 ^ 64) n counts all))

values_spelled : (points : PointsText) → HaveRange points → AreSpelled DogStatsd points (points_spelled points)
values_spelled (Counter counts) all = counts_spelled counts all
values_spelled (Gauge numbers) all = (refl, numbers_spelled numbers all)
values_spelled (Histogram numbers) all = numbers_spelled numbers all
values_spelled (Distribution numbers) all = numbers_spelled numbers all
values_spelled (Steps steps) all = absurd all
values_spelled (Timer numbers) all = absurd all

-- the text of what is said, without its newline
abbrev pub said_text : LineText → List ℕ
said_text said =
    join_with_byte bar (join_with_byte colon (said.key.name ∷ points_spelled said.points) ∷ type_text said.points ∷ (rate_parts said.rate ++ tags_parts said.key.labels ++ time_parts said.timestamp))

pub said_is_line : (said : LineText) → IsSayable said → IsLine (said_text said) said
said_is_line said h = record {
  values = points_spelled said.points;
  rate = rate_parts said.rate;
  timestamp = time_parts said.timestamp;
  spelled = refl;
  some = h.some;
  clean = h.clean;
  are_values = values_spelled said.points h.range;
  is_rate = is_rate said.rate h.rate;
  is_timestamp = is_time said.timestamp h.timestamp;
}

pub said_as_written : (said : LineText) → line_of (item_said said) (points_spelled said.points) ≡ line (said_text said)
said_as_written said =
    ap (λ l. said.key.name ++ values_text values ++ line l) (sym ending)
    ∙ sym (append_assoc (said.key.name ++ values_text values) (behind_each bar (type_text said.points ∷ parts)) (newline ∷ []))
    ∙ ap (λ l. line (l ++ behind_each bar (type_text said.points ∷ parts))) (sym (join_behind colon said.key.name values))
    ∙ ap line (sym (join_behind bar (join_with_byte colon (said.key.name ∷ values)) (type_text said.points ∷ parts)))
  where
    values : List (List ℕ)
    values = points_spelled said.points

    parts : List (List ℕ)
    parts = rate_parts said.rate ++ tags_parts said.key.labels ++ time_parts said.timestamp

    behind : behind_each bar parts ≡ rate_text (option_map pos said.rate) ++ tags_text said.key.labels ++ timestamp_text said.timestamp
    behind =
        flat_map-append (λ text. bar ∷ text) (rate_parts said.rate ++ tags_parts said.key.labels) (time_parts said.timestamp)
        ∙ (λ j. (flat_map-append (λ text. bar ∷ text) (rate_parts said.rate) (tags_parts said.key.labels) ∙ (λ i. rate_spelled said.rate i ++ tags_spelled said.key.labels i)) j ++ time_spelled said.timestamp j)

    ending : behind_each bar (type_text said.points ∷ parts) ≡ codes "|" ++ type_text said.points ++ rate_text (option_map pos said.rate) ++ tags_text said.key.labels ++ timestamp_text said.timestamp
    ending = ap (λ l. (bar ∷ type_text said.points) ++ l) behind
        ∙ sym (append_assoc (bar ∷ type_text said.points) (rate_text (option_map pos said.rate) ++ tags_text said.key.labels) (timestamp_text said.timestamp))
        ∙ ap (λ l. l ++ timestamp_text said.timestamp) (sym (append_assoc (bar ∷ type_text said.points) (rate_text (option_map pos said.rate)) (tags_text said.key.labels)))
