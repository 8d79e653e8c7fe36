-- The digits of numbers as Prometheus and DogStatsD spell them: fractions of billionths, with a one before their digits, and without
-- the zeros at their end.
use Rattle.std.proofs.Common.{◌≡◌, ℕ, ◌+◌, ◌-◌, ◌*◌, ◌/◌, ◌%◌, ◌^◌, ◌<◌, ◌≤◌, List, [], ◌∷◌, ◌++◌, length, drop, replicate, refl, sym, ap, ◌∙◌, arith, append_assoc, inl, inr, ◌⊎◌, ◌≢◌}
use Rattle.std.specs.Prelude.{decimal, pos, false, if◌then◌else◌, Some, None}
use Rattle.std.specs.Char.{encode_utf8}
use Rattle.std.specs.Int.{is_negative}
use Rattle.std.specs.Str.Pattern.{IsTrimEndMatches, CutsSuffixes, IsFullyTrimmed, FindsCharSuffix}
use Rattle.std.proofs.lemmas.Bool.{cases_lt}
use Rattle.std.proofs.lemmas.Bool.Decides.{nat_tests}
use Rattle.std.proofs.lemmas.Fmt.{decimal_digit, decimal_step}
use Rattle.std.proofs.lemmas.List.{replicate_more, append-nil, drop_all, take-append-drop, length_push}
use Rattle.metrics_core.specs.Characters.{minus_sign}
use Rattle.metrics_core.specs.Numbers.{padded, without_trailing_zeros, before_zeros, fraction_text, page_number, whole, one}

-- ---- a one before the digits keeps their zeros

-- the zeros that fill a list of digits up to a width, and the list
abbrev filled : ℕ → List ℕ → List ℕ
filled k digits = replicate (k - length digits) 48 ++ digits

-- one more digit
filled_push : (k d : ℕ) (digits : List ℕ) → filled (k + 1) (digits ++ d ∷ []) ≡ filled k digits ++ d ∷ []
filled_push k d digits =
    let longer = length_push digits d in
    let same : k + 1 - length (digits ++ d ∷ []) ≡ k - length digits = omega arith in
    ap (λ n. replicate n 48 ++ (digits ++ d ∷ [])) same ∙ sym (append_assoc (replicate (k - length digits) 48) digits (d ∷ []))

-- one digit alone, with a zero before it
filled_digit : (k d : ℕ) → 0 < k → filled (k + 1) (d ∷ []) ≡ filled k (48 ∷ []) ++ d ∷ []
filled_digit k d some =
    let same : k + 1 - 1 ≡ k - 1 + 1 = omega arith in
    ap (λ n. replicate n 48 ++ d ∷ []) same ∙ ap (λ zeros. zeros ++ d ∷ []) {y = replicate (k - 1) 48 ++ 48 ∷ []} (sym (replicate_more (k - 1) 48))

padded_step : (k n : ℕ) → 0 < k → n < 2 ^ 64 → padded (k + 1) n ≡ padded k (n / 10) ++ (48 + n % 10) ∷ []
padded_step k n some high = by (cases_lt n 10)
  where
    by : (n < 10) ⊎ (10 ≤ n) → padded (k + 1) n ≡ padded k (n / 10) ++ (48 + n % 10) ∷ []
    by (inl low) =
        let quotient : n / 10 ≡ 0 = omega arith in
        let rest : n % 10 ≡ n = omega arith in
        ap (filled (k + 1)) (decimal_digit n low) ∙ filled_digit k (48 + n) some
        ∙ ap (λ digits. filled k digits ++ (48 + n) ∷ []) (sym (decimal_digit 0 (omega arith)))
        ∙ ap (λ q. padded k q ++ (48 + n) ∷ []) (sym quotient)
        ∙ ap (λ r. padded k (n / 10) ++ (48 + r) ∷ []) (sym rest)
    by (inr big) = ap (filled (k + 1)) (decimal_step n big high) ∙ filled_push k (48 + n % 10) (decimal (n / 10))

-- p is ten to the k: with p added a number has a one and then its k digits
abbrev OneBefore : ℕ → ℕ → Type 0
OneBefore k p = (n : ℕ) → n < p → decimal (p + n) ≡ 49 ∷ padded k n

one_before_one : OneBefore 1 10
one_before_one n low =
    let quotient : (10 + n) / 10 ≡ 1 = omega arith in
    let rest : (10 + n) % 10 ≡ n = omega arith in
    decimal_step (10 + n) (omega arith) (omega arith)
    ∙ ap (λ q. decimal q ++ (48 + (10 + n) % 10) ∷ []) quotient
    ∙ ap (λ r. decimal 1 ++ (48 + r) ∷ []) rest
    ∙ ap (λ digits. digits ++ (48 + n) ∷ []) (decimal_digit 1 (omega arith))
    ∙ ap (λ digits. 49 ∷ filled 1 digits) (sym (decimal_digit n low))

one_before_more : (k p : ℕ) → 0 < k → 0 < p → 10 * p < 2 ^ 63 → OneBefore k p → OneBefore (k + 1) (10 * p)
one_before_more k p some positive small before n low =
    let quotient : (10 * p + n) / 10 ≡ p + n / 10 = omega arith in
    let rest : (10 * p + n) % 10 ≡ n % 10 = omega arith in
    decimal_step (10 * p + n) (omega arith) (omega arith)
    ∙ ap (λ q. decimal q ++ (48 + (10 * p + n) % 10) ∷ []) quotient
    ∙ ap (λ r. decimal (p + n / 10) ++ (48 + r) ∷ []) rest
    ∙ ap (λ digits. digits ++ (48 + n % 10) ∷ []) (before (n / 10) (omega arith))
    ∙ ap (λ digits. 49 ∷ digits) (sym (padded_step k n some (omega arith)))

pub decimal-one_before : OneBefore 9 1000000000
decimal-one_before =
    let two_digits = one_before_more 1 10 (omega arith) (omega arith) (omega arith) one_before_one in
    let three = one_before_more 2 100 (omega arith) (omega arith) (omega arith) two_digits in
    let four = one_before_more 3 1000 (omega arith) (omega arith) (omega arith) three in
    let five = one_before_more 4 10000 (omega arith) (omega arith) (omega arith) four in
    let six = one_before_more 5 100000 (omega arith) (omega arith) (omega arith) five in
    let seven = one_before_more 6 1000000 (omega arith) (omega arith) (omega arith) six in
    let eight = one_before_more 7 10000000 (omega arith) (omega arith) (omega arith) seven in
    one_before_more 8 100000000 (omega arith) (omega arith) (omega arith) eight

-- ---- without the zeros at the end

without_zero : (digits : List ℕ) → without_trailing_zeros (digits ++ 48 ∷ []) ≡ without_trailing_zeros digits
without_zero [] = refl
without_zero (d ∷ digits) = ap (before_zeros d) (without_zero digits)

no_zero : (d : ℕ) → d ≢ 48 → before_zeros d [] ≡ d ∷ []
no_zero d other = grind (arith, nat_tests)

-- digits with no zero at their end stay
without_none : (digits : List ℕ) → ((first : List ℕ) → digits ≢ first ++ 48 ∷ []) → without_trailing_zeros digits ≡ digits
without_none [] no_more = refl
without_none (d ∷ []) no_more = no_zero d (λ e. no_more [] (ap (λ c. c ∷ []) e))
without_none (d ∷ e ∷ digits) no_more =
    ap (before_zeros d) (without_none (e ∷ digits) (λ first is. no_more (d ∷ first) (ap (λ rest. d ∷ rest) is)))

-- zeros that were cut off the end leave the same
cut_zeros : (ns digits left : List ℕ) → CutsSuffixes (FindsCharSuffix 48) digits ns left → without_trailing_zeros digits ≡ without_trailing_zeros left
unfolding encode_utf8
cut_zeros [] digits left is = ap without_trailing_zeros (sym is)
cut_zeros (n ∷ ns) digits left (before, cuts, (width, at, boundary), is) =
    let split : drop (length before - n) before ≡ 48 ∷ drop (length before) before = at.split in
    let whole : before ≡ left ++ 48 ∷ [] =
    sym (take-append-drop (length before - n) before)
    ∙ ap (λ first. first ++ drop (length before - n) before) (sym is)
    ∙ ap (λ back. left ++ back) (split ∙ ap (λ rest. 48 ∷ rest) (drop_all (length before) before (omega arith))) in
    cut_zeros ns digits before cuts ∙ ap without_trailing_zeros whole ∙ without_zero left

fully_trimmed : (left : List ℕ) → IsFullyTrimmed (FindsCharSuffix 48) left → without_trailing_zeros left ≡ left
unfolding encode_utf8
fully_trimmed left (None, none, _) = without_none left none
fully_trimmed left (Some n, some, empty) = absurd (omega (arith, some.0, empty))

pub trim-zeros : (digits left : List ℕ) → IsTrimEndMatches (FindsCharSuffix 48) digits left → left ≡ without_trailing_zeros digits
trim-zeros digits left ((ns, cuts), trimmed) = sym (cut_zeros ns digits left cuts ∙ fully_trimmed left trimmed)

-- the text of a fraction that isn't zero
pub fraction_text-some : (none : List ℕ) (fraction : ℕ) → fraction ≢ 0 → fraction_text none fraction ≡ 46 ∷ without_trailing_zeros (padded 9 fraction)
fraction_text-some none fraction some = grind (arith, nat_tests)

no_sign : (m : ℕ) → is_negative (pos m) ≡ false
no_sign m = grind (arith, nat_tests)

-- a whole number has no fraction
pub page_number-whole : (n : ℕ) → page_number (whole n) ≡ decimal n
page_number-whole n =
    let quotient : n * one / one ≡ n = omega arith in
    let rest : n * one % one ≡ 0 = omega arith in
    ap (λ b. (if b then minus_sign ∷ [] else []) ++ decimal (n * one / one) ++ fraction_text [] (n * one % one)) (no_sign (n * one))
    ∙ ap (λ q. decimal q ++ fraction_text [] (n * one % one)) quotient
    ∙ ap (λ r. decimal n ++ fraction_text [] r) rest
    ∙ append-nil (decimal n)
