-- Values: what is read is their spelling, and each spelling is read.
use Rattle.std.proofs.Common.{◌≡◌, ℕ, ◌+◌, ◌-◌, ◌*◌, ◌^◌, ◌<◌, ◌≤◌, Bool, true, false, ◌&&◌, leb, List, [], ◌∷◌, ◌++◌, length, Option, Some, None, refl, sym, ap, subst, ◌∙◌, append_assoc, append-nil, arith, lit≤}
use Rattle.std.specs.Prelude.{All, decimal, ◌==◌, ◌||◌, ℤ, pos, option_map, if◌then◌else◌}
use Rattle.std.specs.Char.{is_ascii_digit}
use Rattle.std.specs.List.{list_all, before_first}
use Rattle.std.specs.Str.Parse.{AllDigits, digits_value}
use Rattle.std.proofs.lemmas.Bool.{and_parts, leb-true, le-leb}
use Rattle.std.proofs.lemmas.Bool.Decides.{nat_tests, Decides-eqb}
use Rattle.std.proofs.lemmas.Fmt.{decimal_is_IsNumeral, decimal_nonempty}
use Rattle.std.proofs.lemmas.List.Elements.{All-nil, All-cons, All-append}
use Rattle.std.proofs.lemmas.Option.{cond_some, same_Some}
use Rattle.std.proofs.lemmas.Str.Parse.{digit_from_value}
use Rattle.metrics_core.specs.Characters.{full_stop, minus_sign}
use Rattle.metrics_core.specs.Numbers.{one}
use Rattle.dsd_lines.specs.Grammar.{IsSigned, IsDecimal, IsStep, IsMillis, IsRate, StepText, SetTo, MoveBy, plus_sign, sign, move_sign, signed, point_and, billionths, greatest, seconds}
use Rattle.dsd_lines.specs.Reading.{◌>>=◌, is, behind_first, number_of, fraction_of, fraction_behind, value_of, signed_of, decimal_of, step_of, millis_of, rate_within, rate_of}
use Rattle.dsd_lines.proofs.Digits.{digits_all, all_digits, value_is_digit, number_again, number_takes}
use Rattle.dsd_lines.proofs.Joined.{Free, with_stop, cut_whole, cut_nowhere, cut_there}

-- the value of a step that gave one
pub bind_some : {A B : Type 0} (o : Option A) (f : A → Option B) (y : B) → (o >>= f) ≡ Some y → (x : A) × (o ≡ Some x) × (f x ≡ Some y)
bind_some None f y e = absurd cc
bind_some (Some x) f y e = (x, refl, e)

-- ---- the characters of numbers

abbrev pub in_number : ℕ → Bool
in_number c = is_ascii_digit c || c == full_stop || c == minus_sign || c == plus_sign

abbrev pub OfNumber : List ℕ → Type 0
OfNumber text = All (λ c. in_number c ≡ true) text

digit_in_number : (c : ℕ) → is_ascii_digit c ≡ true → in_number c ≡ true
digit_in_number c e = rw e refl

pub digits_in_number : (text : List ℕ) → AllDigits 10 text → OfNumber text
digits_in_number [] all = All-nil (λ c. in_number c ≡ true)
digits_in_number (c ∷ text) all = All-cons (λ c. in_number c ≡ true) c text (digit_in_number c (value_is_digit c all.0)) (digits_in_number text all.1)

pub number_in_number : (n : ℕ) → n < 2 ^ 64 → OfNumber (decimal n)
number_in_number n small = digits_in_number (decimal n) (decimal_is_IsNumeral n small).0.1

digits_free : (text : List ℕ) → AllDigits 10 text → Free full_stop text
digits_free [] all = All-nil (λ c. is full_stop c ≡ false)
digits_free (c ∷ text) all =
    let range = digit_from_value c all.0 in
    let other : is full_stop c ≡ false = grind (arith, nat_tests) in
    All-cons (λ c. is full_stop c ≡ false) c text other (digits_free text all.1)

whole_small : (negative : Bool) (whole n : ℕ) → whole * one + n ≤ greatest negative → whole < 2 ^ 64
whole_small true whole n h = omega (arith, h)
whole_small false whole n h = omega (arith, h)

signed_in_number : (spelling : Bool → List ℕ) → ((negative : Bool) → OfNumber (spelling negative)) → (text : List ℕ) (value : ℤ) → IsSigned spelling text value → OfNumber text
signed_in_number spelling of_sign text value h = subst OfNumber (sym h.spelled) (All-append Ok (spelling h.negative ++ decimal h.whole) (point_and h.digits) (All-append Ok (spelling h.negative) (decimal h.whole) (of_sign h.negative) whole_ok) (of_fraction h.digits h.each_digit))
  where
    Ok : ℕ → Type 0
    Ok c = in_number c ≡ true

    of_fraction : (digits : List ℕ) → AllDigits 10 digits → OfNumber (point_and digits)
    of_fraction [] all = All-nil Ok
    of_fraction (d ∷ digits) all = All-cons Ok full_stop (d ∷ digits) refl (digits_in_number (d ∷ digits) all)

    whole_ok : OfNumber (decimal h.whole)
    whole_ok = number_in_number h.whole (whole_small h.negative h.whole (digits_value 10 h.digits * 10 ^ (9 - length h.digits)) h.fits)

one_in_number : (c : ℕ) → in_number c ≡ true → OfNumber (c ∷ [])
one_in_number c e = All-cons (λ c. in_number c ≡ true) c [] e (All-nil (λ c. in_number c ≡ true))

pub decimal_in_number : (text : List ℕ) (value : ℤ) → IsDecimal text value → OfNumber text
decimal_in_number text value h = signed_in_number sign of_sign text value h
  where
    of_sign : (negative : Bool) → OfNumber (sign negative)
    of_sign true = one_in_number minus_sign refl
    of_sign false = All-nil (λ c. in_number c ≡ true)

pub step_in_number : (text : List ℕ) (step : StepText) → IsStep text step → OfNumber text
step_in_number text (SetTo value) h = decimal_in_number text value h.0
step_in_number text (MoveBy value) h = signed_in_number move_sign of_sign text value h
  where
    of_sign : (negative : Bool) → OfNumber (move_sign negative)
    of_sign true = one_in_number minus_sign refl
    of_sign false = one_in_number plus_sign refl

-- a character of no number stands in none
pub other_free : (stop : ℕ) (text : List ℕ) → in_number stop ≡ false → OfNumber text → Free stop text
other_free stop text other all = λ k d within. apart _ (all k d within)
  where
    apart : (c : ℕ) → in_number c ≡ true → is stop c ≡ false
    apart c e = by (is stop c) refl
      where
        by : (b : Bool) → is stop c ≡ b → b ≡ false
        by false same = refl
        by true same = let equal : c ≡ stop = (Decides-eqb c stop).0 same in absurd cc

-- ---- what is read is a spelling

-- digits that are some have a point before them
pointed : (digits : List ℕ) → 1 ≤ length digits → point_and digits ≡ full_stop ∷ digits
pointed [] some = absurd (omega (arith, some))
pointed (d ∷ digits) some = refl

record IsFraction (behind : Option (List ℕ)) (n : ℕ) : Type 0 where
  digits : List ℕ
  few : length digits ≤ 9
  each_digit : AllDigits 10 digits
  spelled : with_stop full_stop behind ≡ point_and digits
  meant : n ≡ digits_value 10 digits * 10 ^ (9 - length digits)

fraction_takes : (behind : Option (List ℕ)) (n : ℕ) → fraction_behind behind ≡ Some n → IsFraction behind n
fraction_takes None n e = record { digits = []; few = lit≤ tt; each_digit = tt; spelled = refl; meant = sym (same_Some 0 n e) }
fraction_takes (Some digits) n e =
    let tested = cond_some (list_all is_ascii_digit digits && leb 1 (length digits) && leb (length digits) 9) (digits_value 10 digits * 10 ^ (9 - length digits)) n e in
    let parts = and_parts (list_all is_ascii_digit digits && leb 1 (length digits)) (leb (length digits) 9) tested.0 in
    let others = and_parts (list_all is_ascii_digit digits) (leb 1 (length digits)) parts.0 in
    record {
      digits = digits;
      few = leb-true (length digits) 9 parts.1;
      each_digit = digits_all digits others.0;
      spelled = sym (pointed digits (leb-true 1 (length digits) others.1));
      meant = sym tested.1;
    }

signed_takes : (spelling : Bool → List ℕ) (negative : Bool) (text : List ℕ) (value : ℤ) → signed_of negative text ≡ Some value → (is : IsSigned spelling (spelling negative ++ text) value) × (is.negative ≡ negative)
unfolding signed_of
signed_takes spelling negative text value e =
    let front = before_first (is full_stop) text in
    let behind = behind_first full_stop text in
    let m = bind_some (number_of front) (λ whole. fraction_behind behind >>= λ fraction. value_of negative (whole * one + fraction)) value e in
    let k = bind_some (fraction_behind behind) (λ fraction. value_of negative (m.0 * one + fraction)) value m.2 in
    let tested = cond_some (leb (m.0 * one + k.0) (greatest negative)) (signed negative (m.0 * one + k.0)) value k.2 in
    let number = number_takes front m.0 m.1 in
    let fraction = fraction_takes behind k.0 k.1 in
    let is : m.0 * one + k.0 ≡ billionths m.0 fraction.digits = ap (λ v. m.0 * one + v) fraction.meant in (
      record {
        negative = negative;
        whole = m.0;
        digits = fraction.digits;
        few = fraction.few;
        each_digit = fraction.each_digit;
        spelled = ap (λ l. spelling negative ++ l) (cut_whole full_stop text ∙ (λ j. number.0 j ++ fraction.spelled j)) ∙ sym (append_assoc (spelling negative) (decimal m.0) (point_and fraction.digits));
        meant = sym tested.1 ∙ ap (signed negative) is;
        fits = subst (λ v. v ≤ greatest negative) is (leb-true (m.0 * one + k.0) (greatest negative) tested.0);
      },
      refl,
    )

pub decimal_takes : (text : List ℕ) (value : ℤ) → decimal_of text ≡ Some value → IsDecimal text value
decimal_takes [] value e = absurd cc
decimal_takes (c ∷ text) value e = by (c == minus_sign) refl e
  where
    by : (b : Bool) → (c == minus_sign) ≡ b → (if b then signed_of true text else signed_of false (c ∷ text)) ≡ Some value → IsDecimal (c ∷ text) value
    by true same f = subst (λ d. IsDecimal (d ∷ text) value) (sym ((Decides-eqb c minus_sign).0 same)) (signed_takes sign true text value f).0
    by false other f = (signed_takes sign false (c ∷ text) value f).0

-- a step that was read of a value
mapped : {A B : Type 0} (f : A → B) (o : Option A) (y : B) → option_map f o ≡ Some y → (x : A) × (o ≡ Some x) × (f x ≡ y)
mapped f None y e = absurd cc
mapped f (Some x) y e = (x, refl, same_Some (f x) y e)

pub step_takes : (text : List ℕ) (step : StepText) → step_of text ≡ Some step → IsStep text step
step_takes [] step e = absurd cc
step_takes (c ∷ text) step e = by (c == minus_sign) (c == plus_sign) refl refl e
  where
    by : (minus plus : Bool) → (c == minus_sign) ≡ minus → (c == plus_sign) ≡ plus
        → (if minus then option_map MoveBy (signed_of true text) else if plus then option_map MoveBy (signed_of false text) else option_map SetTo (signed_of false (c ∷ text))) ≡ Some step
        → IsStep (c ∷ text) step
    by true plus same _ f =
        let m = mapped MoveBy (signed_of true text) step f in
        subst (IsStep (c ∷ text)) m.2 (subst (λ d. IsSigned move_sign (d ∷ text) m.0) (sym ((Decides-eqb c minus_sign).0 same)) (signed_takes move_sign true text m.0 m.1).0)
    by false true _ same f =
        let m = mapped MoveBy (signed_of false text) step f in
        subst (IsStep (c ∷ text)) m.2 (subst (λ d. IsSigned move_sign (d ∷ text) m.0) (sym ((Decides-eqb c plus_sign).0 same)) (signed_takes move_sign false text m.0 m.1).0)
    by false false _ _ f =
        let m = mapped SetTo (signed_of false (c ∷ text)) step f in
        subst (IsStep (c ∷ text)) m.2 (signed_takes sign false (c ∷ text) m.0 m.1)

pub millis_take : (text : List ℕ) (value : ℤ) → millis_of text ≡ Some value → IsMillis text value
millis_take text value e = let m = mapped seconds (decimal_of text) value e in (m.0, decimal_takes text m.0 m.1, sym m.2)

-- ---- and each spelling is read

fraction_again : (digits : List ℕ) → 1 ≤ length digits → length digits ≤ 9 → AllDigits 10 digits → fraction_of digits ≡ Some (digits_value 10 digits * 10 ^ (9 - length digits))
fraction_again digits some few all = rw (all_digits digits all, le-leb 1 (length digits) some, le-leb (length digits) 9 few) refl

signed_again : (negative : Bool) (whole : ℕ) (digits : List ℕ) → length digits ≤ 9 → AllDigits 10 digits → billionths whole digits ≤ greatest negative
    → signed_of negative (decimal whole ++ point_and digits) ≡ Some (signed negative (billionths whole digits))
unfolding signed_of
signed_again negative whole digits few all fits = by digits few all fits
  where
    by : (digits : List ℕ) → length digits ≤ 9 → AllDigits 10 digits → billionths whole digits ≤ greatest negative → signed_of negative (decimal whole ++ point_and digits) ≡ Some (signed negative (billionths whole digits))
    by [] few all fits =
        let small = whole_small negative whole 0 (omega (arith, fits)) in
        let cut = cut_nowhere full_stop (decimal whole) (digits_free (decimal whole) (decimal_is_IsNumeral whole small).0.1) in
        let within : leb (whole * one + 0) (greatest negative) ≡ true = le-leb (whole * one + 0) (greatest negative) (omega (arith, fits)) in
        ap (signed_of negative) (append-nil (decimal whole)) ∙ rw (cut.0, cut.1, number_again whole small, within) refl
    by (d ∷ digits) few all fits =
        let fraction = digits_value 10 (d ∷ digits) * 10 ^ (9 - length (d ∷ digits)) in
        let small = whole_small negative whole fraction fits in
        let cut = cut_there full_stop (decimal whole) (d ∷ digits) (digits_free (decimal whole) (decimal_is_IsNumeral whole small).0.1) in
        let within : leb (whole * one + fraction) (greatest negative) ≡ true = le-leb (whole * one + fraction) (greatest negative) fits in
        rw (cut.0, cut.1, number_again whole small, fraction_again (d ∷ digits) (omega arith) few all, within) refl

-- a digit is no sign
unsigned : (digits rest : List ℕ) → 0 < length digits → AllDigits 10 digits → decimal_of (digits ++ rest) ≡ signed_of false (digits ++ rest)
unsigned [] rest some all = absurd (omega (arith, some))
unsigned (d ∷ digits) rest some all =
    let range = digit_from_value d all.0 in
    let other : (d == minus_sign) ≡ false = grind (arith, nat_tests) in
    rw other refl

pub decimal_again : (text : List ℕ) (value : ℤ) → IsDecimal text value → decimal_of text ≡ Some value
decimal_again text value h = ap decimal_of h.spelled ∙ by h.negative h.fits ∙ ap Some (sym h.meant)
  where
    by : (negative : Bool) → billionths h.whole h.digits ≤ greatest negative → decimal_of (sign negative ++ decimal h.whole ++ point_and h.digits) ≡ Some (signed negative (billionths h.whole h.digits))
    by true fits = ap (λ l. decimal_of l) (append_assoc (sign true) (decimal h.whole) (point_and h.digits)) ∙ signed_again true h.whole h.digits h.few h.each_digit fits
    by false fits =
        let small = whole_small false h.whole (digits_value 10 h.digits * 10 ^ (9 - length h.digits)) fits in
        unsigned (decimal h.whole) (point_and h.digits) (decimal_nonempty h.whole small) (decimal_is_IsNumeral h.whole small).0.1
        ∙ signed_again false h.whole h.digits h.few h.each_digit fits

pub step_again : (text : List ℕ) (step : StepText) → IsStep text step → step_of text ≡ Some step
step_again text (SetTo value) (h, none) =
    let fits = subst (λ b. billionths h.whole h.digits ≤ greatest b) none h.fits in
    let small = whole_small false h.whole (digits_value 10 h.digits * 10 ^ (9 - length h.digits)) fits in
    ap step_of (h.spelled ∙ ap (λ b. sign b ++ decimal h.whole ++ point_and h.digits) none)
    ∙ set_to (decimal h.whole) (point_and h.digits) (decimal_nonempty h.whole small) (decimal_is_IsNumeral h.whole small).0.1
    ∙ ap (option_map SetTo) (signed_again false h.whole h.digits h.few h.each_digit fits)
    ∙ ap (λ v. Some (SetTo v)) (sym (h.meant ∙ ap (λ b. signed b (billionths h.whole h.digits)) none))
  where
    set_to : (digits rest : List ℕ) → 0 < length digits → AllDigits 10 digits → step_of (digits ++ rest) ≡ option_map SetTo (signed_of false (digits ++ rest))
    set_to [] rest some all = absurd (omega (arith, some))
    set_to (d ∷ digits) rest some all =
        let range = digit_from_value d all.0 in
        let minus : (d == minus_sign) ≡ false = grind (arith, nat_tests) in
        let plus : (d == plus_sign) ≡ false = grind (arith, nat_tests) in
        rw (minus, plus) refl
step_again text (MoveBy value) h = ap step_of h.spelled ∙ by h.negative h.fits ∙ ap (λ v. Some (MoveBy v)) (sym h.meant)
  where
    by : (negative : Bool) → billionths h.whole h.digits ≤ greatest negative → step_of (move_sign negative ++ decimal h.whole ++ point_and h.digits) ≡ Some (MoveBy (signed negative (billionths h.whole h.digits)))
    by true fits = ap (λ l. step_of l) (append_assoc (move_sign true) (decimal h.whole) (point_and h.digits)) ∙ ap (option_map MoveBy) (signed_again true h.whole h.digits h.few h.each_digit fits)
    by false fits = ap (λ l. step_of l) (append_assoc (move_sign false) (decimal h.whole) (point_and h.digits)) ∙ ap (option_map MoveBy) (signed_again false h.whole h.digits h.few h.each_digit fits)

pub millis_again : (text : List ℕ) (value : ℤ) → IsMillis text value → millis_of text ≡ Some value
millis_again text value (millis, is, meant) = ap (option_map seconds) (decimal_again text millis is) ∙ ap Some (sym meant)

-- ---- rates

within_takes : (value : ℤ) (rate : ℕ) → rate_within value ≡ Some rate → (value ≡ pos rate) × (1000 ≤ rate) × (rate ≤ one)
within_takes (pos n) rate e =
    let tested = cond_some (leb 1000 n && leb n one) n rate e in
    let parts = and_parts (leb 1000 n) (leb n one) tested.0 in
    (ap pos tested.1, subst (λ m. 1000 ≤ m) tested.1 (leb-true 1000 n parts.0), subst (λ m. m ≤ one) tested.1 (leb-true n one parts.1))
within_takes _ rate e = absurd cc

pub rate_takes : (text : List ℕ) (rate : ℕ) → rate_of text ≡ Some rate → IsRate text rate
unfolding rate_of
rate_takes text rate e =
    let m = bind_some (decimal_of text) rate_within rate e in
    let h = within_takes m.0 rate m.2 in
    record { spelled = subst (IsDecimal text) h.0 (decimal_takes text m.0 m.1); least = h.1; most = h.2 }

pub rate_again : (text : List ℕ) (rate : ℕ) → IsRate text rate → rate_of text ≡ Some rate
unfolding rate_of
rate_again text rate h = rw (decimal_again text (pos rate) h.spelled, le-leb 1000 rate h.least, le-leb rate one h.most) refl
