-- The bytes that words outside texts consist of, and that no rule line has a newline.
use Rattle.std.proofs.Common.{◌≡◌, ◌≢◌, ℕ, zero, suc, ◌<◌, Bool, true, false, ◌&&◌, ◌==◌, List, [], ◌∷◌, get_or, refl, arith}
use Rattle.std.specs.Prelude.{All, IsUtf8, nat_lt, ◌||◌}
use Rattle.std.specs.List.{list_all}
use Rattle.std.specs.Str.Parse.{AllDigits}
use Rattle.std.proofs.lemmas.Bool.{and_from, and_parts}
use Rattle.std.proofs.lemmas.Bool.Decides.{nat_tests}
use Rattle.std.proofs.lemmas.List.Elements.{All-nil, All-cons, All-append}
use Rattle.std.proofs.lemmas.Str.{IsUtf8-from_ascii}
use Rattle.std.proofs.lemmas.Str.Parse.{digit_from_value}
use Rattle.metrics_core.specs.Characters.{newline, quote, backslash, is_digit}
use Rattle.prom_format.specs.Names.{begins_metric_name, IsMetricName}
use Rattle.prom_format.specs.Printed.{escaped_character, escaped_label_value}

-- neither a space nor a control, and ASCII
abbrev pub stands_in_word : ℕ → Bool
stands_in_word c = nat_lt 32 c && nat_lt c 128

abbrev pub IsWord : List ℕ → Type 0
IsWord word = list_all stands_in_word word ≡ true

abbrev later : ℕ → Bool
later c = begins_metric_name c || is_digit c

first_stands : (c : ℕ) → begins_metric_name c ≡ true → stands_in_word c ≡ true
first_stands c h = grind (arith, nat_tests)

later_stands : (c : ℕ) → later c ≡ true → stands_in_word c ≡ true
later_stands c h = grind (arith, nat_tests)

later_word : (cs : List ℕ) → list_all later cs ≡ true → IsWord cs
later_word [] h = refl
later_word (c ∷ cs) h =
    let parts = and_parts (later c) (list_all later cs) h in
    and_from (stands_in_word c) (list_all stands_in_word cs) (later_stands c parts.0) (later_word cs parts.1)

-- a metric name is a word
pub name_word : (name : List ℕ) → IsMetricName name → IsWord name
name_word [] h = absurd cc
name_word (c ∷ cs) h =
    let parts = and_parts (begins_metric_name c) (list_all later cs) h in
    and_from (stands_in_word c) (list_all stands_in_word cs) (first_stands c parts.0) (later_word cs parts.1)

low_bytes : (word : List ℕ) → IsWord word → (i : ℕ) → get_or word i 0 < 128
low_bytes [] h i = omega arith
low_bytes (c ∷ word) h zero = let low : nat_lt c 128 ≡ true = (and_parts (nat_lt 32 c) (nat_lt c 128) (and_parts (stands_in_word c) (list_all stands_in_word word) h).0).1 in grind (arith, nat_tests)
low_bytes (c ∷ word) h (suc i) = low_bytes word (and_parts (stands_in_word c) (list_all stands_in_word word) h).1 i

pub word_utf8 : (word : List ℕ) → IsWord word → IsUtf8 word
word_utf8 word h = IsUtf8-from_ascii word (low_bytes word h)

-- ---- newlines

abbrev pub NoNewline : List ℕ → Type 0
NoNewline text = All (λ c. c ≢ newline) text

abbrev pub none_is : ℕ → Type 0
none_is c = c ≢ newline

pub word_no_newline : (word : List ℕ) → IsWord word → NoNewline word
word_no_newline [] h = All-nil none_is
word_no_newline (c ∷ word) h =
    let parts = and_parts (stands_in_word c) (list_all stands_in_word word) h in
    let other : c ≢ newline = λ e. let high = parts.0 in absurd (grind (arith, nat_tests)) in
    All-cons none_is c word other (word_no_newline word parts.1)

pub digits_no_newline : (digits : List ℕ) → AllDigits 10 digits → NoNewline digits
digits_no_newline [] h = All-nil none_is
digits_no_newline (d ∷ digits) h =
    let range = digit_from_value d h.0 in
    All-cons none_is d digits (λ e. absurd (omega arith)) (digits_no_newline digits h.1)

escape_no_newline : (b n q : Bool) (c : ℕ) → (c == backslash) ≡ b → (c == newline) ≡ n → (c == quote) ≡ q → NoNewline (escaped_character true c)
escape_no_newline true n q c is_b is_n is_q = rw is_b (All-cons none_is backslash (backslash ∷ []) (λ e. absurd (omega arith)) (All-cons none_is backslash [] (λ e. absurd (omega arith)) (All-nil none_is)))
escape_no_newline false true q c is_b is_n is_q = rw (is_b, is_n) (All-cons none_is backslash (110 ∷ []) (λ e. absurd (omega arith)) (All-cons none_is 110 [] (λ e. absurd (omega arith)) (All-nil none_is)))
escape_no_newline false false true c is_b is_n is_q = rw (is_b, is_n, is_q) (All-cons none_is backslash (quote ∷ []) (λ e. absurd (omega arith)) (All-cons none_is quote [] (λ e. absurd (omega arith)) (All-nil none_is)))
escape_no_newline false false false c is_b is_n is_q = rw (is_b, is_n, is_q) (All-cons none_is c [] (λ e. grind (arith, nat_tests)) (All-nil none_is))

pub escaped_no_newline : (text : List ℕ) → NoNewline (escaped_label_value text)
escaped_no_newline [] = All-nil none_is
escaped_no_newline (c ∷ text) =
    All-append none_is (escaped_character true c) (escaped_label_value text) (escape_no_newline (c == backslash) (c == newline) (c == quote) c refl refl refl) (escaped_no_newline text)
