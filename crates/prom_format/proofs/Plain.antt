-- Characters that no rule names pass through the walk over a text.
use Rattle.std.proofs.Common.{◌≡◌, ℕ, List, [], ◌∷◌, ◌++◌, refl, sym, ap, ◌∙◌, arith, ◌≤◌, ◌+◌, ◌/◌, ◌%◌, Bool, true, false, cond, ◌≢◌, ◌⊎◌, inl, inr, subst, ◌<◌, length}
use Rattle.std.proofs.lemmas.Bool.Decides.{nat_tests}
use Rattle.std.specs.Prelude.{nat_lt, ◌==◌, ◌&&◌, not, flat_map, if◌then◌else◌}
use Rattle.std.specs.Char.{encode_utf8}
use Rattle.std.proofs.lemmas.Str.{length-encode, len_utf8_bounds}
use Rattle.std.specs.List.{AllByRecursion, list_all}
use Rattle.std.proofs.lemmas.Bool.{and_parts}
use Rattle.metrics_core.specs.Characters.{newline, quote, backslash}
use Rattle.prom_format.specs.Printed.{escaped_character, is_plain, printed_text}
use Rattle.prom_format.proofs.Walk.{walked, settled_is_walked}

-- no byte of the list is ASCII
abbrev pub AreHigh : List ℕ → Type 0
AreHigh bytes = AllByRecursion (λ b. 128 ≤ b) bytes

one_of : (p q : Bool) (x y z : List ℕ) → AreHigh x → AreHigh y → AreHigh z → AreHigh (cond p x (cond q y z))
one_of true q x y z hx hy hz = hx
one_of false true x y z hx hy hz = hy
one_of false false x y z hx hy hz = hz

-- an ASCII character is one byte, and any other has no ASCII byte
pub encode_cases : (c : ℕ) → (encode_utf8 c ≡ c ∷ []) ⊎ AreHigh (encode_utf8 c)
unfolding encode_utf8
encode_cases c =
    elim (nat_lt c 128) as (λ b. (cond b (c ∷ []) (cond (nat_lt c 2048) ((192 + c / 64) ∷ (128 + c % 64) ∷ []) (cond (nat_lt c 65536) ((224 + c / 4096) ∷ (128 + c / 64 % 64) ∷ (128 + c % 64) ∷ []) ((240 + c / 262144) ∷ (128 + c / 4096 % 64) ∷ (128 + c / 64 % 64) ∷ (128 + c % 64) ∷ []))) ≡ c ∷ []) ⊎ AreHigh (cond b (c ∷ []) (cond (nat_lt c 2048) ((192 + c / 64) ∷ (128 + c % 64) ∷ []) (cond (nat_lt c 65536) ((224 + c / 4096) ∷ (128 + c / 64 % 64) ∷ (128 + c % 64) ∷ []) ((240 + c / 262144) ∷ (128 + c / 4096 % 64) ∷ (128 + c / 64 % 64) ∷ (128 + c % 64) ∷ []))))) [
      | true ↦ inl refl
      | false ↦ inr (one_of (nat_lt c 2048) (nat_lt c 65536) _ _ _ (omega arith, (omega arith, tt)) (omega arith, (omega arith, (omega arith, tt))) (omega arith, (omega arith, (omega arith, (omega arith, tt)))))
    ]

-- what is printed of a text, where w says whether a backslash waits before it
abbrev pub printed_walk : Bool → Bool → List ℕ → List ℕ
printed_walk in_label w text = flat_map (escaped_character in_label) (walked in_label w text)

-- what is printed of a backslash that waited
abbrev pub printed_waiting : Bool → List ℕ
printed_waiting w = if w then backslash ∷ backslash ∷ [] else []

pub printed_walk-start : (in_label : Bool) (text : List ℕ) → printed_walk in_label false text ≡ printed_text in_label text
printed_walk-start in_label text = ap (flat_map (escaped_character in_label)) (sym (settled_is_walked in_label [] text))

pub printed_walk-backslash : (in_label w : Bool) (text : List ℕ) → printed_walk in_label w (92 ∷ text) ≡ printed_waiting w ++ printed_walk in_label (not w) text
printed_walk-backslash in_label true text = refl
printed_walk-backslash in_label false text = refl

pub printed_walk-quote : (w : Bool) (text : List ℕ) → printed_walk true w (34 ∷ text) ≡ 92 ∷ 34 ∷ printed_walk true false text
printed_walk-quote true text = refl
printed_walk-quote false text = refl

pub printed_walk-end : (in_label w : Bool) → printed_walk in_label w [] ≡ printed_waiting w
printed_walk-end in_label true = refl
printed_walk-end in_label false = refl

-- a character that no rule names in this kind of text
abbrev pub IsPlain : Bool → ℕ → Type 0
IsPlain in_label c = (c ≢ 92) × (c ≢ 10) × (c ≡ 34 → in_label ≡ false)

pub plain_escape : (in_label : Bool) (b : ℕ) → IsPlain in_label b → escaped_character in_label b ≡ b ∷ []
plain_escape in_label b (n92, n10, n34) = grind (arith, nat_tests)

plain_byte : (in_label w : Bool) (b : ℕ) (text : List ℕ) → IsPlain in_label b →
    printed_walk in_label w (b ∷ text) ≡ printed_waiting w ++ b ∷ printed_walk in_label false text
plain_byte in_label w b text plain =
    let escaped = plain_escape in_label b plain in
    let others = walked in_label false text in
    let no_newline : (b == newline) ≡ false = grind (arith, nat_tests, plain.1) in
    let no_backslash : (b == backslash) ≡ false = grind (arith, nat_tests, plain.0) in
    let no_quote : (in_label && b == quote) ≡ false = grind (arith, nat_tests, plain.2) in
    ap (λ t. flat_map (escaped_character in_label) (if t then b ∷ walked in_label w text else if b == backslash then (if w then b ∷ others else walked in_label true text) else if w && not (in_label && b == quote) then backslash ∷ b ∷ others else b ∷ others)) no_newline
    ∙ ap (λ t. flat_map (escaped_character in_label) (if t then (if w then b ∷ others else walked in_label true text) else if w && not (in_label && b == quote) then backslash ∷ b ∷ others else b ∷ others)) no_backslash
    ∙ ap (λ t. flat_map (escaped_character in_label) (if w && not t then backslash ∷ b ∷ others else b ∷ others)) no_quote
    ∙ by w escaped
  where
    by : (w : Bool) → escaped_character in_label b ≡ b ∷ [] →
        flat_map (escaped_character in_label) (if w && true then backslash ∷ b ∷ walked in_label false text else b ∷ walked in_label false text) ≡ printed_waiting w ++ b ∷ printed_walk in_label false text
    by true e = ap (λ front. 92 ∷ 92 ∷ (front ++ printed_walk in_label false text)) e
    by false e = ap (λ front. front ++ printed_walk in_label false text) e

high_plain : (in_label : Bool) (b : ℕ) → 128 ≤ b → IsPlain in_label b
high_plain in_label b high = (λ e. omega (arith, e), λ e. omega (arith, e), λ e. absurd (omega (arith, e)))

high_later : (in_label : Bool) (bytes text : List ℕ) → AreHigh bytes → printed_walk in_label false (bytes ++ text) ≡ bytes ++ printed_walk in_label false text
high_later in_label [] text h = refl
high_later in_label (b ∷ bytes) text (high, others) =
    plain_byte in_label false b (bytes ++ text) (high_plain in_label b high) ∙ ap (λ t. b ∷ t) (high_later in_label bytes text others)

high_first : (in_label w : Bool) (bytes text : List ℕ) → 0 < length bytes → AreHigh bytes →
    printed_walk in_label w (bytes ++ text) ≡ printed_waiting w ++ (bytes ++ printed_walk in_label false text)
high_first in_label w [] text some h = absurd (omega (arith, some))
high_first in_label w (b ∷ bytes) text some (high, others) =
    plain_byte in_label w b (bytes ++ text) (high_plain in_label b high) ∙ ap (λ t. printed_waiting w ++ b ∷ t) (high_later in_label bytes text others)

pub printed_walk-plain : (in_label w : Bool) (c : ℕ) (text : List ℕ) → IsPlain in_label c →
    printed_walk in_label w (encode_utf8 c ++ text) ≡ printed_waiting w ++ (encode_utf8 c ++ printed_walk in_label false text)
printed_walk-plain in_label w c text plain = by (encode_cases c)
  where
    by : (encode_utf8 c ≡ c ∷ []) ⊎ AreHigh (encode_utf8 c) → printed_walk in_label w (encode_utf8 c ++ text) ≡ printed_waiting w ++ (encode_utf8 c ++ printed_walk in_label false text)
    by (inl one) =
        let P : List ℕ → Type 0 = λ bytes. printed_walk in_label w (bytes ++ text) ≡ printed_waiting w ++ (bytes ++ printed_walk in_label false text) in
        subst P (sym one) (plain_byte in_label w c text plain)
    by (inr high) = high_first in_label w (encode_utf8 c) text (omega (arith, length-encode c, len_utf8_bounds c)) high

-- ---- texts that are printed as they are

plain_from_test : (in_label : Bool) (c : ℕ) → is_plain in_label c ≡ true → IsPlain in_label c
plain_from_test in_label c passes = (grind (arith, nat_tests, passes), grind (arith, nat_tests, passes), grind (arith, nat_tests, passes))

plain_stays : (in_label : Bool) (text : List ℕ) → list_all (is_plain in_label) text ≡ true → printed_walk in_label false text ≡ text
plain_stays in_label [] all = refl
plain_stays in_label (c ∷ text) all =
    let parts = and_parts (is_plain in_label c) (list_all (is_plain in_label) text) all in
    plain_byte in_label false c text (plain_from_test in_label c parts.0) ∙ ap (λ t. c ∷ t) (plain_stays in_label text parts.1)

pub printed_text-plain : (in_label : Bool) (text : List ℕ) → list_all (is_plain in_label) text ≡ true → printed_text in_label text ≡ text
printed_text-plain in_label text all = sym (printed_walk-start in_label text) ∙ plain_stays in_label text all
