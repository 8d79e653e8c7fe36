-- UTF-8 is cut at ASCII characters, and a text is UTF-8 where its escape is.
use Rattle.std.proofs.Common.{◌≡◌, ℕ, zero, suc, ◌+◌, ◌<◌, ◌≤◌, Bool, true, false, ◌&&◌, ◌==◌, List, [], ◌∷◌, ◌++◌, length, get_or, take, drop, refl, sym, ap, subst, ◌∙◌, append_assoc, arith, ◌⊎◌, inl, inr}
use Rattle.std.specs.Prelude.{IsUtf8, encode_utf8_all}
use Rattle.std.specs.Char.{encode_utf8}
use Rattle.std.specs.Str.{all_scalars}
use Rattle.std.proofs.lemmas.Bool.{and_parts, and_from, eqb-true}
use Rattle.std.proofs.lemmas.Grind.{flat_map-append}
use Rattle.std.proofs.lemmas.List.{append-nil, length-append, length_push, take_at, drop_at}
use Rattle.std.proofs.lemmas.Str.{IsUtf8-nil, IsUtf8-append, IsUtf8-take, IsUtf8-drop, IsUtf8-from_ascii, IsCharBoundary-before_ascii, IsCharBoundary-after_ascii, IsCharBoundary-from_take, length-encode, len_utf8_bounds}
use Rattle.metrics_core.specs.Characters.{newline, quote, backslash}
use Rattle.prom_format.specs.Printed.{escaped_character}
use Rattle.prom_format.proofs.Plain.{AreHigh, encode_cases}
use Rattle.prom_format.proofs.ReadOnce.{first_same, others_same}
use Rattle.page_relay.specs.Reading.{escaped}

at_length : (x : List ℕ) (c : ℕ) (y : List ℕ) → get_or (x ++ c ∷ y) (length x) 0 ≡ c
at_length [] c y = refl
at_length (a ∷ x) c y = at_length x c y

-- an ASCII character cuts UTF-8
pub split_ascii : (x : List ℕ) (c : ℕ) (y : List ℕ) → c < 128 → IsUtf8 (x ++ c ∷ y) → IsUtf8 x × IsUtf8 y
split_ascii x c y low utf8 =
    let text = x ++ c ∷ y in
    let within : length x < length text = omega (arith, length-append x (c ∷ y)) in
    let here : get_or text (length x) 0 < 128 = omega (arith, low, at_length x c y) in
    let front : take (length x) text ≡ x = take_at x (c ∷ y) (length x) refl in
    let back : drop (length x + 1) text ≡ y = ap (drop (length x + 1)) (sym (append_assoc x (c ∷ []) y)) ∙ drop_at (x ++ c ∷ []) y (length x + 1) (length_push x c) in (
      subst IsUtf8 front (IsUtf8-take text (length x) utf8 (IsCharBoundary-before_ascii text (length x) within here)),
      subst IsUtf8 back (IsUtf8-drop text (length x + 1) utf8 (IsCharBoundary-after_ascii text (length x) utf8 within here)),
    )

-- what stands behind UTF-8 is UTF-8
pub utf8_behind : (x y : List ℕ) → IsUtf8 x → IsUtf8 (x ++ y) → IsUtf8 y
utf8_behind x y front utf8 =
    let text = x ++ y in
    let same : take (length x) text ≡ x = take_at x y (length x) refl in
    subst IsUtf8 (drop_at x y (length x) refl) (IsUtf8-drop text (length x) utf8 (IsCharBoundary-from_take text (length x) utf8 (omega (arith, length-append x y)) (subst IsUtf8 (sym same) front)))

pub one_ascii : (c : ℕ) → c < 128 → IsUtf8 (c ∷ [])
one_ascii c low = IsUtf8-from_ascii (c ∷ []) low_at
  where
    low_at : (i : ℕ) → get_or (c ∷ []) i 0 < 128
    low_at zero = low
    low_at (suc i) = omega arith

pub behind_ascii : (c : ℕ) (y : List ℕ) → c < 128 → IsUtf8 (c ∷ y) → IsUtf8 y
behind_ascii c y low utf8 = utf8_behind (c ∷ []) y (one_ascii c low) utf8

-- ---- escapes

record Escapes (in_label : Bool) (c : ℕ) : Type 0 where
  second : ℕ
  is : escaped_character in_label c ≡ backslash ∷ second ∷ []
  low : c < 128
  low_second : second < 128

shape : (in_label : Bool) (c : ℕ) → Escapes in_label c ⊎ (escaped_character in_label c ≡ c ∷ [])
shape in_label c = by (c == backslash) (c == newline) (in_label && c == quote) refl refl refl
  where
    by : (b n q : Bool) → (c == backslash) ≡ b → (c == newline) ≡ n → (in_label && c == quote) ≡ q → Escapes in_label c ⊎ (escaped_character in_label c ≡ c ∷ [])
    by true n q is_b is_n is_q = let e = eqb-true c backslash is_b in inl (record { second = backslash; is = rw is_b refl; low = omega (arith, e); low_second = omega arith })
    by false true q is_b is_n is_q = let e = eqb-true c newline is_n in inl (record { second = 110; is = rw (is_b, is_n) refl; low = omega (arith, e); low_second = omega arith })
    by false false true is_b is_n is_q = let e = eqb-true c quote (and_parts in_label (c == quote) is_q).1 in inl (record { second = quote; is = rw (is_b, is_n, is_q) refl; low = omega (arith, e); low_second = omega arith })
    by false false false is_b is_n is_q = inr (rw (is_b, is_n, is_q) refl)

-- characters that aren't ASCII stand in an escaped text as they do in the text
high_front : (in_label : Bool) (xs rest text : List ℕ) → AreHigh xs → xs ++ rest ≡ escaped in_label text → (more : List ℕ) × (text ≡ xs ++ more) × (rest ≡ escaped in_label more)
high_front in_label [] rest text high e = (text, refl, e)
high_front in_label (x ∷ xs) rest [] high e = absurd cc
high_front in_label (x ∷ xs) rest (c ∷ text) high e = by (shape in_label c) (λ f. high_front in_label xs rest text high.1 f)
  where
    by : Escapes in_label c ⊎ (escaped_character in_label c ≡ c ∷ []) → (xs ++ rest ≡ escaped in_label text → (more : List ℕ) × (text ≡ xs ++ more) × (rest ≡ escaped in_label more)) → (more : List ℕ) × (c ∷ text ≡ (x ∷ xs) ++ more) × (rest ≡ escaped in_label more)
    by (inl s) rec =
        let first = first_same x backslash (xs ++ rest) (s.second ∷ escaped in_label text) (e ∙ ap (λ l. l ++ escaped in_label text) s.is) in
        absurd (omega (arith, first, high.0))
    by (inr is) rec =
        let whole = e ∙ ap (λ l. l ++ escaped in_label text) is in
        let first = first_same x c (xs ++ rest) (escaped in_label text) whole in
        let behind = rec (others_same x c (xs ++ rest) (escaped in_label text) whole) in
        (behind.0, (λ j. sym first j ∷ behind.1 j), behind.2)

one_char : (d : ℕ) (ds : List ℕ) → all_scalars (d ∷ ds) ≡ true → IsUtf8 (encode_utf8 d)
one_char d ds s = (d ∷ [], (and_from _ _ (and_parts _ _ s).0 refl, append-nil (encode_utf8 d)))

other_chars : (d : ℕ) (ds : List ℕ) → all_scalars (d ∷ ds) ≡ true → IsUtf8 (encode_utf8_all ds)
other_chars d ds s = (ds, ((and_parts _ _ s).1, refl))

abbrev Unescapes : ℕ → Bool → Type 0
Unescapes k in_label = (text : List ℕ) → length text ≤ k → IsUtf8 (escaped in_label text) → IsUtf8 text

-- a character that stands as it is, and the others
plain_first : (k : ℕ) (in_label : Bool) → Unescapes k in_label → (c : ℕ) (text : List ℕ) → length (c ∷ text) ≤ suc k → escaped_character in_label c ≡ c ∷ [] → IsUtf8 (escaped in_label (c ∷ text)) → IsUtf8 (c ∷ text)
plain_first k in_label rec c text few is utf8 = by utf8.0 utf8.1.0 utf8.1.1
  where
    whole : escaped in_label (c ∷ text) ≡ c ∷ escaped in_label text
    whole = ap (λ l. l ++ escaped in_label text) is

    by : (cs : List ℕ) → all_scalars cs ≡ true → encode_utf8_all cs ≡ escaped in_label (c ∷ text) → IsUtf8 (c ∷ text)
    by [] s e = let none : [] ≡ c ∷ escaped in_label text = e ∙ whole in absurd cc
    by (d ∷ ds) s e = cases (encode_cases d)
      where
        cases : (encode_utf8 d ≡ d ∷ []) ⊎ AreHigh (encode_utf8 d) → IsUtf8 (c ∷ text)
        cases (inl alone) =
            let split : d ∷ encode_utf8_all ds ≡ c ∷ escaped in_label text = sym (ap (λ l. l ++ encode_utf8_all ds) alone) ∙ e ∙ whole in
            let here : IsUtf8 (c ∷ []) = subst IsUtf8 (alone ∙ ap (λ x. x ∷ []) (first_same d c (encode_utf8_all ds) (escaped in_label text) split)) (one_char d ds s) in
            let others : IsUtf8 (escaped in_label text) = subst IsUtf8 (others_same d c (encode_utf8_all ds) (escaped in_label text) split) (other_chars d ds s) in
            IsUtf8-append (c ∷ []) text here (rec text (omega (arith, few)) others)
        cases (inr high) =
            let front = high_front in_label (encode_utf8 d) (encode_utf8_all ds) (c ∷ text) high e in
            let some : 1 ≤ length (encode_utf8 d) = omega (arith, length-encode d, (len_utf8_bounds d).0) in
            let shorter : length front.0 ≤ k = omega (arith, few, some, ap length front.1, length-append (encode_utf8 d) front.0) in
            subst IsUtf8 (sym front.1) (IsUtf8-append (encode_utf8 d) front.0 (one_char d ds s) (rec front.0 shorter (subst IsUtf8 front.2 (other_chars d ds s))))

unescape : (k : ℕ) (in_label : Bool) → Unescapes k in_label
unescape k in_label [] few utf8 = IsUtf8-nil
unescape zero in_label (c ∷ text) few utf8 = absurd (omega (arith, few))
unescape (suc k) in_label (c ∷ text) few utf8 = by (shape in_label c) (unescape k in_label)
  where
    by : Escapes in_label c ⊎ (escaped_character in_label c ≡ c ∷ []) → Unescapes k in_label → IsUtf8 (c ∷ text)
    by (inl s) rec =
        let whole : IsUtf8 (backslash ∷ s.second ∷ escaped in_label text) = subst (λ (l : List ℕ). IsUtf8 (l ++ escaped in_label text)) s.is utf8 in
        let others = behind_ascii s.second (escaped in_label text) s.low_second (behind_ascii backslash (s.second ∷ escaped in_label text) (omega arith) whole) in
        IsUtf8-append (c ∷ []) text (one_ascii c s.low) (rec text (omega (arith, few)) others)
    by (inr is) rec = plain_first k in_label rec c text few is utf8

-- a text is UTF-8 where its escape is
pub unescaped_utf8 : (in_label : Bool) (text : List ℕ) → IsUtf8 (escaped in_label text) → IsUtf8 text
unescaped_utf8 in_label text utf8 = unescape (length text) in_label text (omega arith) utf8

-- ---- from a text to its escape

-- characters that aren't ASCII stand as they are
high_same : (in_label : Bool) (xs : List ℕ) → AreHigh xs → escaped in_label xs ≡ xs
high_same in_label [] high = refl
high_same in_label (x ∷ xs) high = by (shape in_label x) (high_same in_label xs high.1)
  where
    by : Escapes in_label x ⊎ (escaped_character in_label x ≡ x ∷ []) → escaped in_label xs ≡ xs → escaped in_label (x ∷ xs) ≡ x ∷ xs
    by (inl s) behind = absurd (omega (arith, s.low, high.0))
    by (inr is) behind = λ j. is j ++ behind j

one_escaped : (in_label : Bool) (d : ℕ) (ds : List ℕ) → all_scalars (d ∷ ds) ≡ true → IsUtf8 (escaped in_label (encode_utf8 d))
one_escaped in_label d ds s = by (encode_cases d)
  where
    alone : Escapes in_label d ⊎ (escaped_character in_label d ≡ d ∷ []) → encode_utf8 d ≡ d ∷ [] → IsUtf8 (escaped in_label (d ∷ []))
    alone (inl e) is = subst IsUtf8 (sym (append-nil (escaped_character in_label d) ∙ e.is)) (IsUtf8-append (backslash ∷ []) (e.second ∷ []) (one_ascii backslash (omega arith)) (one_ascii e.second e.low_second))
    alone (inr e) is = subst IsUtf8 (is ∙ sym (append-nil (escaped_character in_label d) ∙ e)) (one_char d ds s)

    by : (encode_utf8 d ≡ d ∷ []) ⊎ AreHigh (encode_utf8 d) → IsUtf8 (escaped in_label (encode_utf8 d))
    by (inl is) = subst (λ l. IsUtf8 (escaped in_label l)) (sym is) (alone (shape in_label d) is)
    by (inr high) = subst IsUtf8 (sym (high_same in_label (encode_utf8 d) high)) (one_char d ds s)

characters_escaped : (in_label : Bool) (cs : List ℕ) → all_scalars cs ≡ true → IsUtf8 (escaped in_label (encode_utf8_all cs))
characters_escaped in_label [] s = IsUtf8-nil
characters_escaped in_label (d ∷ ds) s =
    subst IsUtf8 (sym (flat_map-append (escaped_character in_label) (encode_utf8 d) (encode_utf8_all ds)))
    (IsUtf8-append (escaped in_label (encode_utf8 d)) (escaped in_label (encode_utf8_all ds)) (one_escaped in_label d ds s) (characters_escaped in_label ds (and_parts _ _ s).1))

-- the escape of a text is UTF-8 where the text is
pub escaped_utf8 : (in_label : Bool) (text : List ℕ) → IsUtf8 text → IsUtf8 (escaped in_label text)
escaped_utf8 in_label text utf8 = subst (λ l. IsUtf8 (escaped in_label l)) utf8.1.1 (characters_escaped in_label utf8.0 utf8.1.0)
