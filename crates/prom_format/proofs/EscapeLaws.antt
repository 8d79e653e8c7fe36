-- Escapes are read back in one way: texts that are printed alike are the same.
use Rattle.std.proofs.Common.{◌≡◌, ℕ, Bool, true, false, List, [], ◌∷◌, ◌++◌, refl, sym, ap, ◌∙◌, subst, arith, ◌⊎◌, inl, inr}
use Rattle.std.specs.Prelude.{flat_map, if◌then◌else◌, ◌==◌}
use Rattle.std.specs.List.{AllByRecursion}
use Rattle.std.proofs.lemmas.Bool.{cases_eq, cond-false, ne_eqb}
use Rattle.metrics_core.specs.Characters.{backslash, newline, quote}
use Rattle.prom_format.specs.Printed.{escaped_character}
use Rattle.prom_format.proofs.Plain.{plain_escape}
use Rattle.prom_format.proofs.ReadOnce.{AreTold, NoneIs, words_told, first_same}

-- a character of any kind
abbrev pub IsAny : ℕ → Type 0
IsAny c = Unit {0}

all_any : (text : List ℕ) → AllByRecursion IsAny text
all_any [] = tt
all_any (c ∷ text) = (tt, all_any text)

-- the character that is read first, and what is left
abbrev read_behind : List ℕ → ℕ × List ℕ
read_behind [] = (backslash, [])
read_behind (c ∷ rest) = (if c == 110 then newline else c, rest)

abbrev read_one : List ℕ → ℕ × List ℕ
read_one [] = (0, [])
read_one (c ∷ rest) = if c == backslash then read_behind rest else (c, rest)

read_back : (in_label : Bool) (c : ℕ) (rest : List ℕ) → read_one (escaped_character in_label c ++ rest) ≡ (c, rest)
read_back in_label c rest = by (cases_eq c 92) (cases_eq c 10) (cases_eq c 34)
  where
    quoted : (b : Bool) → read_one (escaped_character b 34 ++ rest) ≡ (34, rest)
    quoted true = refl
    quoted false = refl

    by : (c ≡ 92) ⊎ (c ≡ 92 → ⊥) → (c ≡ 10) ⊎ (c ≡ 10 → ⊥) → (c ≡ 34) ⊎ (c ≡ 34 → ⊥) → read_one (escaped_character in_label c ++ rest) ≡ (c, rest)
    by (inl e) newlines quotes = subst (λ d. read_one (escaped_character in_label d ++ rest) ≡ (d, rest)) (sym e) refl
    by (inr n) (inl e) quotes = subst (λ d. read_one (escaped_character in_label d ++ rest) ≡ (d, rest)) (sym e) refl
    by (inr n) (inr m) (inl e) = subst (λ d. read_one (escaped_character in_label d ++ rest) ≡ (d, rest)) (sym e) (quoted in_label)
    by (inr n) (inr m) (inr k) =
        ap (λ escape. read_one (escape ++ rest)) (plain_escape in_label c (n, m, λ e. absurd (k e)))
        ∙ cond-false (c == backslash) (read_behind rest) (c, rest) (ne_eqb c 92 n)

pub escapes_told : (in_label : Bool) → AreTold IsAny (escaped_character in_label)
escapes_told in_label c d r s hc hd e =
    let read : (c, r) ≡ (d, s) = sym (read_back in_label c r) ∙ ap read_one e ∙ read_back in_label d s in
    (ap (λ p. p.0) read, ap (λ p. p.1) read)

-- no escape begins with a newline, nor in a label value with a quote
pub newline_stops : (in_label : Bool) → NoneIs IsAny (escaped_character in_label) (newline ∷ [])
newline_stops in_label c r s h e =
    let is : c ≡ 10 = ap (λ p. p.0) (sym (read_back in_label c r) ∙ ap read_one e) in
    let first = first_same 92 10 (110 ∷ r) s (subst (λ d. escaped_character in_label d ++ r ≡ 10 ∷ s) is e) in
    omega (arith, first)

pub quote_stops : NoneIs IsAny (escaped_character true) (quote ∷ [])
quote_stops c r s h e =
    let is : c ≡ 34 = ap (λ p. p.0) (sym (read_back true c r) ∙ ap read_one e) in
    let first = first_same 92 34 (34 ∷ r) s (subst (λ d. escaped_character true d ++ r ≡ 34 ∷ s) is e) in
    omega (arith, first)

-- an escaped text up to a newline, and a label value up to a quote
pub escaped_told : (in_label : Bool) (x y r s : List ℕ) → flat_map (escaped_character in_label) x ++ newline ∷ r ≡ flat_map (escaped_character in_label) y ++ newline ∷ s → (x ≡ y) × (r ≡ s)
escaped_told in_label x y r s e =
    words_told IsAny (escaped_character in_label) (newline ∷ []) (escapes_told in_label) (newline_stops in_label) x y r s (all_any x) (all_any y) e

pub quoted_told : (x y r s : List ℕ) → flat_map (escaped_character true) x ++ quote ∷ r ≡ flat_map (escaped_character true) y ++ quote ∷ s → (x ≡ y) × (r ≡ s)
quoted_told x y r s e =
    words_told IsAny (escaped_character true) (quote ∷ []) (escapes_told true) quote_stops x y r s (all_any x) (all_any y) e

pub escape_injective : (in_label : Bool) (x y : List ℕ) → flat_map (escaped_character in_label) x ≡ flat_map (escaped_character in_label) y → x ≡ y
escape_injective in_label x y e = (escaped_told in_label x y [] [] (ap (λ t. t ++ newline ∷ []) e)).0
