-- Texts with escapes at the front of some bytes: what was read of one is its front.
use Rattle.std.proofs.Common.{◌≡◌, ℕ, Bool, true, false, ◌&&◌, ◌==◌, List, [], ◌∷◌, ◌++◌, length, ◌≤◌, refl, sym, ap, subst, ◌∙◌, append_assoc, arith, ◌⊎◌, inl, inr}
use Rattle.std.specs.Prelude.{IsUtf8, string_bytes, Result, Ok, Err, IfOk, IsOk, MatchOption}
use Rattle.std.specs.declared.vec.Vec.{Vec}
use Rattle.std.specs.declared.string.String.{String}
use Rattle.std.specs.declared.alloc.Global.{Global}
use Rattle.std.specs.String.{string_vec}
use Rattle.std.specs.Result.{result_ok}
use Rattle.std.proofs.lemmas.List.{append-nil}
use Rattle.std.proofs.lemmas.Str.{IsUtf8-string_bytes}
use Rattle.std.proofs.lemmas.Bool.{false≢true}
use Rattle.metrics_core.specs.Characters.{newline, quote, backslash}
use Rattle.prom_format.specs.Printed.{escaped_character}
use Rattle.prom_format.proofs.EscapeLaws.{escapes_told}
use Rattle.page_relay.specs.Reading.{escaped, NoCharacter, TextEnds, NoText, TakesText}

-- how a character is escaped: by a backslash and another one, or it stands as it is
pub record StandsPlain (in_label : Bool) (c : ℕ) : Type 0 where
  pub is : escaped_character in_label c ≡ c ∷ []
  pub no_backslash : (c == backslash) ≡ false
  pub no_newline : (c == newline) ≡ false
  pub no_quote : (in_label && c == quote) ≡ false

pub escape_shape : (in_label : Bool) (c : ℕ) → ((second : ℕ) × (escaped_character in_label c ≡ backslash ∷ second ∷ [])) ⊎ StandsPlain in_label c
escape_shape in_label c = by (c == backslash) (c == newline) (in_label && c == quote) refl refl refl
  where
    by : (b n q : Bool) → (c == backslash) ≡ b → (c == newline) ≡ n → (in_label && c == quote) ≡ q → ((second : ℕ) × (escaped_character in_label c ≡ backslash ∷ second ∷ [])) ⊎ StandsPlain in_label c
    by true n q is_b is_n is_q = inl (backslash, rw is_b refl)
    by false true q is_b is_n is_q = inl (110, rw (is_b, is_n) refl)
    by false false true is_b is_n is_q = inl (quote, rw (is_b, is_n, is_q) refl)
    by false false false is_b is_n is_q = inr (record { is = rw (is_b, is_n, is_q) refl; no_backslash = is_b; no_newline = is_n; no_quote = is_q })

and_never : (b : Bool) → (b && false) ≡ true → ⊥
and_never true e = false≢true e
and_never false e = false≢true e

-- no escaped character begins where a text ends
no_end : (in_label : Bool) (c : ℕ) (rest : List ℕ) → TextEnds in_label (escaped_character in_label c ++ rest) → ⊥
no_end in_label c rest ends = elim (escape_shape in_label c) [
  | inl s ↦ and_never in_label (subst (λ (l : List ℕ). TextEnds in_label (l ++ rest)) s.1 ends)
  | inr p ↦ false≢true (sym p.no_quote ∙ subst (λ (l : List ℕ). TextEnds in_label (l ++ rest)) p.is ends)
]

-- what was read of a text is its front
pub front_told : (in_label : Bool) (done text x rest : List ℕ) → TextEnds in_label rest → escaped in_label done ++ x ≡ escaped in_label text ++ rest
    → (more : List ℕ) × (text ≡ done ++ more) × (x ≡ escaped in_label more ++ rest)
front_told in_label [] text x rest ends e = (text, refl, e)
front_told in_label (d ∷ done) [] x rest ends e =
    absurd (no_end in_label d (escaped in_label done ++ x) (subst (TextEnds in_label) (sym e ∙ append_assoc (escaped_character in_label d) (escaped in_label done) x) ends))
front_told in_label (d ∷ done) (t ∷ text) x rest ends e =
    let whole = sym (append_assoc (escaped_character in_label d) (escaped in_label done) x) ∙ e ∙ append_assoc (escaped_character in_label t) (escaped in_label text) rest in
    let here = escapes_told in_label d t (escaped in_label done ++ x) (escaped in_label text ++ rest) tt tt whole in
    let behind = front_told in_label done text x rest ends here.1 in
    (behind.0, (λ j. sym here.0 j ∷ behind.1 j), behind.2)

-- where a text stands, the bytes end it or begin with one of its characters
pub at_character : (in_label : Bool) (more x rest : List ℕ) → TextEnds in_label rest → x ≡ escaped in_label more ++ rest → (¬ TextEnds in_label x) → NoCharacter in_label x → ⊥
at_character in_label [] x rest ends e not_end none = not_end (subst (TextEnds in_label) (sym e) ends)
at_character in_label (m ∷ more) x rest ends e not_end none = none m (escaped in_label more ++ rest) (e ∙ append_assoc (escaped_character in_label m) (escaped in_label more) rest)

-- where a text stands and the bytes end it, nothing of it is left
pub at_end : (in_label : Bool) (more x rest : List ℕ) → TextEnds in_label x → x ≡ escaped in_label more ++ rest → more ≡ []
at_end in_label [] x rest ends e = refl
at_end in_label (m ∷ more) x rest ends e =
    absurd (no_end in_label m (escaped in_label more ++ rest) (subst (TextEnds in_label) (e ∙ append_assoc (escaped_character in_label m) (escaped in_label more) rest) ends))

-- ---- reading on

pub escaped_some : (in_label : Bool) (c : ℕ) → 1 ≤ length (escaped_character in_label c)
escaped_some in_label c = elim (escape_shape in_label c) [
  | inl s ↦ omega (arith, ap length s.1)
  | inr p ↦ omega (arith, ap length p.is)
]

pub escaped_push : (in_label : Bool) (text : List ℕ) (c : ℕ) (x : List ℕ) → escaped in_label (text ++ c ∷ []) ++ x ≡ escaped in_label text ++ (escaped_character in_label c ++ x)
escaped_push in_label [] c x = append_assoc (escaped_character in_label c) [] x
escaped_push in_label (d ∷ text) c x =
    append_assoc (escaped_character in_label d) (escaped in_label (text ++ c ∷ [])) x
    ∙ ap (λ l. escaped_character in_label d ++ l) (escaped_push in_label text c x)
    ∙ sym (append_assoc (escaped_character in_label d) (escaped in_label text) (escaped_character in_label c ++ x))

-- where no character stands and the bytes don't end a text, no text stands
pub no_text : (in_label : Bool) (start done x : List ℕ) → start ≡ escaped in_label done ++ x → (¬ TextEnds in_label x) → NoCharacter in_label x → NoText in_label start
no_text in_label start done x split not_end none text rest utf8 ends e =
    let told = front_told in_label done text x rest ends (sym split ∙ e) in
    at_character in_label told.0 x rest ends told.2 not_end none

-- where two texts stand up to their ends, they are the same
pub text_told : (in_label : Bool) (done text x rest : List ℕ) → TextEnds in_label x → TextEnds in_label rest → escaped in_label done ++ x ≡ escaped in_label text ++ rest → (text ≡ done) × (x ≡ rest)
text_told in_label done text x rest ends_x ends e =
    let told = front_told in_label done text x rest ends e in
    let none = at_end in_label told.0 x rest ends_x told.2 in
    (told.1 ∙ ap (λ l. done ++ l) none ∙ append-nil done, told.2 ∙ ap (λ l. escaped in_label l ++ rest) none)

-- what `from_utf8` says of the bytes of a text
pub text_given : {E : Type 0} (in_label : Bool) (start rest : List ℕ) (text : Vec ℕ Global) (r : Result (String Global) E) → start ≡ escaped in_label text.items ++ rest → TextEnds in_label rest
    → IfOk r (λ t. string_vec t ≡ text) → (IsUtf8 text.items → IsOk r) → MatchOption (result_ok r) (NoText in_label start) (λ t. TakesText in_label start (string_bytes t) rest)
text_given in_label start rest text (Ok t) split ends same succeeds =
    let items : string_bytes t ≡ text.items = ap (λ (v : Vec ℕ Global). v.items) same in
    record { utf8 = IsUtf8-string_bytes t; ends = ends; split = split ∙ ap (λ l. escaped in_label l ++ rest) (sym items) }
text_given in_label start rest text (Err e) split ends same succeeds = λ other behind utf8 ends_too f.
    let told = text_told in_label text.items other rest behind ends ends_too (sym split ∙ f) in
    let ok = succeeds (subst IsUtf8 told.0 utf8) in cc
