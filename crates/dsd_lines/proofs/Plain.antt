-- The texts of names and tags.
use Rattle.std.proofs.Common.{◌≡◌, ℕ, ◌<◌, Bool, true, false, not, ◌&&◌, List, [], ◌∷◌, length, Some, None, refl, arith}
use Rattle.std.specs.Prelude.{All, IsUtf8, ◌||◌, nat_lt}
use Rattle.std.specs.List.{list_any}
use Rattle.std.specs.Str.{is_utf8}
use Rattle.std.proofs.lemmas.Bool.{and_parts, lt-ltb, ltb-true}
use Rattle.std.proofs.lemmas.List.Elements.{All-nil, All-cons}
use Rattle.std.proofs.lemmas.List.Folds.{list_any_none}
use Rattle.std.proofs.lemmas.Option.{cond_some}
use Rattle.std.proofs.lemmas.Str.{IsUtf8-from_is_utf8, is_utf8-from_IsUtf8}
use Rattle.metrics_core.specs.Characters.{newline, comma, colon}
use Rattle.dsd_lines.specs.Grammar.{IsPlain, bar, ends_name, ends_key, ends_value}
use Rattle.dsd_lines.specs.Reading.{is, plain_of}
use Rattle.dsd_lines.proofs.Joined.{Free}

pub plain_read : (text : List ℕ) → 0 < length text → list_any (is newline) text ≡ false → IsUtf8 text → plain_of text ≡ Some text
plain_read text some none utf8 = rw (lt-ltb 0 (length text) some, none, is_utf8-from_IsUtf8 text utf8) refl

pub plain_refused : (text : List ℕ) → ¬ IsUtf8 text → plain_of text ≡ None
plain_refused text other = by (is_utf8 text) refl
  where
    by : (b : Bool) → is_utf8 text ≡ b → plain_of text ≡ None
    by true is_true = absurd (other (IsUtf8-from_is_utf8 text is_true))
    by false is_false = grind arith

either_false : (a b : Bool) → (a || b) ≡ false → (a ≡ false) × (b ≡ false)
either_false true b e = absurd cc
either_false false b e = (refl, e)

any_none : (p : ℕ → Bool) (text : List ℕ) → list_any p text ≡ false → All (λ c. p c ≡ false) text
any_none p [] e = All-nil (λ c. p c ≡ false)
any_none p (c ∷ text) e =
    let parts = either_false (p c) (list_any p text) e in
    All-cons (λ c. p c ≡ false) c text parts.0 (any_none p text parts.1)

not_false : (b : Bool) → not b ≡ true → b ≡ false
not_false true e = absurd cc
not_false false e = refl

-- what is read is plain, where it has none of the other characters
pub plain_takes : (text read : List ℕ) → plain_of text ≡ Some read → (text ≡ read) × (0 < length text) × IsUtf8 text × Free newline text
plain_takes text read e =
    let tested = cond_some (nat_lt 0 (length text) && is_utf8 text && not (list_any (is newline) text)) text read e in
    let parts = and_parts (nat_lt 0 (length text) && is_utf8 text) (not (list_any (is newline) text)) tested.0 in
    let others = and_parts (nat_lt 0 (length text)) (is_utf8 text) parts.0 in
    (tested.1, ltb-true 0 (length text) others.0, IsUtf8-from_is_utf8 text others.1, any_none (is newline) text (not_false (list_any (is newline) text) parts.1))

pub plain_again : (ends : ℕ → Bool) (text : List ℕ) → ((c : ℕ) → ends c ≡ false → is newline c ≡ false) → IsPlain ends text → plain_of text ≡ Some text
plain_again ends text ended h = plain_read text h.some (list_any_none (is newline) text (λ k d within. ended _ (h.none k d within))) h.utf8

-- ---- the characters that names and tags can't have

pub name_ends : (c : ℕ) → is colon c ≡ false → is bar c ≡ false → is newline c ≡ false → ends_name c ≡ false
name_ends c x y z = rw (x, y, z) refl

pub key_ends : (c : ℕ) → is comma c ≡ false → is colon c ≡ false → is bar c ≡ false → is newline c ≡ false → ends_key c ≡ false
key_ends c w x y z = rw (w, x, y, z) refl

pub value_ends : (c : ℕ) → is comma c ≡ false → is bar c ≡ false → is newline c ≡ false → ends_value c ≡ false
value_ends c x y z = rw (x, y, z) refl

pub name_apart : (c : ℕ) → ends_name c ≡ false → (is colon c ≡ false) × (is bar c ≡ false) × (is newline c ≡ false)
name_apart c e =
    let last = either_false (is colon c || is bar c) (is newline c) e in
    let first = either_false (is colon c) (is bar c) last.0 in
    (first.0, first.1, last.1)

pub key_apart : (c : ℕ) → ends_key c ≡ false → (is comma c ≡ false) × (is colon c ≡ false) × (is bar c ≡ false) × (is newline c ≡ false)
key_apart c e =
    let last = either_false (is comma c || is colon c || is bar c) (is newline c) e in
    let third = either_false (is comma c || is colon c) (is bar c) last.0 in
    let first = either_false (is comma c) (is colon c) third.0 in
    (first.0, first.1, third.1, last.1)

pub value_apart : (c : ℕ) → ends_value c ≡ false → (is comma c ≡ false) × (is bar c ≡ false) × (is newline c ≡ false)
value_apart c e =
    let last = either_false (is comma c || is bar c) (is newline c) e in
    let first = either_false (is comma c) (is bar c) last.0 in
    (first.0, first.1, last.1)
