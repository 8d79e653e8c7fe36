-- Keys: what is read are texts, each behind a space, up to where no other begins.
use Rattle.std.proofs.Common.{◌≡◌, ℕ, zero, suc, ◌<◌, ◌≤◌, Bool, true, false, List, [], ◌∷◌, ◌++◌, map, length, Option, Some, None, refl, sym, ap, subst, ◌∙◌, append_assoc, arith}
use Rattle.std.specs.Prelude.{codes, IsUtf8, All, if◌then◌else◌}
use Rattle.std.proofs.lemmas.List.{append-nil, length-append}
use Rattle.std.proofs.lemmas.List.Elements.{All-nil, All-cons, All-head, All-tail}
use Rattle.std.proofs.lemmas.Option.{some_pair_parts}
use Rattle.drive_script.specs.Words.{quoted}
use Rattle.drive_script.specs.Reading.{◌>>=◌, after, text_at, and_then}
use Rattle.drive_script.proofs.Fields.{bind_some}
use Rattle.drive_script.proofs.Readers.{IsReader, Anywhere, SpellsAfter, after_reads}
use Rattle.drive_script.proofs.Spaced.{nothing_before, one_more, item_shorter}
use Rattle.drive_script.proofs.TextFields.{SpellsText, text_reads}
use Rattle.drive_script.proofs.HeaderForms.{behind_spaces}
use Rattle.rule_eval.specs.Reading.{begins_text, some_texts_at, keys_at}

-- no text begins here
abbrev pub NoText : List ℕ → Type 0
NoText rest = begins_text rest ≡ false

abbrev pub keys_text : List (List ℕ) → List ℕ
keys_text keys = behind_spaces (map quoted keys)

abbrev pub SpellsKeys : List (List ℕ) → List ℕ → Type 0
SpellsKeys keys front = All IsUtf8 keys × (front ≡ keys_text keys)

abbrev Texts : Type 0
Texts = List (List ℕ)

-- the first text and those behind it
abbrev first_then : ℕ → List ℕ × List ℕ → Option (Texts × List ℕ)
first_then most first = some_texts_at most first.1 >>= λ others. Some (first.0 ∷ others.0, others.1)

abbrev with_rest : Texts → List ℕ → Option (Texts × List ℕ)
with_rest texts rest = Some (texts, rest)

spaced_reads : IsReader (after (codes " ") text_at) (SpellsAfter (codes " ") SpellsText) Anywhere
spaced_reads = after_reads (codes " ") text_at SpellsText Anywhere text_reads

-- ---- what is read

abbrev Taken : List ℕ → Texts → List ℕ → Type 0
Taken bytes keys rest = (front : List ℕ) × SpellsKeys keys front × (bytes ≡ front ++ rest)

none_taken : (bytes : List ℕ) (keys : Texts) (rest : List ℕ) → with_rest [] bytes ≡ Some (keys, rest) → Taken bytes keys rest
none_taken bytes keys rest e =
    let same = some_pair_parts [] keys bytes rest e in
    subst (λ k. Taken bytes k rest) same.0 ([], (All-nil IsUtf8, refl), same.1)

one_taken : (bytes key : List ℕ) (keys : Texts) (middle rest : List ℕ) → (front : List ℕ) × SpellsAfter (codes " ") SpellsText key front × (bytes ≡ front ++ middle) → Taken middle keys rest → Taken bytes (key ∷ keys) rest
one_taken bytes key keys middle rest (f, (word, spelled, behind_space), split) (g, others, more) = (
  f ++ g,
  (All-cons IsUtf8 key keys spelled.0 others.0, (λ j. (behind_space ∙ ap (λ w. codes " " ++ w) spelled.1) j ++ others.1 j) ∙ append_assoc (codes " ") (quoted key) (keys_text keys)),
  split ∙ ap (λ l. f ++ l) more ∙ sym (append_assoc f g rest),
)

texts_take : (most : ℕ) (bytes : List ℕ) (keys : Texts) (rest : List ℕ) → some_texts_at most bytes ≡ Some (keys, rest) → Taken bytes keys rest
texts_take zero bytes keys rest e = by (begins_text bytes) e
  where
    by : (b : Bool) → (if b then None else with_rest [] bytes) ≡ Some (keys, rest) → Taken bytes keys rest
    by true f = absurd cc
    by false f = none_taken bytes keys rest f
texts_take (suc most) bytes keys rest e = by (begins_text bytes) e (texts_take most)
  where
    by : (b : Bool) → (if b then (after (codes " ") text_at bytes >>= first_then most) else with_rest [] bytes) ≡ Some (keys, rest)
        → ((bytes : List ℕ) (keys : Texts) (rest : List ℕ) → some_texts_at most bytes ≡ Some (keys, rest) → Taken bytes keys rest) → Taken bytes keys rest
    by true f take_others =
        let m = bind_some (after (codes " ") text_at bytes) (first_then most) (keys, rest) f in
        let k = bind_some (some_texts_at most m.0.1) (λ others. Some (m.0.0 ∷ others.0, others.1)) (keys, rest) m.2 in
        let same = some_pair_parts (m.0.0 ∷ k.0.0) keys k.0.1 rest k.2 in
        let taken = one_taken bytes m.0.0 k.0.0 m.0.1 k.0.1 (spaced_reads.takes bytes m.0.0 m.0.1 m.1) (take_others m.0.1 k.0.0 k.0.1 k.1) in
        subst (λ l. Taken bytes keys l) same.1 (subst (λ l. Taken bytes l k.0.1) same.0 taken)
    by false f take_others = none_taken bytes keys rest f

-- ---- what is spelled

texts_again : (most : ℕ) (keys : Texts) (rest : List ℕ) → All IsUtf8 keys → NoText rest → length (keys_text keys) ≤ most → some_texts_at most (keys_text keys ++ rest) ≡ Some (keys, rest)
texts_again zero [] rest utf8 stop few = rw stop refl
texts_again (suc most) [] rest utf8 stop few = rw stop refl
texts_again zero (key ∷ keys) rest utf8 stop few = absurd (omega (arith, few))
texts_again (suc most) (key ∷ keys) rest utf8 stop few =
    let behind_key = keys_text keys ++ rest in
    let split : keys_text (key ∷ keys) ++ rest ≡ (codes " " ++ quoted key) ++ behind_key = simp append_assoc in
    let shorter : length (keys_text keys) ≤ most = omega (arith, few, length-append (quoted key) (keys_text keys)) in
    let first = spaced_reads.again key (codes " " ++ quoted key) behind_key (quoted key, (All-head IsUtf8 key keys utf8, refl), refl) tt in
    let others = texts_again most keys rest (All-tail IsUtf8 key keys utf8) stop shorter in
    ap (some_texts_at (suc most)) split ∙ ap (λ o. o >>= first_then most) first ∙ rw others refl

pub keys_read : IsReader keys_at SpellsKeys NoText
unfolding keys_at
keys_read = record {
  takes = λ bytes keys rest e. texts_take (length bytes) bytes keys rest e;
  again = λ keys front rest h stop.
      ap (λ l. keys_at (l ++ rest)) h.1 ∙ texts_again (length (keys_text keys ++ rest)) keys rest h.0 stop (omega (arith, length-append (keys_text keys) rest));
}

-- ---- one after another

-- so much was read, and the rest is read behind it
pub record KeysLeft (start : List ℕ) (done : List (List ℕ)) (rest : List ℕ) : Type 0 where
  most : ℕ
  enough : length rest ≤ most
  all : keys_at start ≡ and_then done (some_texts_at most rest)

pub keys_begin : (start : List ℕ) → KeysLeft start [] start
unfolding keys_at
keys_begin start = record { most = length start; enough = omega arith; all = nothing_before (some_texts_at (length start) start) }

pub key_shorter : (rest key left : List ℕ) → after (codes " ") text_at rest ≡ Some (key, left) → length left < length rest
key_shorter rest key left found = item_shorter text_at SpellsText Anywhere text_reads rest key left found

pub keys_end : (start : List ℕ) (done : List (List ℕ)) (rest : List ℕ) → begins_text rest ≡ false → KeysLeft start done rest → keys_at start ≡ Some (done, rest)
keys_end start done rest stop h = h.all ∙ by h.most
  where
    by : (most : ℕ) → and_then done (some_texts_at most rest) ≡ Some (done, rest)
    by zero = rw stop (ap (λ l. with_rest l rest) (append-nil done))
    by (suc most) = rw stop (ap (λ l. with_rest l rest) (append-nil done))

pub bad_key : (start : List ℕ) (done : List (List ℕ)) (rest : List ℕ) → begins_text rest ≡ true → after (codes " ") text_at rest ≡ None → KeysLeft start done rest → keys_at start ≡ None
bad_key start done rest more none h = h.all ∙ by h.most
  where
    by : (most : ℕ) → and_then done (some_texts_at most rest) ≡ None
    by zero = rw more refl
    by (suc most) = rw (more, none) refl

pub next_key : (start : List ℕ) (done : List (List ℕ)) (rest key left : List ℕ) → begins_text rest ≡ true → after (codes " ") text_at rest ≡ Some (key, left) → KeysLeft start done rest → KeysLeft start (done ++ key ∷ []) left
next_key start done rest key left more found h = by h.most h.enough h.all
  where
    by : (most : ℕ) → length rest ≤ most → keys_at start ≡ and_then done (some_texts_at most rest) → KeysLeft start (done ++ key ∷ []) left
    by zero few e = absurd (omega (arith, few, key_shorter rest key left found))
    by (suc most) few e = record {
      most = most;
      enough = omega (arith, few, key_shorter rest key left found);
      all = e ∙ rw (more, found) (one_more done key (some_texts_at most left));
    }
