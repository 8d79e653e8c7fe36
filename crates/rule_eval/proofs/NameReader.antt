-- Names: what is read is a metric name before a space, and each such name is read.
use Rattle.std.proofs.Common.{◌≡◌, ℕ, Bool, true, false, ◌==◌, List, [], ◌∷◌, ◌++◌, length, take, drop, Some, None, refl, sym, ap, subst, ◌∙◌, arith}
use Rattle.std.specs.Prelude.{IsUtf8}
use Rattle.std.specs.List.{list_all}
use Rattle.std.proofs.lemmas.Bool.{and_parts}
use Rattle.std.proofs.lemmas.Bool.Decides.{nat_tests}
use Rattle.std.proofs.lemmas.List.{take_at, drop_at, take-append-drop}
use Rattle.std.proofs.lemmas.Option.{cond_some, some_pair_parts}
use Rattle.prom_format.specs.Names.{is_name, begins_metric_name, IsMetricName}
use Rattle.drive_script.specs.Reading.{◌>>=◌, word_length}
use Rattle.drive_script.proofs.Fields.{bind_some}
use Rattle.drive_script.proofs.Readers.{IsReader}
use Rattle.drive_script.proofs.Spaced.{WordEnds}
use Rattle.rule_eval.specs.Reading.{name_of, name_at}
use Rattle.rule_eval.proofs.WordBytes.{stands_in_word, IsWord, name_word, word_utf8}

no_space : (c : ℕ) → stands_in_word c ≡ true → (c == 32) ≡ false
no_space c h = grind (arith, nat_tests)

-- a word ends where a space or nothing follows
word_length-append : (word rest : List ℕ) → IsWord word → WordEnds rest → word_length (word ++ rest) ≡ length word
word_length-append [] [] h stop = refl
word_length-append [] (b ∷ rest) h stop = subst (λ c. word_length (c ∷ rest) ≡ 0) (sym stop) refl
word_length-append (c ∷ word) rest h stop =
    let parts = and_parts (stands_in_word c) (list_all stands_in_word word) h in
    rw (no_space c parts.0, word_length-append word rest parts.1 stop) (omega arith)

abbrev pub SpellsName : List ℕ → List ℕ → Type 0
SpellsName name front = IsMetricName name × (front ≡ name)

name_takes : (bytes name rest : List ℕ) → name_at bytes ≡ Some (name, rest) → (front : List ℕ) × SpellsName name front × (bytes ≡ front ++ rest)
unfolding name_at
name_takes bytes name rest e =
    let n = word_length bytes in
    let m = bind_some (name_of (take n bytes)) (λ x. Some (x, drop n bytes)) (name, rest) e in
    let tested = cond_some (is_name begins_metric_name (take n bytes)) (take n bytes) m.0 m.1 in
    let same = some_pair_parts m.0 name (drop n bytes) rest m.2 in
    let is : take n bytes ≡ name = tested.1 ∙ same.0 in
    (take n bytes, (subst IsMetricName is tested.0, is), sym (take-append-drop n bytes) ∙ ap (λ l. take n bytes ++ l) same.1)

name_again : (name front rest : List ℕ) → SpellsName name front → WordEnds rest → name_at (front ++ rest) ≡ Some (name, rest)
unfolding name_at
name_again name front rest h stop =
    let bytes = name ++ rest in
    let count : word_length bytes ≡ length name = word_length-append name rest (name_word name h.0) stop in
    let front_is : take (word_length bytes) bytes ≡ name = ap (λ k. take k bytes) count ∙ take_at name rest (length name) refl in
    let back_is : drop (word_length bytes) bytes ≡ rest = ap (λ k. drop k bytes) count ∙ drop_at name rest (length name) refl in
    let named : is_name begins_metric_name name ≡ true = h.0 in
    ap (λ l. name_at (l ++ rest)) h.1 ∙ (λ j. name_of (front_is j) >>= λ x. Some (x, back_is j)) ∙ rw named refl

pub name_reads : IsReader name_at SpellsName WordEnds
name_reads = record { takes = name_takes; again = name_again }

-- ---- the ways in which a word is read

pub word_named : (bytes : List ℕ) → is_name begins_metric_name (take (word_length bytes) bytes) ≡ true → name_at bytes ≡ Some (take (word_length bytes) bytes, drop (word_length bytes) bytes)
unfolding name_at
word_named bytes h = rw h refl

pub word_unnamed : (bytes : List ℕ) → is_name begins_metric_name (take (word_length bytes) bytes) ≡ false → name_at bytes ≡ None
unfolding name_at
word_unnamed bytes h = rw h refl

-- what is not UTF-8 is no name
pub word_other : (bytes : List ℕ) → ¬ IsUtf8 (take (word_length bytes) bytes) → name_at bytes ≡ None
word_other bytes other = by (is_name begins_metric_name (take (word_length bytes) bytes)) refl
  where
    by : (b : Bool) → is_name begins_metric_name (take (word_length bytes) bytes) ≡ b → name_at bytes ≡ None
    by true e = absurd (other (word_utf8 (take (word_length bytes) bytes) (name_word (take (word_length bytes) bytes) e)))
    by false e = word_unnamed bytes e
