-- Words that ask for a text ask for no other, and are no form of words that a run may be called with.
use Rattle.std.proofs.Common.{◌≡◌, ℕ, ◌<◌, ◌≤◌, inl, inr, List, [], ◌∷◌, length, get_or, false, refl, sym, ap, subst, ◌∙◌, arith}
use Rattle.std.specs.Borrow.{Bor}
use Rattle.std.specs.Prelude.{Option, Some, None, MatchOption, bytes_eq, codes}
use Rattle.metrics_core.specs.Characters.{line}
use Rattle.metrics_core.specs.Outside.{GrewBy, GrewByPrefix}
use Rattle.drive_script.specs.Faults.{fault_text}
use Rattle.drive_script.specs.declared.faults.DriveFault.TheVariants as faults
use Rattle.program_words.specs.Answers.{IsSaidText, texts_of}
use Rattle.program_words.specs.Commands.{IsForm}
use Rattle.program_words.specs.Devices.{SinkRun, SinkFailed}
use Rattle.program_words.proofs.CommandSteps.{apart, begin_once}
use Rattle.program_words.specs.Words.{AsksFor, AsksForWord, IsTold}

only_word : (words : List (List ℕ)) (one other : List ℕ) → words ≡ one ∷ [] → words ≡ other ∷ [] → one ≡ other
only_word words one other is also = same (sym is ∙ also)
  where
    same : one ∷ [] ≡ other ∷ [] → one ≡ other
    same e = cc

word_once : (word one other : List ℕ) → AsksForWord word one → AsksForWord word other → one ≡ other
word_once word one other (inl (is, x)) (inl (also, y)) = x ∙ sym y
word_once word one other (inl (is, x)) (inr (inl (also, y))) = x ∙ sym y
word_once word one other (inl (is, x)) (inr (inr (also, y))) = absurd (apart (codes "--help") (codes "--version") refl (sym is ∙ also))
word_once word one other (inr (inl (is, x))) (inl (also, y)) = x ∙ sym y
word_once word one other (inr (inl (is, x))) (inr (inl (also, y))) = x ∙ sym y
word_once word one other (inr (inl (is, x))) (inr (inr (also, y))) = absurd (apart (codes "-h") (codes "--version") refl (sym is ∙ also))
word_once word one other (inr (inr (is, x))) (inl (also, y)) = absurd (apart (codes "--version") (codes "--help") refl (sym is ∙ also))
word_once word one other (inr (inr (is, x))) (inr (inl (also, y))) = absurd (apart (codes "--version") (codes "-h") refl (sym is ∙ also))
word_once word one other (inr (inr (is, x))) (inr (inr (also, y))) = x ∙ sym y

pub asked_once : (words : List (List ℕ)) (one other : List ℕ) → AsksFor words one → AsksFor words other → one ≡ other
asked_once words one other (word, is, asks) (also_word, also, also_asks) =
    word_once word one other asks (subst (λ w. AsksForWord w other) (only_word words also_word word also is) also_asks)

-- a word that asks for a text is not this one
other_word : (words : List (List ℕ)) (word text name : List ℕ) (behind : List (List ℕ)) → bytes_eq (codes "--help") name ≡ false → bytes_eq (codes "-h") name ≡ false
    → bytes_eq (codes "--version") name ≡ false → words ≡ word ∷ [] → AsksForWord word text → words ≡ name ∷ behind → ⊥
other_word words word text name behind help short version is (inl (w, t)) named = begin_once words (codes "--help") name [] behind help (is ∙ ap (λ x. x ∷ []) w) named
other_word words word text name behind help short version is (inr (inl (w, t))) named = begin_once words (codes "-h") name [] behind short (is ∙ ap (λ x. x ∷ []) w) named
other_word words word text name behind help short version is (inr (inr (w, t))) named = begin_once words (codes "--version") name [] behind version (is ∙ ap (λ x. x ∷ []) w) named

pub no_form : (words : List (List ℕ)) (text : List ℕ) → AsksFor words text → IsForm words → ⊥
no_form words text (word, is, asks) (inl (to, (behind, drives, at))) = other_word words word text (codes "drive") behind refl refl refl is asks drives
no_form words text (word, is, asks) (inr (inl (count, networks, (number, rest, serves, at, are)))) = other_word words word text (codes "serve") (number ∷ rest) refl refl refl is asks serves
no_form words text (word, is, asks) (inr (inr (inl (count, (number, benches, at))))) = other_word words word text (codes "bench") (number ∷ []) refl refl refl is asks benches
no_form words text (word, is, asks) (inr (inr (inr (inl merges)))) = other_word words word text (codes "merge") [] refl refl refl is asks merges
no_form words text (word, is, asks) (inr (inr (inr (inr (inl receives))))) = other_word words word text (codes "receive") [] refl refl refl is asks receives
no_form words text (word, is, asks) (inr (inr (inr (inr (inr rules))))) = other_word words word text (codes "rules") [] refl refl refl is asks rules

-- what one word asks for is what the words ask for
one_word_asks : (word : List ℕ) (answer : Option (Bor (List ℕ))) → MatchOption answer ((text : List ℕ) → ¬ AsksForWord word text) (λ text. AsksForWord word text.now)
    → MatchOption answer ((text : List ℕ) → ¬ AsksFor (word ∷ []) text) (λ text. AsksFor (word ∷ []) text.now)
one_word_asks word None none = λ text (asked, is, asks). none text (subst (λ w. AsksForWord w text) (only_word (word ∷ []) asked word is refl) asks)
one_word_asks word (Some text) asks = (word, refl, asks)

pub asked_by_word : (words : List (Bor (List ℕ))) (d : Bor (List ℕ)) (answer : Option (Bor (List ℕ))) → 1 ≤ length words → length words < 2
    → MatchOption answer ((text : List ℕ) → ¬ AsksForWord (get_or words 0 d).now text) (λ text. AsksForWord (get_or words 0 d).now text.now)
    → MatchOption answer ((text : List ℕ) → ¬ AsksFor (texts_of words) text) (λ text. AsksFor (texts_of words) text.now)
asked_by_word [] d answer some few asks = absurd (omega (arith, some))
asked_by_word (word ∷ []) d answer some few asks = one_word_asks word.now answer asks
asked_by_word (word ∷ other ∷ words) d answer some few asks = absurd (omega (arith, few))

-- ---- telling a text

pub told_whole : (text : List ℕ) (out err : SinkRun) → GrewBy out.written out.written' text → err.written' ≡ err.written → IsTold text out err 0
told_whole text out err grew quiet = record {
  whole = λ e. grew;
  prefix = λ e. absurd (omega (arith, e));
  only = inl refl;
  said = inl (refl, quiet);
}

pub told_in_part : (text : List ℕ) (out err : SinkRun) → SinkFailed out → GrewByPrefix out.written out.written' text
    → IsSaidText (SinkFailed err) err.written err.written' (line (fault_text faults.WriteFault)) → IsTold text out err 7
told_in_part text out err failed grew said = record {
  whole = λ e. absurd (omega (arith, e));
  prefix = λ e. (failed, grew);
  only = inr refl;
  said = inr (refl, said);
}
