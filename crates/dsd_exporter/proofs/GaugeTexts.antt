-- The lines that are kept of gauges: one more, another at a place, and the one at a place.
use Rattle.std.proofs.Common.{◌≡◌, ℕ, ℤ, zero, suc, ◌<◌, true, List, [], ◌∷◌, ◌++◌, length, get_or, Option, Some, refl, sym, subst, arith}
use Rattle.std.specs.Prelude.{slice_get, slice_set, codes, nat_lt, IfSome, Result, Ok, Err, OnOk, OnErr}
use Rattle.std.proofs.lemmas.Bool.Decides.{nat_tests}
use Rattle.std.proofs.lemmas.Option.{slice_get_read}
use Rattle.metrics_core.specs.Keys.{KeyText, LabelText}
use Rattle.metrics_core.specs.declared.numbers.Fixed.{Fixed as FixedOf}
use Rattle.dsd_writer.specs.Writers.{IsGaugeLine, item_of}
use Rattle.dsd_exporter.specs.State.{prefix_before}
use Rattle.dsd_exporter.specs.GaugeTexts.{AreLines, IsLineOf, gauge_text}
use Rattle.dsd_exporter.specs.declared.gauge_texts.GaugeLine.{GaugeLine}

lt-from : (a b : ℕ) → nat_lt a b ≡ true → a < b
lt-from a b h = grind (arith, nat_tests)

module _ (prefix : Option (List ℕ)) (tags : List LabelText) where
  -- with one more key
  pub lines-key : (keys : List KeyText) (lines : List GaugeLine) (key : KeyText) → AreLines prefix tags keys lines → AreLines prefix tags (keys ++ key ∷ []) lines
  lines-key keys [] key are = tt
  lines-key [] (line ∷ lines) key are = absurd are
  lines-key (k ∷ keys) (line ∷ lines) key are = (are.0, lines-key keys lines key are.1)

  -- with one more line, of the next key
  pub lines-more : (keys : List KeyText) (lines : List GaugeLine) (key : KeyText) (line : GaugeLine) → AreLines prefix tags keys lines → slice_get keys (length lines) ≡ Some key → IsLineOf prefix tags key line
      → AreLines prefix tags keys (lines ++ line ∷ [])
  lines-more [] [] key line are at is = cc
  lines-more (k ∷ keys) [] key line are at is = let here : k ≡ key = cc at in (subst (λ x. IsLineOf prefix tags x line) (sym here) is, tt)
  lines-more [] (l ∷ lines) key line are at is = absurd are
  lines-more (k ∷ keys) (l ∷ lines) key line are at is = (are.0, lines-more keys lines key line are.1 at is)

  -- with another line at a place
  pub lines-set : (keys : List KeyText) (lines : List GaugeLine) (place : ℕ) (key : KeyText) (line : GaugeLine) → AreLines prefix tags keys lines → slice_get keys place ≡ Some key → IsLineOf prefix tags key line
      → AreLines prefix tags keys (slice_set lines place line)
  lines-set keys [] place key line are at is = tt
  lines-set [] (l ∷ lines) place key line are at is = absurd are
  lines-set (k ∷ keys) (l ∷ lines) zero key line are at is = let here : k ≡ key = cc at in (subst (λ x. IsLineOf prefix tags x line) (sym here) is, are.1)
  lines-set (k ∷ keys) (l ∷ lines) (suc place) key line are at is = (are.0, lines-set keys lines place key line are.1 at is)

  -- a line that stands at a place is that of a key
  pub record IsOfKey (keys : List KeyText) (place : ℕ) (line : GaugeLine) : Type 0 where
    pub key : KeyText
    pub at : slice_get keys place ≡ Some key
    pub is : IsLineOf prefix tags key line

  pub line_at : (keys : List KeyText) (lines : List GaugeLine) (place : ℕ) (line : GaugeLine) → AreLines prefix tags keys lines → slice_get lines place ≡ Some line → IsOfKey keys place line
  line_at keys [] place line are at = cc
  line_at [] (l ∷ lines) place line are at = absurd are
  line_at (k ∷ keys) (l ∷ lines) zero line are at =
      let here : l ≡ line = cc at in record { key = k; at = refl; is = subst (IsLineOf prefix tags k) here are.0 }
  line_at (k ∷ keys) (l ∷ lines) (suc place) line are at =
      let rest = line_at keys lines place line are.1 at in record { key = rest.key; at = rest.at; is = rest.is }

  -- a line that is changed at a place and stays that of its key
  pub lines-changed : (keys : List KeyText) (lines : List GaugeLine) (place : ℕ) (key : KeyText) (old new : GaugeLine) → AreLines prefix tags keys lines → slice_get keys place ≡ Some key → slice_get lines place ≡ Some old
      → (IsLineOf prefix tags key old → IsLineOf prefix tags key new) → AreLines prefix tags keys (slice_set lines place new)
  lines-changed keys lines place key old new are at here change =
      let held = line_at keys lines place old are here in
      let same : held.key ≡ key = cc (held.at, at) in
      lines-set keys lines place key new are at (change (subst (λ k. IsLineOf prefix tags k old) same held.is))

  -- keys to which one was added, or none
  pub lines-pushed : {T E : Type 0} (result : Result T E) (keys new : List KeyText) (lines : List GaugeLine) (key : KeyText) → OnOk result (new ≡ keys ++ key ∷ []) → OnErr result (new ≡ keys) → AreLines prefix tags keys lines
      → AreLines prefix tags new lines
  lines-pushed (Ok x) keys new lines key pushed refused are = subst (λ list. AreLines prefix tags list lines) (sym pushed) (lines-key keys lines key are)
  lines-pushed (Err e) keys new lines key pushed refused are = subst (λ list. AreLines prefix tags list lines) (sym refused) are

  -- the text of a line that stands at a place is that of a key with its value
  pub record HasText (keys : List KeyText) (place : ℕ) (text : List ℕ) (value : FixedOf) : Type 0 where
    pub key : KeyText
    pub at : slice_get keys place ≡ Some key
    pub is : text ≡ gauge_text prefix tags key value.0

  pub text_at : (keys : List KeyText) (lines read : List GaugeLine) (place : ℕ) (line : GaugeLine) (value : FixedOf) → AreLines prefix tags keys lines → read ≡ lines
      → true ≡ nat_lt place (length read) → line ≡ get_or read place line → line.value ≡ Some value → HasText keys place line.text.items value
  text_at keys lines read place line value are same within is held =
      let inside : place < length read = lt-from place (length read) (sym within) in
      let here : slice_get lines place ≡ Some line = subst (λ ls. slice_get ls place ≡ Some line) same (slice_get_read read (length read) place line refl inside is) in
      let own = line_at keys lines place line are here in
      record {
        key = own.key;
        at = own.at;
        is = subst (λ v. IfSome v (λ value. line.text.items ≡ gauge_text prefix tags own.key value.0)) held own.is;
      }

-- the line of a gauge is one
pub a_gauge_line : (prefix : Option (List ℕ)) (tags : List LabelText) (key : KeyText) (value : ℤ) (line : List ℕ) → line ≡ gauge_text prefix tags key value → IsGaugeLine line
a_gauge_line prefix tags key value line is = record { item = item_of (codes "g") (prefix_before prefix key.name) key tags; value = value; type = refl; is = is }
