-- What was read so far, line after line.
use Rattle.std.proofs.Common.{◌≡◌, ◌≢◌, ℕ, ◌+◌, ◌<◌, ◌≤◌, List, [], ◌∷◌, ◌++◌, length, refl, sym, ap, subst, ◌∙◌, append_assoc, arith, ◌⊎◌, inl, inr}
use Rattle.std.specs.Prelude.{flat_map, IsUtf8, Option, Some, None, Result, Ok, Err, IfOk, MatchOption}
use Rattle.std.proofs.lemmas.List.{append-nil, length_push}
use Rattle.metrics_core.specs.Characters.{line}
use Rattle.prom_format.specs.Pages.{Family, page_text}
use Rattle.page_relay.specs.Streams.{IsStream, BeginsStream, ended_lines, IsFirstBadLine}
use Rattle.page_relay.specs.Fitting.{Start, Fits, FitsBetween, SoFar, place_between, place_of, place_behind_all, text_so_far, IsSound, TakesLine}
use Rattle.page_relay.specs.declared.progress.PagesSoFar.{PagesSoFar}
use Rattle.page_relay.proofs.Streams.{flat_append, place_append, pages_stream}
use Rattle.page_relay.proofs.Growing.{begins_so_far}
use Rattle.page_relay.proofs.BadLines.{first_bad, ends_badly}

-- the lines so far are what was read, and the rest has the others
pub record ReadSoFar (bytes rest : List ℕ) (count : ℕ) (so : SoFar) : Type 0 where
  pub done : List (List ℕ)
  pub ended : ended_lines bytes ≡ done ++ ended_lines rest
  pub split : bytes ≡ flat_map line done ++ rest
  pub count_is : count ≡ length done + 1
  pub within : count + length rest ≤ length bytes + 1
  pub sound : IsSound so
  pub text : text_so_far so ≡ flat_map line done
  pub place : place_of so ≡ place_behind_all Start done

pub read_begins : (bytes : List ℕ) (so : SoFar) → IsSound so → text_so_far so ≡ [] → place_of so ≡ Start → ReadSoFar bytes bytes 1 so
read_begins bytes so sound text place = record {
  done = [];
  ended = refl;
  split = refl;
  count_is = refl;
  within = omega arith;
  sound = sound;
  text = text;
  place = place;
}

flat_last : (done : List (List ℕ)) (text : List ℕ) → flat_map line (done ++ text ∷ []) ≡ flat_map line done ++ line text
flat_last done text = flat_append done (text ∷ []) ∙ ap (λ l. flat_map line done ++ l) (append-nil (line text))

pub read_on : (bytes rest : List ℕ) (count : ℕ) (so : SoFar) (text after : List ℕ) (next : SoFar) → ReadSoFar bytes rest count so → rest ≡ line text ++ after → ended_lines rest ≡ text ∷ ended_lines after → length after < length rest
    → TakesLine so text next → ReadSoFar bytes after (count + 1) next
read_on bytes rest count so text after next read split ended shorter taken =
    let done = read.done in
    record {
      done = done ++ text ∷ [];
      ended = read.ended ∙ ap (λ ls. done ++ ls) ended ∙ sym (append_assoc done (text ∷ []) (ended_lines after));
      split = read.split ∙ ap (λ l. flat_map line done ++ l) split ∙ sym (append_assoc (flat_map line done) (line text) after) ∙ ap (λ l. l ++ after) (sym (flat_last done text));
      count_is = ap (λ n. n + 1) read.count_is ∙ ap (λ n. n + 1) (sym (length_push done text));
      within = omega (arith, read.within, shorter);
      sound = taken.sound;
      text = taken.grown ∙ ap (λ l. l ++ line text) read.text ∙ sym (flat_last done text);
      place = taken.place ∙ sym (place_append Start done (text ∷ []));
    }

begins_read : (bytes rest : List ℕ) (count : ℕ) (so : SoFar) (read : ReadSoFar bytes rest count so) → BeginsStream (flat_map line read.done)
begins_read bytes rest count so read = subst BeginsStream read.text (begins_so_far so.pages so.families so.begun read.sound)

pub stops_at : (bytes rest : List ℕ) (count : ℕ) (so : SoFar) (text after : List ℕ) → ReadSoFar bytes rest count so → rest ≡ line text ++ after → ended_lines rest ≡ text ∷ ended_lines after
    → ¬ (IsUtf8 text × Fits (place_of so) text) → IsFirstBadLine bytes count
stops_at bytes rest count so text after read split ended bad =
    let done = read.done in
    first_bad bytes done text (ended_lines after) after count (read.ended ∙ ap (λ ls. done ++ ls) ended)
    (read.split ∙ ap (λ l. flat_map line done ++ l) split ∙ sym (append_assoc (flat_map line done) (line text) after) ∙ ap (λ l. l ++ after) (sym (flat_last done text)))
    read.count_is (begins_read bytes rest count so read) (λ h. bad (h.0, subst (λ p. Fits p text) (sym read.place) h.1))

pub ends_at : (bytes rest : List ℕ) (count : ℕ) (so : SoFar) → ReadSoFar bytes rest count so → ended_lines rest ≡ [] → (0 < length rest) ⊎ (place_of so ≢ Start) → IsFirstBadLine bytes count
ends_at bytes rest count so read none (inl some) = ends_badly bytes read.done rest count read.ended read.split none read.count_is (begins_read bytes rest count so read) (inl some)
ends_at bytes rest count so read none (inr other) =
    ends_badly bytes read.done rest count read.ended read.split none read.count_is (begins_read bytes rest count so read) (inr (λ e. other (read.place ∙ e)))

pub reads_whole : (bytes rest : List ℕ) (count : ℕ) (so : SoFar) → ReadSoFar bytes rest count so → rest ≡ [] → text_so_far so ≡ flat_map page_text so.pages → IsStream bytes so.pages
reads_whole bytes rest count so read none whole =
    let all : bytes ≡ flat_map page_text so.pages = read.split ∙ ap (λ l. flat_map line read.done ++ l) none ∙ append-nil (flat_map line read.done) ∙ sym read.text ∙ whole in
    subst (λ l. IsStream l so.pages) (sym all) (pages_stream so.pages read.sound.pages)

-- ---- at the start of a block

between_fits : (families : List Family) (text : List ℕ) → Fits (place_between families) text → FitsBetween text
between_fits [] text h = h
between_fits (family ∷ families) text h = h

pub between_given : {E : Type 0} (T : PagesSoFar → Type 0) (families : List Family) (text : List ℕ) (r : Result (Option PagesSoFar) E) → IfOk r (λ next. MatchOption next (¬ FitsBetween text) T)
    → IfOk r (λ next. MatchOption next (¬ (IsUtf8 text × Fits (place_between families) text)) T)
between_given T families text (Ok None) h = λ p. h (between_fits families text p.1)
between_given T families text (Ok (Some next)) h = h
between_given T families text (Err e) h = h
