-- The lines of some bytes, and the first bad one of them.
use Rattle.std.proofs.Common.{◌≡◌, ◌≢◌, ℕ, suc, ◌+◌, ◌<◌, ◌≤◌, Bool, true, false, not, ◌==◌, cond, List, [], ◌∷◌, ◌++◌, length, take, drop, refl, sym, ap, subst, ◌∙◌, append_assoc, arith, ◌⊎◌, inl, inr}
use Rattle.std.specs.Prelude.{flat_map, IsUtf8, if◌then◌else◌}
use Rattle.std.specs.List.{position_or_len}
use Rattle.std.proofs.Math.Numerals.{one-add}
use Rattle.std.proofs.lemmas.Bool.{and_from, eqb-true, cases_lt}
use Rattle.std.proofs.lemmas.List.{length-append, length_push, take_at, take-append-le, take-append-drop, append-nil}
use Rattle.metrics_core.specs.Characters.{newline, line}
use Rattle.prom_format.specs.Pages.{Family}
use Rattle.page_relay.specs.Streams.{IsStream, BeginsStream, in_front, ended_lines, first_lines, IsFirstBadLine}
use Rattle.page_relay.specs.Fitting.{Start, place_behind_all, Fits}
use Rattle.page_relay.proofs.Names.{kind_told}
use Rattle.page_relay.proofs.Streams.{in_line, AreLines, AreFit, fits_at, fit_lines, lines_front_part, flat_append, stream_lines, stream_utf8}
use Rattle.page_relay.proofs.Growing.{begins_front}
use Rattle.page_relay.proofs.Utf8.{split_ascii}

abbrev pub line_end : List ℕ → ℕ
line_end bytes = position_or_len (λ b. b == newline) bytes

-- ---- the first line

none_step : (t : Bool) (c n : ℕ) (bytes : List ℕ) → (c == newline) ≡ t → (n ≡ length bytes → ended_lines bytes ≡ []) → cond (not t) (1 + n) 0 ≡ length (c ∷ bytes)
    → (if t then [] ∷ ended_lines bytes else in_front c (ended_lines bytes)) ≡ []
none_step true c n bytes is rec e = absurd (omega (arith, e))
none_step false c n bytes is rec e = ap (in_front c) (rec (omega (arith, e)))

pub ended_none : (bytes : List ℕ) → line_end bytes ≡ length bytes → ended_lines bytes ≡ []
ended_none [] e = refl
ended_none (c ∷ bytes) e = none_step (c == newline) c (line_end bytes) bytes refl (ended_none bytes) e

pub record FirstLine (bytes : List ℕ) (n : ℕ) : Type 0 where
  pub split : bytes ≡ line (take n bytes) ++ drop (suc n) bytes
  pub ended : ended_lines bytes ≡ take n bytes ∷ ended_lines (drop (suc n) bytes)

first_step : (t : Bool) (c n : ℕ) (bytes : List ℕ) → (c == newline) ≡ t → (n < length bytes → FirstLine bytes n) → cond (not t) (1 + n) 0 < length (c ∷ bytes) → FirstLine (c ∷ bytes) (cond (not t) (1 + n) 0)
first_step true c n bytes is rec within = record { split = ap (λ x. x ∷ bytes) (eqb-true c newline is); ended = rw is refl }
first_step false c n bytes is rec within =
    let behind = rec (omega (arith, within)) in
    rw one-add (record { split = ap (λ l. c ∷ l) behind.split; ended = rw is (ap (in_front c) behind.ended) })

pub ended_first : (bytes : List ℕ) → line_end bytes < length bytes → FirstLine bytes (line_end bytes)
ended_first [] within = absurd (omega (arith, within))
ended_first (c ∷ bytes) within = first_step (c == newline) c (line_end bytes) bytes refl (ended_first bytes) within

-- ---- lines have no newline

front_line : (c : ℕ) (lines : List (List ℕ)) → (c == newline) ≡ false → AreLines lines → AreLines (in_front c lines)
front_line c [] other are = tt
front_line c (text ∷ lines) other are = (and_from _ _ (ap not other) are.0, are.1)

line_step : (t : Bool) (c : ℕ) (bytes : List ℕ) → (c == newline) ≡ t → AreLines (ended_lines bytes) → AreLines (if t then [] ∷ ended_lines bytes else in_front c (ended_lines bytes))
line_step true c bytes is are = (refl, are)
line_step false c bytes is are = front_line c (ended_lines bytes) is are

ended_are_lines : (bytes : List ℕ) → AreLines (ended_lines bytes)
ended_are_lines [] = tt
ended_are_lines (c ∷ bytes) = line_step (c == newline) c bytes refl (ended_are_lines bytes)

front_some : (c : ℕ) (lines : List (List ℕ)) → lines ≢ [] → in_front c lines ≢ []
front_some c [] some e = some e
front_some c (text ∷ lines) some e = cc

some_step : (t : Bool) (c : ℕ) (bytes : List ℕ) → ended_lines bytes ≢ [] → (if t then [] ∷ ended_lines bytes else in_front c (ended_lines bytes)) ≢ []
some_step true c bytes some e = cc
some_step false c bytes some e = front_some c (ended_lines bytes) some e

ended_some : (text rest : List ℕ) → ended_lines (text ++ newline ∷ rest) ≢ []
ended_some [] rest e = cc
ended_some (c ∷ text) rest e = some_step (c == newline) c (text ++ newline ∷ rest) (ended_some text rest) e

-- ---- lines that bytes begin with are the first ones

no_line : (d f x : List ℕ) → (line d ++ f) ++ x ≢ []
no_line [] f x e = cc
no_line (c ∷ d) f x e = cc

line_split : (d f x : List ℕ) → (line d ++ f) ++ x ≡ d ++ (newline ∷ (f ++ x))
line_split d f x = append_assoc (line d) f x ∙ append_assoc d (newline ∷ []) (f ++ x)

pub record More (done lines : List (List ℕ)) (x : List ℕ) : Type 0 where
  pub more : List (List ℕ)
  pub split : lines ≡ done ++ more
  pub rest : x ≡ flat_map line more

pub lines_told : (done lines : List (List ℕ)) (x : List ℕ) → AreLines done → AreLines lines → flat_map line done ++ x ≡ flat_map line lines → More done lines x
lines_told [] lines x hd hl e = record { more = lines; split = refl; rest = e }
lines_told (d ∷ done) [] x hd hl e = absurd (no_line d (flat_map line done) x e)
lines_told (d ∷ done) (l ∷ lines) x hd hl e =
    let told = kind_told in_line d l (newline ∷ (flat_map line done ++ x)) (newline ∷ flat_map line lines) hd.0 hl.0 refl refl
    (sym (line_split d (flat_map line done) x) ∙ e ∙ append_assoc l (newline ∷ []) (flat_map line lines)) in
    let behind = lines_told done lines x hd.1 hl.1 (ap (drop 1) told.1) in
    record { more = behind.more; split = (λ j. sym told.0 j ∷ behind.split j); rest = behind.rest }

line_utf8_at : (xs ys : List (List ℕ)) (text : List ℕ) → IsUtf8 (flat_map line (xs ++ text ∷ ys)) → IsUtf8 text
line_utf8_at [] ys text utf8 = (split_ascii text newline (flat_map line ys) (omega arith) (subst IsUtf8 (append_assoc text (newline ∷ []) (flat_map line ys)) utf8)).0
line_utf8_at (x ∷ xs) ys text utf8 =
    line_utf8_at xs ys text (split_ascii x newline (flat_map line (xs ++ text ∷ ys)) (omega arith) (subst IsUtf8 (append_assoc x (newline ∷ []) (flat_map line (xs ++ text ∷ ys))) utf8)).1

-- no stream begins with lines of which the last may not stand behind the others
no_stream_with : (done : List (List ℕ)) (text x bytes : List ℕ) (pages : List (List Family)) → AreLines (done ++ text ∷ []) → ¬ (IsUtf8 text × Fits (place_behind_all Start done) text)
    → bytes ≡ flat_map line (done ++ text ∷ []) ++ x → ¬ IsStream bytes pages
no_stream_with done text x bytes pages are bad split is =
    let stream = stream_lines bytes pages is in
    let told = lines_told (done ++ text ∷ []) stream.lines x are (fit_lines Start stream.lines stream.fit) (sym split ∙ stream.are) in
    let lines : stream.lines ≡ done ++ text ∷ told.more = told.split ∙ append_assoc done (text ∷ []) told.more in
    let utf8 = line_utf8_at done told.more text (subst IsUtf8 (stream.are ∙ ap (flat_map line) lines) (stream_utf8 bytes pages is)) in
    bad (utf8, fits_at Start done told.more text (subst (AreFit Start) lines stream.fit) utf8)

-- ---- the first bad line

fewer : (k : ℕ) (done : List (List ℕ)) → BeginsStream (flat_map line done) → BeginsStream (flat_map line (take k done))
fewer k done begins =
    begins_front (flat_map line (take k done)) (flat_map line (drop k done))
    (subst BeginsStream (sym (ap (flat_map line) (take-append-drop k done)) ∙ flat_append (take k done) (drop k done)) begins)

pub first_bad : (bytes : List ℕ) (done : List (List ℕ)) (text : List ℕ) (more : List (List ℕ)) (x : List ℕ) (l : ℕ) → ended_lines bytes ≡ done ++ text ∷ more → bytes ≡ flat_map line (done ++ text ∷ []) ++ x → l ≡ length done + 1
    → BeginsStream (flat_map line done) → ¬ (IsUtf8 text × Fits (place_behind_all Start done) text) → IsFirstBadLine bytes l
first_bad bytes done text more x l ended split count begins bad =
    let lines : ended_lines bytes ≡ (done ++ text ∷ []) ++ more = ended ∙ sym (append_assoc done (text ∷ []) more) in
    let are = lines_front_part (done ++ text ∷ []) more (subst AreLines lines (ended_are_lines bytes)) in
    let so_far : take l (ended_lines bytes) ≡ done ++ text ∷ [] = ap (take l) lines ∙ take_at (done ++ text ∷ []) more l (omega (arith, length_push done text)) in
    record {
      no_stream = λ pages. no_stream_with done text x bytes pages are bad split;
      is_line = (omega (arith, count), omega (arith, count, ap length ended, length-append done (text ∷ more)));
      bad = λ within stream. no_stream_with done text stream.0 (first_lines l bytes ++ stream.0) stream.1 are bad (ap (λ ls. flat_map line ls ++ stream.0) so_far) stream.2;
      first = λ k less.
          let front : take k (ended_lines bytes) ≡ take k done = ap (take k) ended ∙ take-append-le k done (text ∷ more) (omega (arith, less, count)) in
          subst (λ ls. BeginsStream (flat_map line ls)) (sym front) (fewer k done begins);
    }

no_end : (done : List (List ℕ)) (x bytes : List ℕ) (pages : List (List Family)) → AreLines done → bytes ≡ flat_map line done ++ x → ended_lines x ≡ [] → (0 < length x) ⊎ (place_behind_all Start done ≢ Start) → ¬ IsStream bytes pages
no_end done x bytes pages are split none why is =
    let stream = stream_lines bytes pages is in
    let told = lines_told done stream.lines x are (fit_lines Start stream.lines stream.fit) (sym split ∙ stream.are) in
    by told.more told.split told.rest stream.ends why
  where
    by : {lines : List (List ℕ)} (more : List (List ℕ)) → lines ≡ done ++ more → x ≡ flat_map line more → place_behind_all Start lines ≡ Start → (0 < length x) ⊎ (place_behind_all Start done ≢ Start) → ⊥
    by [] lines rest ends (inl some) = omega (arith, some, ap length rest)
    by [] lines rest ends (inr other) = other (ap (place_behind_all Start) (sym (lines ∙ append-nil done)) ∙ ends)
    by (m ∷ more) lines rest ends why = ended_some m (flat_map line more) (ap ended_lines (sym (rest ∙ append_assoc m (newline ∷ []) (flat_map line more))) ∙ none)

pub ends_badly : (bytes : List ℕ) (done : List (List ℕ)) (x : List ℕ) (l : ℕ) → ended_lines bytes ≡ done ++ ended_lines x → bytes ≡ flat_map line done ++ x → ended_lines x ≡ [] → l ≡ length done + 1
    → BeginsStream (flat_map line done) → (0 < length x) ⊎ (place_behind_all Start done ≢ Start) → IsFirstBadLine bytes l
ends_badly bytes done x l ended split none count begins why =
    let lines : ended_lines bytes ≡ done = ended ∙ ap (λ ls. done ++ ls) none ∙ append-nil done in
    let are : AreLines done = subst AreLines lines (ended_are_lines bytes) in
    record {
      no_stream = λ pages. no_end done x bytes pages are split none why;
      is_line = (omega (arith, count), omega (arith, count, ap length lines));
      bad = λ within. absurd (omega (arith, count, within, ap length lines));
      first = λ k less. subst (λ ls. BeginsStream (flat_map line (take k ls))) (sym lines) (fewer k done begins);
    }

-- ---- there is one first bad line

earlier_none : (bytes : List ℕ) (k l : ℕ) → IsFirstBadLine bytes k → IsFirstBadLine bytes l → k < l → ⊥
earlier_none bytes k l hk hl less = hk.bad (omega (arith, less, hl.is_line.1)) (hl.first k less)

pub bad_lines_same : (bytes : List ℕ) (k l : ℕ) → IsFirstBadLine bytes k → IsFirstBadLine bytes l → k ≡ l
bad_lines_same bytes k l hk hl = by (cases_lt k l) (cases_lt l k)
  where
    by : (k < l) ⊎ (l ≤ k) → (l < k) ⊎ (k ≤ l) → k ≡ l
    by (inl less) other = absurd (earlier_none bytes k l hk hl less)
    by (inr le) (inl less) = absurd (earlier_none bytes l k hl hk less)
    by (inr le) (inr ge) = omega (arith, le, ge)
