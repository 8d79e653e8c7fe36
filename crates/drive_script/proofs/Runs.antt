-- Taking what lines say, one after the other.
use Rattle.std.proofs.Common.{◌≡◌, ℕ, List, [], ◌∷◌, ◌++◌, Bool, true, false, refl, sym, ap, subst, ◌∙◌}
use Rattle.std.specs.Prelude.{Result, Ok, Err, IfOk, IsTrue, MatchBool}
use Rattle.std.proofs.lemmas.Bool.{false≢true}
use Rattle.std.specs.List.{AllZip}
use Rattle.std.proofs.lemmas.List.{append_assoc, append-nil}
use Rattle.drive_script.specs.Script.{IsLine, ScriptLine}
use Rattle.drive_script.specs.Taking.{Takes}
use Rattle.drive_script.specs.Texts.{StandsBehind}
use Rattle.drive_script.specs.declared.progress.ScriptSoFar.{ScriptSoFar}
use Rattle.drive_script.proofs.Steps.{step_taken}

-- lines of which the first says this
pub record Begins (lines : List (List ℕ)) (says : ScriptLine) (more : List ScriptLine) : Type 0 where
  pub line : List ℕ
  pub others : List (List ℕ)
  pub split : lines ≡ line ∷ others
  pub first : IsLine line says
  pub behind : AllZip IsLine others more

pub next_said : (lines : List (List ℕ)) (says : ScriptLine) (more : List ScriptLine) → AllZip IsLine lines (says ∷ more) → Begins lines says more
next_said [] says more h = absurd h
next_said (line ∷ others) says more h = record { line = line; others = others; split = refl; first = h.0; behind = h.1 }

pub none_said : (lines : List (List ℕ)) → AllZip IsLine lines [] → lines ≡ []
none_said [] h = refl
none_said (line ∷ others) h = absurd h

-- all lines are those before, the first of the rest, and the others
pub moved_on : (all so_far rest : List (List ℕ)) (line : List ℕ) (others : List (List ℕ)) → all ≡ so_far ++ rest → rest ≡ line ∷ others → all ≡ (so_far ++ line ∷ []) ++ others
moved_on all so_far rest line others whole split = whole ∙ ap (λ r. so_far ++ r) split ∙ sym (append_assoc so_far (line ∷ []) others)

pub at_end : (all so_far rest : List (List ℕ)) → all ≡ so_far ++ rest → rest ≡ [] → all ≡ so_far
at_end all so_far rest whole none = whole ∙ ap (λ r. so_far ++ r) none ∙ append-nil so_far

pub line_taken : (lines : List (List ℕ)) (line : List ℕ) (old new : ScriptSoFar) (says : ScriptLine) (h : StandsBehind lines old) → IsLine line says → Takes h.script.said old new says true → StandsBehind (lines ++ line ∷ []) new
line_taken lines line old new says h is_line takes = step_taken {E = Unit {0}} lines line old new says (Ok true) h is_line takes

-- what is said in two parts is said by lines in two parts
pub record Parts (lines : List (List ℕ)) (says more : List ScriptLine) : Type 0 where
  pub front : List (List ℕ)
  pub others : List (List ℕ)
  pub split : lines ≡ front ++ others
  pub first : AllZip IsLine front says
  pub behind : AllZip IsLine others more

pub parts_said : (lines : List (List ℕ)) (says more : List ScriptLine) → AllZip IsLine lines (says ++ more) → Parts lines says more
parts_said lines [] more h = record { front = []; others = lines; split = refl; first = tt; behind = h }
parts_said [] (s ∷ says) more h = absurd h
parts_said (line ∷ lines) (s ∷ says) more h =
    let parts = parts_said lines says more h.1 in
    record { front = line ∷ parts.front; others = parts.others; split = ap (λ ls. line ∷ ls) parts.split; first = (h.0, parts.first); behind = parts.behind }

pub moved_past : (all so_far rest front others : List (List ℕ)) → all ≡ so_far ++ rest → rest ≡ front ++ others → all ≡ (so_far ++ front) ++ others
moved_past all so_far rest front others whole split = whole ∙ ap (λ r. so_far ++ r) split ∙ sym (append_assoc so_far front others)

-- of what is known of both answers only what is known of `true`
pub only_taken : {E : Type 0} (A B : Type 0) (r : Result Bool E) → IfOk r (λ taken. MatchBool taken A B) → IfOk r (λ taken. IsTrue taken → A)
only_taken A B (Ok true) h = λ is. h
only_taken A B (Ok false) h = λ is. absurd (false≢true is)
only_taken A B (Err e) h = tt

-- what holds of each line that says this holds of lines that say it alone
pub one_said : (P : List (List ℕ) → Type 0) (lines : List (List ℕ)) (says : ScriptLine) → AllZip IsLine lines (says ∷ []) → ((line : List ℕ) → IsLine line says → P (line ∷ [])) → P lines
one_said P lines says h each =
    let begins = next_said lines says [] h in
    subst P (sym (begins.split ∙ ap (λ ls. begins.line ∷ ls) (none_said begins.others begins.behind))) (each begins.line begins.first)
