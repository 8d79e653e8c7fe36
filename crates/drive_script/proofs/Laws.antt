-- What holds of scripts by their definitions: lines are at most one script, its beginnings are scripts, and bytes have at most one first bad line.
use Rattle.std.proofs.Common.{◌≡◌, ℕ, ◌≤◌, List, length, take, sym, subst, arith, inl, inr}
use Rattle.std.proofs.lemmas.Bool.{cases_lt}
use Rattle.std.proofs.lemmas.List.{take_all}
use Rattle.drive_script.specs.Script.{ScriptText, IsScript, lines_of}
use Rattle.drive_script.specs.Valid.{IsValid, AreValidLines, IsScriptOf, IsFirstBadLine}
use Rattle.drive_script.proofs.Growth.{one_script, fronts_valid}

pub one_reading : (lines : List (List ℕ)) (s t : ScriptText) → IsScript lines s × IsValid s → IsScript lines t × IsValid t → s ≡ t
one_reading lines s t a b = one_script lines s t a b

pub beginnings : (lines : List (List ℕ)) (k : ℕ) → AreValidLines lines → AreValidLines (take k lines)
beginnings lines k v =
    elim (cases_lt k (length lines)) [
      | inl few ↦ fronts_valid k lines (omega arith) v
      | inr all ↦ subst AreValidLines (sym (take_all k lines all)) v
    ]

-- a bad line is not before a first bad one
not_before : (bytes : List ℕ) (k l : ℕ) → IsFirstBadLine bytes k → IsFirstBadLine bytes l → l ≤ k
not_before bytes k l a b =
    elim (cases_lt k l) [ inl before ↦ absurd (a.bad (b.first k before)) | inr le ↦ le ]

pub one_first_bad_line : (bytes : List ℕ) (k l : ℕ) → IsFirstBadLine bytes k → IsFirstBadLine bytes l → k ≡ l
one_first_bad_line bytes k l a b = omega (arith, not_before bytes k l a b, not_before bytes l k b a)

pub bad_line_no_script : (bytes : List ℕ) (l : ℕ) (script : ScriptText) → IsFirstBadLine bytes l → ¬ IsScriptOf bytes script
bad_line_no_script bytes l script h s = h.bad (beginnings (lines_of bytes) l (script, s.0, s.1))
