-- The cuts of values into lines and of lines into payloads are full, and have the fewest runs.
use Rattle.std.proofs.Common.{◌≡◌, ℕ, ◌+◌, ◌≤◌, true, false, cond, List, [], ◌∷◌, ◌++◌, length, map, refl, sym, ap, ◌∙◌, arith, length-append}
use Rattle.std.specs.Prelude.{All, IsTrue, nat_le, sum_by}
use Rattle.std.proofs.lemmas.Bool.{leb-true, le-leb}
use Rattle.std.proofs.lemmas.List.{append-nil}
use Rattle.std.proofs.lemmas.List.Concat.{length-flat_map}
use Rattle.std.proofs.lemmas.List.Elements.{All-head, All-tail, All-cons, All-nil}
use Rattle.std.proofs.lemmas.List.Sums.{sum_by-append}
use Rattle.metrics_core.specs.Characters.{colon}
use Rattle.dsd_writer.specs.Cuts.{AreWithin, joined, full_cut, IsByWeight, IsBestCut}
use Rattle.dsd_writer.specs.Lines.{ItemText, line_of, line_fits, kept_values, lines_of, payload_fits, payloads_of}
use Rattle.dsd_writer.proofs.CutLemmas.{full_cut_is}
use Rattle.dsd_writer.proofs.Fewest.{full_cut_fewest}
use Rattle.dsd_writer.proofs.Joined.{joined-append}
use Rattle.dsd_writer.proofs.LineLengths.{length-line_of}

-- ---- each value that is kept fits alone, and no line passes the limit

-- every value that is kept fits alone
pub kept_fit : (limit : ℕ) (item : ItemText) (values : List (List ℕ)) → All (λ value. IsTrue (line_fits limit item (value ∷ []))) (kept_values limit item values)
kept_fit limit item [] = All-nil (λ (value : List ℕ). IsTrue (line_fits limit item (value ∷ [])))
kept_fit limit item (value ∷ values) =
    (elim (line_fits limit item (value ∷ [])) as (λ b. line_fits limit item (value ∷ []) ≡ b → All (λ value. IsTrue (line_fits limit item (value ∷ []))) (cond b (value ∷ kept_values limit item values) (kept_values limit item values))) [
      | true ↦ λ e. All-cons (λ (value : List ℕ). IsTrue (line_fits limit item (value ∷ []))) value (kept_values limit item values) e (kept_fit limit item values)
      | false ↦ λ e. kept_fit limit item values
    ]) refl

lines_fit : (limit : ℕ) (item : ItemText) (runs : List (List (List ℕ))) → All (λ run. IsTrue (line_fits limit item run)) runs → All (λ line. length line ≤ limit) (map (line_of item) runs)
lines_fit limit item [] fit = All-nil (λ (line : List ℕ). length line ≤ limit)
lines_fit limit item (run ∷ runs) fit =
    All-cons (λ (line : List ℕ). length line ≤ limit) (line_of item run) (map (line_of item) runs)
    (leb-true (length (line_of item run)) limit (All-head (λ (run : List (List ℕ)). IsTrue (line_fits limit item run)) run runs fit))
    (lines_fit limit item runs (All-tail (λ (run : List (List ℕ)). IsTrue (line_fits limit item run)) run runs fit))

-- no line passes the limit
pub lines_within : (limit : ℕ) (item : ItemText) (values : List (List ℕ)) → All (λ line. length line ≤ limit) (lines_of limit item values)
lines_within limit item values =
    let cut = full_cut_is (line_fits limit item) (kept_values limit item values) (kept_fit limit item values) in
    lines_fit limit item (full_cut (line_fits limit item) (kept_values limit item values)) cut.cut.within

-- ---- values on lines

lines_by_weight : (limit : ℕ) (item : ItemText) → IsByWeight (line_fits limit item) (λ value. length (colon ∷ value)) (length (line_of item [])) limit
lines_by_weight limit item run =
    ap (λ n. nat_le n limit) (length-line_of item run ∙ ap (λ n. length (line_of item []) + n) (length-flat_map (λ value. colon ∷ value) run))

pub best_lines : (limit : ℕ) (item : ItemText) (values : List (List ℕ)) → IsBestCut (line_fits limit item) (kept_values limit item values) (full_cut (line_fits limit item) (kept_values limit item values))
best_lines limit item values = record {
  full = full_cut_is (line_fits limit item) (kept_values limit item values) (kept_fit limit item values);
  fewest = full_cut_fewest (line_fits limit item) (λ value. length (colon ∷ value)) (length (line_of item [])) limit (lines_by_weight limit item) (kept_values limit item values);
}

-- ---- lines in payloads

length-joined : (lines : List (List ℕ)) → length (joined lines) ≡ sum_by length lines
length-joined [] = refl
length-joined (line ∷ lines) =
    omega (arith, length-append line (joined lines), length-joined lines, sum_by-append {X = List ℕ} length (line ∷ []) lines)

payloads_by_weight : (limit : ℕ) → IsByWeight (payload_fits limit) length 0 limit
payloads_by_weight limit run =
    let same : length (joined run) ≡ 0 + sum_by length run = omega (arith, length-joined run) in
    ap (λ n. nat_le n limit) same

lines_alone : (limit : ℕ) (lines : List (List ℕ)) → AreWithin limit lines → All (λ line. IsTrue (payload_fits limit (line ∷ []))) lines
lines_alone limit [] within = All-nil (λ (line : List ℕ). IsTrue (payload_fits limit (line ∷ [])))
lines_alone limit (line ∷ lines) within =
    let first = All-head (λ (line : List ℕ). length line ≤ limit) line lines within in
    All-cons (λ (line : List ℕ). IsTrue (payload_fits limit (line ∷ []))) line lines (le-leb (length (line ++ [])) limit (omega (arith, first, ap length (append-nil line))))
    (lines_alone limit lines (All-tail (λ (line : List ℕ). length line ≤ limit) line lines within))

payloads_within : (limit : ℕ) (runs : List (List (List ℕ))) → All (λ run. IsTrue (payload_fits limit run)) runs → All (λ payload. length payload ≤ limit) (map joined runs)
payloads_within limit [] fit = All-nil (λ (payload : List ℕ). length payload ≤ limit)
payloads_within limit (run ∷ runs) fit =
    All-cons (λ (payload : List ℕ). length payload ≤ limit) (joined run) (map joined runs)
    (leb-true (length (joined run)) limit (All-head (λ (run : List (List ℕ)). IsTrue (payload_fits limit run)) run runs fit))
    (payloads_within limit runs (All-tail (λ (run : List (List ℕ)). IsTrue (payload_fits limit run)) run runs fit))

-- lines that fit each alone
pub best_payloads : (limit : ℕ) (lines : List (List ℕ)) → AreWithin limit lines
    → IsBestCut (payload_fits limit) lines (full_cut (payload_fits limit) lines) × All (λ payload. length payload ≤ limit) (payloads_of limit lines)
best_payloads limit lines within =
    let full = full_cut_is (payload_fits limit) lines (lines_alone limit lines within) in (
      record { full = full; fewest = full_cut_fewest (payload_fits limit) length 0 limit (payloads_by_weight limit) lines },
      payloads_within limit (full_cut (payload_fits limit) lines) full.cut.within,
    )

-- runs joined each, and then together
pub joined_twice : (runs : List (List (List ℕ))) → joined (map joined runs) ≡ joined (joined runs)
joined_twice [] = refl
joined_twice (run ∷ runs) = ap (λ rest. joined run ++ rest) (joined_twice runs) ∙ sym (joined-append run (joined runs))
