-- How long lines are, and which values a line takes.
use Rattle.std.proofs.Common.{◌≡◌, ℕ, ◌+◌, ◌<◌, ◌≤◌, true, false, cond, List, [], ◌∷◌, ◌++◌, length, map, refl, sym, ap, ◌∙◌, arith, length-append, inl, inr}
use Rattle.std.specs.Prelude.{nat_le, nat_lt, not, filter}
use Rattle.std.proofs.lemmas.Bool.{le-leb, cases_lt}
use Rattle.std.proofs.lemmas.Bool.Decides.{nat_tests}
use Rattle.std.proofs.lemmas.List.{append-nil}
use Rattle.std.proofs.lemmas.List.Concat.{flat_map-append}
use Rattle.dsd_writer.specs.Cuts.{full_cut}
use Rattle.dsd_writer.specs.Lines.{ItemText, ending_of, kept_values, left_out_values, line_fits, line_of, lines_of, values_text}
use Rattle.dsd_writer.specs.Runs.{IsRun, run_fits, short_values}

pub past : (n limit : ℕ) → limit < n → nat_le n limit ≡ false
past n limit h = grind (arith, nat_tests)

pub below : (n limit : ℕ) → n < limit → nat_lt n limit ≡ true
below n limit h = grind (arith, nat_tests)

pub not_below : (n limit : ℕ) → limit ≤ n → nat_lt n limit ≡ false
not_below n limit h = grind (arith, nat_tests)

values_text_push : (run : List (List ℕ)) (t : List ℕ) → values_text (run ++ t ∷ []) ≡ values_text run ++ 58 ∷ t
values_text_push run t = flat_map-append (λ value. 58 ∷ value) run (t ∷ []) ∙ ap (λ last. values_text run ++ 58 ∷ last) (append-nil t)

pub length-values_text_push : (run : List (List ℕ)) (t : List ℕ) → length (values_text (run ++ t ∷ [])) ≡ length (values_text run) + (1 + length t)
length-values_text_push run t = omega (arith, ap length (values_text_push run t), length-append (values_text run) (58 ∷ t))

pub length-line_of : (item : ItemText) (run : List (List ℕ)) → length (line_of item run) ≡ length (line_of item []) + length (values_text run)
length-line_of item run =
    omega (arith, length-append (item.name ++ values_text run) (ending_of item), length-append item.name (values_text run), length-append (item.name ++ []) (ending_of item), length-append item.name [])

-- ---- with so much room for values

module _ (limit room : ℕ) (item : ItemText) (split : room + length (line_of item []) ≡ limit) where
  fits-room : (run : List (List ℕ)) → line_fits limit item run ≡ run_fits room run
  fits-room run =
      let size = length-line_of item run in
      elim (cases_lt room (length (values_text run))) [
        | inl high ↦ past (length (line_of item run)) limit (omega (arith, size)) ∙ sym (past (length (values_text run)) room high)
        | inr low ↦ le-leb (length (line_of item run)) limit (omega (arith, size)) ∙ sym (le-leb (length (values_text run)) room low)
      ]

  short-room : (value : List ℕ) → line_fits limit item (value ∷ []) ≡ nat_lt (length value) room
  short-room value =
      let alone = ap length (append-nil (58 ∷ value)) in
      elim (cases_lt (length value) room) [
        | inl low ↦ fits-room (value ∷ []) ∙ le-leb (length (values_text (value ∷ []))) room (omega (arith, alone)) ∙ sym (below (length value) room low)
        | inr high ↦ fits-room (value ∷ []) ∙ past (length (values_text (value ∷ []))) room (omega (arith, alone)) ∙ sym (not_below (length value) room high)
      ]

  pub kept-short : (values : List (List ℕ)) → kept_values limit item values ≡ short_values room values
  kept-short values = λ j. filter (λ value. short-room value j) values

  pub lines_of-room : (values : List (List ℕ)) → lines_of limit item values ≡ map (line_of item) (full_cut (run_fits room) (short_values room values))
  lines_of-room values = λ j. map (line_of item) (full_cut (λ run. fits-room run j) (kept-short values j))

  -- the values that are left out are those that aren't short
  pub left_out-short : (values : List (List ℕ)) → length (left_out_values limit item values) + length (short_values room values) ≡ length values
  left_out-short [] = refl
  left_out-short (value ∷ values) =
      let rest = left_out-short values in
      ap (λ b. length (cond (not b) (value ∷ left_out_values limit item values) (left_out_values limit item values)) + length (short_values room (value ∷ values))) (short-room value)
      ∙ (elim (nat_lt (length value) room) as (λ b. length (cond (not b) (value ∷ left_out_values limit item values) (left_out_values limit item values)) + length (cond b (value ∷ short_values room values) (short_values room values)) ≡ length (value ∷ values)) [
        | true ↦ omega (arith, rest)
        | false ↦ omega (arith, rest)
      ])

  no_values : (run : List (List ℕ)) → 0 ≡ length (values_text run) → run ≡ []
  no_values [] none = refl
  no_values (value ∷ run) none = absurd (omega arith)

  -- the line of a run, and the lines behind it
  pub lines_of-run : (front behind : List (List ℕ)) (used left_out : ℕ) → IsRun room front behind used left_out → 0 < used
      → lines_of limit item (front ++ behind) ≡ line_of item (short_values room front) ∷ lines_of limit item behind
  lines_of-run front behind used left_out run some =
      lines_of-room (front ++ behind) ∙ ap (map (line_of item)) (run.cut some) ∙ ap (λ lines. line_of item (short_values room front) ∷ lines) (sym (lines_of-room behind))

  -- where a run has no value, there are no lines
  pub lines_of-none : (front behind : List (List ℕ)) (used left_out : ℕ) → IsRun room front behind used left_out → used ≡ 0 → lines_of limit item (front ++ behind) ≡ []
  lines_of-none front behind used left_out run none =
      let nothing : short_values room front ≡ [] = no_values (short_values room front) (sym none ∙ run.weight) in
      ap (λ rest. lines_of limit item (front ++ rest)) (run.none none) ∙ ap (lines_of limit item) (append-nil front) ∙ lines_of-room front ∙ ap (λ kept. map (line_of item) (full_cut (run_fits room) kept)) nothing

-- where a line without values passes the limit, all values are left out
pub none_fits : (limit : ℕ) (item : ItemText) (values : List (List ℕ)) → limit < length (line_of item []) → (kept_values limit item values ≡ []) × (left_out_values limit item values ≡ values)
none_fits limit item [] high = (refl, refl)
none_fits limit item (t ∷ values) high =
    let fails = past (length (line_of item (t ∷ []))) limit (omega (arith, length-line_of item (t ∷ []))) in
    let rest = none_fits limit item values high in (
      ap (λ b. cond b (t ∷ kept_values limit item values) (kept_values limit item values)) fails ∙ rest.0,
      ap (λ b. cond (not b) (t ∷ left_out_values limit item values) (left_out_values limit item values)) fails ∙ ap (λ out. t ∷ out) rest.1,
    )
