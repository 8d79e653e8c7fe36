-- How the values of one line are found, value by value.
use Rattle.std.proofs.Common.{◌≡◌, ℕ, ◌+◌, ◌<◌, ◌≤◌, true, false, cond, List, [], ◌∷◌, ◌++◌, length, refl, sym, ap, ◌∙◌, arith, append_assoc, length-append}
use Rattle.std.specs.Prelude.{nat_lt}
use Rattle.std.proofs.lemmas.Bool.{le-leb}
use Rattle.std.proofs.lemmas.List.{append-nil}
use Rattle.std.proofs.lemmas.List.Concat.{flat_map-append}
use Rattle.std.proofs.lemmas.List.Elements.{filter-append}
use Rattle.dsd_writer.specs.Cuts.{full_cut, full_cut_behind}
use Rattle.dsd_writer.specs.Lines.{values_text}
use Rattle.dsd_writer.specs.Runs.{IsRun, run_fits, short_values}
use Rattle.dsd_writer.proofs.LineLengths.{below, not_below, past, length-values_text_push}

-- the runs behind one that is being filled
abbrev pub runs_after : ℕ → List (List ℕ) → List (List ℕ) → List (List (List ℕ))
runs_after room [] values = full_cut (run_fits room) values
runs_after room (t ∷ run) values = full_cut_behind (run_fits room) (t ∷ run) values

pub record IsRunning (room : ℕ) (front rest : List (List ℕ)) (used left_out : ℕ) : Type 0 where
  pub weight : used ≡ length (values_text (short_values room front))
  pub dropped : left_out + length (short_values room front) ≡ length front
  pub fits : used ≤ room
  pub to_come : runs_after room (short_values room front) (short_values room rest) ≡ full_cut (run_fits room) (short_values room (front ++ rest))

module _ (room : ℕ) where
  short-kept : (front : List (List ℕ)) (t : List ℕ) → length t < room → short_values room (front ++ t ∷ []) ≡ short_values room front ++ t ∷ []
  short-kept front t low =
      filter-append (λ value. nat_lt (length value) room) front (t ∷ [])
      ∙ ap (λ b. short_values room front ++ cond b (t ∷ []) []) (below (length t) room low)

  short-dropped : (front : List (List ℕ)) (t : List ℕ) → room ≤ length t → short_values room (front ++ t ∷ []) ≡ short_values room front
  short-dropped front t high =
      filter-append (λ value. nat_lt (length value) room) front (t ∷ [])
      ∙ ap (λ b. short_values room front ++ cond b (t ∷ []) []) (not_below (length t) room high)
      ∙ append-nil (short_values room front)

  first-kept : (t : List ℕ) (rest : List (List ℕ)) → length t < room → short_values room (t ∷ rest) ≡ t ∷ short_values room rest
  first-kept t rest low = ap (λ b. cond b (t ∷ short_values room rest) (short_values room rest)) (below (length t) room low)

  first-dropped : (t : List ℕ) (rest : List (List ℕ)) → room ≤ length t → short_values room (t ∷ rest) ≡ short_values room rest
  first-dropped t rest high = ap (λ b. cond b (t ∷ short_values room rest) (short_values room rest)) (not_below (length t) room high)

  -- at the start
  pub run_starts : (values : List (List ℕ)) → IsRunning room [] values 0 0
  run_starts values = record { weight = refl; dropped = refl; fits = omega arith; to_come = refl }

  -- a value that no line takes
  pub run_skips : (front rest : List (List ℕ)) (t : List ℕ) (used left_out : ℕ) → IsRunning room front (t ∷ rest) used left_out → room ≤ length t
      → IsRunning room (front ++ t ∷ []) rest used (left_out + 1)
  run_skips front rest t used left_out running high =
      let same = short-dropped front t high in
      record {
        weight = running.weight ∙ ap (λ run. length (values_text run)) (sym same);
        dropped = omega (arith, running.dropped, ap length same, length-append front (t ∷ []));
        fits = running.fits;
        to_come = ap (λ run. runs_after room run (short_values room rest)) same ∙ ap (runs_after room (short_values room front)) (sym (first-dropped t rest high)) ∙ running.to_come
            ∙ ap (λ values. full_cut (run_fits room) (short_values room values)) (sym (append_assoc front (t ∷ []) rest));
      }

  behind : (run : List (List ℕ)) (t : List ℕ) (values : List (List ℕ)) → run_fits room (run ++ t ∷ []) ≡ true → runs_after room (run ++ t ∷ []) values ≡ runs_after room run (t ∷ values)
  behind [] t values fits = refl
  behind (r ∷ run) t values fits =
      sym (ap (λ b. cond b (full_cut_behind (run_fits room) ((r ∷ run) ++ t ∷ []) values) ((r ∷ run) ∷ full_cut_behind (run_fits room) (t ∷ []) values)) fits)

  -- a value that the line takes
  pub run_takes : (front rest : List (List ℕ)) (t : List ℕ) (used left_out : ℕ) → IsRunning room front (t ∷ rest) used left_out → length t < room → used + (1 + length t) ≤ room
      → IsRunning room (front ++ t ∷ []) rest (used + (1 + length t)) left_out
  run_takes front rest t used left_out running low within =
      let run = short_values room front in
      let more = short-kept front t low in
      let longer = length-values_text_push run t in
      let fits : run_fits room (run ++ t ∷ []) ≡ true = le-leb (length (values_text (run ++ t ∷ []))) room (omega (arith, longer, running.weight)) in
      record {
        weight = omega (arith, running.weight, longer, ap (λ r. length (values_text r)) more);
        dropped = omega (arith, running.dropped, ap length more, length-append run (t ∷ []), length-append front (t ∷ []));
        fits = within;
        to_come = ap (λ r. runs_after room r (short_values room rest)) more ∙ behind run t (short_values room rest) fits
            ∙ ap (runs_after room run) (sym (first-kept t rest low)) ∙ running.to_come
            ∙ ap (λ values. full_cut (run_fits room) (short_values room values)) (sym (append_assoc front (t ∷ []) rest));
      }

  closes : (run : List (List ℕ)) (t : List ℕ) (values : List (List ℕ)) → 0 < length (values_text run) → run_fits room (run ++ t ∷ []) ≡ false
      → runs_after room run (t ∷ values) ≡ run ∷ full_cut (run_fits room) (t ∷ values)
  closes [] t values some over = absurd (omega (arith, some))
  closes (r ∷ run) t values some over =
      ap (λ b. cond b (full_cut_behind (run_fits room) ((r ∷ run) ++ t ∷ []) values) ((r ∷ run) ∷ full_cut_behind (run_fits room) (t ∷ []) values)) over

  -- a value that goes on the next line
  pub run_stops : (front rest : List (List ℕ)) (t : List ℕ) (used left_out : ℕ) → IsRunning room front (t ∷ rest) used left_out → length t < room → room < used + (1 + length t)
      → IsRun room front (t ∷ rest) used left_out
  run_stops front rest t used left_out running low high =
      let run = short_values room front in
      let longer = length-values_text_push run t in
      let over : run_fits room (run ++ t ∷ []) ≡ false = past (length (values_text (run ++ t ∷ []))) room (omega (arith, longer, running.weight)) in
      let kept = first-kept t rest low in
      record {
        weight = running.weight;
        dropped = running.dropped;
        fits = running.fits;
        cut = λ some.
            sym running.to_come ∙ ap (runs_after room run) kept ∙ closes run t (short_values room rest) (omega (arith, running.weight)) over
            ∙ ap (λ values. run ∷ full_cut (run_fits room) values) (sym kept);
        none = λ no. absurd (omega arith);
      }

  last_run : (run : List (List ℕ)) → 0 < length (values_text run) → runs_after room run [] ≡ run ∷ []
  last_run [] some = absurd (omega (arith, some))
  last_run (r ∷ run) some = refl

  -- at the end
  pub run_ends : (front : List (List ℕ)) (used left_out : ℕ) → IsRunning room front [] used left_out → IsRun room front [] used left_out
  run_ends front used left_out running = record {
    weight = running.weight;
    dropped = running.dropped;
    fits = running.fits;
    cut = λ some. sym running.to_come ∙ last_run (short_values room front) (omega (arith, running.weight));
    none = λ no. refl;
  }

-- ---- the bytes of values

-- the values of a line, one that it takes apart
pub values_text-kept : (room : ℕ) (front rest : List (List ℕ)) (t : List ℕ) → length t < room
    → length (values_text (short_values room (front ++ t ∷ rest))) ≡ length (values_text (short_values room front)) + (1 + length t) + length (values_text (short_values room rest))
values_text-kept room front rest t low =
    let split = filter-append (λ value. nat_lt (length value) room) front (t ∷ rest) ∙ ap (λ more. short_values room front ++ more) (first-kept room t rest low) in
    let text = ap values_text split ∙ flat_map-append (λ value. 58 ∷ value) (short_values room front) (t ∷ short_values room rest) in
    omega (
      arith,
      ap length text,
      length-append (values_text (short_values room front)) (values_text (t ∷ short_values room rest)),
      length-append (58 ∷ t) (values_text (short_values room rest)),
    )
