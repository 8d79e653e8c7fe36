-- Payloads that are filled line by line are the full cut of the lines; how much lines add to them.
use Rattle.std.proofs.Common.{◌≡◌, ℕ, ◌+◌, ◌*◌, ◌≤◌, Bool, true, false, cond, List, [], ◌∷◌, ◌++◌, length, map, refl, sym, ap, ◌∙◌, arith, append_assoc, length-append}
use Rattle.std.specs.Prelude.{nat_le}
use Rattle.std.proofs.lemmas.List.{append-nil, length-replicate}
use Rattle.dsd_writer.specs.Cuts.{joined, full_cut_behind}
use Rattle.dsd_writer.specs.Lines.{payload_fits, payloads_of}
use Rattle.dsd_writer.specs.Packing.{before_line, behind_last, filled, last_takes, prefix_length, start_of_line, stored_length, with_line}
use Rattle.dsd_writer.proofs.Joined.{joined_push}

-- ---- line by line

last_takes-push : (limit : ℕ) (payloads : List (List ℕ)) (payload : List ℕ) (n : ℕ) → last_takes limit (payloads ++ payload ∷ []) n ≡ nat_le (length payload + n) limit
last_takes-push limit [] payload n = refl
last_takes-push limit (first ∷ []) payload n = refl
last_takes-push limit (first ∷ next ∷ payloads) payload n = last_takes-push limit (next ∷ payloads) payload n

behind_last-push : (payloads : List (List ℕ)) (payload line : List ℕ) → behind_last (payloads ++ payload ∷ []) line ≡ payloads ++ (payload ++ line) ∷ []
behind_last-push [] payload line = refl
behind_last-push (first ∷ []) payload line = refl
behind_last-push (first ∷ next ∷ payloads) payload line = ap (λ rest. first ∷ rest) (behind_last-push (next ∷ payloads) payload line)

-- a line behind payloads of which the last one is a run of lines
module _ (limit : ℕ) where
  fits : List (List ℕ) → Bool
  fits = payload_fits limit

  with_line-run : (done : List (List ℕ)) (run : List (List ℕ)) (line : List ℕ)
      → with_line limit (done ++ joined run ∷ []) line ≡ cond (payload_fits limit (run ++ line ∷ [])) (done ++ joined (run ++ line ∷ []) ∷ []) ((done ++ joined run ∷ []) ++ line ∷ [])
  with_line-run done run line =
      let longer : joined run ++ line ≡ joined (run ++ line ∷ []) = sym (joined_push run line) in
      let size : length (joined run) + length line ≡ length (joined (run ++ line ∷ [])) = sym (length-append (joined run) line) ∙ ap length longer in
      let takes : last_takes limit (done ++ joined run ∷ []) (length line) ≡ payload_fits limit (run ++ line ∷ []) =
      last_takes-push limit done (joined run) (length line) ∙ ap (λ n. nat_le n limit) size in
      let within : behind_last (done ++ joined run ∷ []) line ≡ done ++ joined (run ++ line ∷ []) ∷ [] =
      behind_last-push done (joined run) line ∙ ap (λ last. done ++ last ∷ []) longer in
      λ j. cond (takes j) (within j) ((done ++ joined run ∷ []) ++ line ∷ [])

  filled-run : (done : List (List ℕ)) (run lines : List (List ℕ)) → filled limit (done ++ joined run ∷ []) lines ≡ done ++ map joined (full_cut_behind (payload_fits limit) run lines)
  filled-run done run [] = refl
  filled-run done run (line ∷ lines) =
      ap (λ payloads. filled limit payloads lines) (with_line-run done run line)
      ∙ (elim (payload_fits limit (run ++ line ∷ [])) as (λ b. filled limit (cond b (done ++ joined (run ++ line ∷ []) ∷ []) ((done ++ joined run ∷ []) ++ line ∷ [])) lines
      ≡ done ++ map joined (cond b (full_cut_behind (payload_fits limit) (run ++ line ∷ []) lines) (run ∷ full_cut_behind (payload_fits limit) (line ∷ []) lines))) [
        | true ↦ filled-run done (run ++ line ∷ []) lines
        | false ↦
            ap (λ last. filled limit ((done ++ joined run ∷ []) ++ last ∷ []) lines) (sym (append-nil line))
            ∙ filled-run (done ++ joined run ∷ []) (line ∷ []) lines
            ∙ append_assoc done (joined run ∷ []) (map joined (full_cut_behind (payload_fits limit) (line ∷ []) lines))
      ])

  pub filled-none : (lines : List (List ℕ)) → filled limit [] lines ≡ payloads_of limit lines
  filled-none [] = refl
  filled-none (line ∷ lines) = ap (λ first. filled limit (first ∷ []) lines) (sym (append-nil line)) ∙ filled-run [] (line ∷ []) lines

-- ---- what lines add

length-behind_last : (first : List ℕ) (payloads : List (List ℕ)) (line : List ℕ) → length (behind_last (first ∷ payloads) line) ≡ length (first ∷ payloads)
length-behind_last first [] line = refl
length-behind_last first (next ∷ payloads) line = omega (arith, length-behind_last next payloads line)

stored_length-behind_last : (on_stream : Bool) (first : List ℕ) (payloads : List (List ℕ)) (line : List ℕ)
    → stored_length on_stream (behind_last (first ∷ payloads) line) ≡ stored_length on_stream (first ∷ payloads) + length line
stored_length-behind_last on_stream first [] line = omega (arith, length-append first line)
stored_length-behind_last on_stream first (next ∷ payloads) line = omega (arith, stored_length-behind_last on_stream next payloads line)

stored_length-push : (on_stream : Bool) (payloads : List (List ℕ)) (line : List ℕ) → stored_length on_stream (payloads ++ line ∷ []) ≡ stored_length on_stream payloads + (prefix_length on_stream + length line)
stored_length-push on_stream [] line = omega arith
stored_length-push on_stream (first ∷ payloads) line = omega (arith, stored_length-push on_stream payloads line)

-- what a line adds: its own bytes, and where it begins a payload what stands before that
pub record LineAdds (on_stream : Bool) (payloads after : List (List ℕ)) (n : ℕ) : Type 0 where
  pub least : stored_length on_stream payloads + n ≤ stored_length on_stream after
  pub most : stored_length on_stream after ≤ stored_length on_stream payloads + (prefix_length on_stream + n)
  pub no_fewer : length payloads ≤ length after
  pub one_more : length after ≤ length payloads + 1

line_adds : (limit : ℕ) (on_stream : Bool) (payloads : List (List ℕ)) (line : List ℕ) → LineAdds on_stream payloads (with_line limit payloads line) (length line)
line_adds limit on_stream [] line = record { least = omega arith; most = omega arith; no_fewer = omega arith; one_more = omega arith }
line_adds limit on_stream (first ∷ payloads) line =
    let more = length-append (first ∷ payloads) (line ∷ []) in
    let begun = stored_length-push on_stream (first ∷ payloads) line in
    elim (last_takes limit (first ∷ payloads) (length line)) as (λ b. LineAdds on_stream (first ∷ payloads) (cond b (behind_last (first ∷ payloads) line) ((first ∷ payloads) ++ line ∷ [])) (length line)) [
      | true ↦ record {
        least = omega (arith, stored_length-behind_last on_stream first payloads line);
        most = omega (arith, stored_length-behind_last on_stream first payloads line);
        no_fewer = omega (arith, length-behind_last first payloads line);
        one_more = omega (arith, length-behind_last first payloads line);
      }
      | false ↦ record { least = omega (arith, begun); most = omega (arith, begun); no_fewer = omega (arith, more); one_more = omega (arith, more) }
    ]

-- what lines add
pub record LinesAdd (on_stream : Bool) (payloads after lines : List (List ℕ)) : Type 0 where
  pub least : stored_length on_stream payloads + length (joined lines) ≤ stored_length on_stream after
  pub most : stored_length on_stream after ≤ stored_length on_stream payloads + (length (joined lines) + prefix_length on_stream * length lines)
  pub no_fewer : length payloads ≤ length after
  pub one_each : length after ≤ length payloads + length lines

prefix_more : (on_stream : Bool) (n : ℕ) → prefix_length on_stream * (n + 1) ≡ prefix_length on_stream + prefix_length on_stream * n
prefix_more true n = omega arith
prefix_more false n = omega arith

pub lines_add : (limit : ℕ) (on_stream : Bool) (payloads lines : List (List ℕ)) → LinesAdd on_stream payloads (filled limit payloads lines) lines
lines_add limit on_stream payloads [] = record { least = omega arith; most = omega arith; no_fewer = omega arith; one_each = omega arith }
lines_add limit on_stream payloads (line ∷ lines) =
    let first = line_adds limit on_stream payloads line in
    let rest = lines_add limit on_stream (with_line limit payloads line) lines in
    let both = length-append line (joined lines) in
    let prefixes : prefix_length on_stream * length (line ∷ lines) ≡ prefix_length on_stream + prefix_length on_stream * length lines =
    ap (λ n. prefix_length on_stream * n) (omega arith) ∙ prefix_more on_stream (length lines) in
    record {
      least = omega (arith, both, first.least, rest.least);
      most = omega (arith, both, first.most, rest.most, prefixes);
      no_fewer = omega (arith, first.no_fewer, rest.no_fewer);
      one_each = omega (arith, first.one_more, rest.one_each);
    }

-- how much a line adds, by whether the last payload takes it
pub stored_length-with_line : (limit : ℕ) (on_stream : Bool) (payloads : List (List ℕ)) (line : List ℕ)
    → stored_length on_stream (with_line limit payloads line) ≡ stored_length on_stream payloads + (length (before_line on_stream (last_takes limit payloads (length line))) + length line)
stored_length-with_line limit on_stream [] line = omega (arith, length-replicate {A = ℕ} (prefix_length on_stream) 0)
stored_length-with_line limit on_stream (first ∷ payloads) line =
    elim (last_takes limit (first ∷ payloads) (length line)) as (λ b. stored_length on_stream (cond b (behind_last (first ∷ payloads) line) ((first ∷ payloads) ++ line ∷ []))
    ≡ stored_length on_stream (first ∷ payloads) + (length (before_line on_stream b) + length line)) [
      | true ↦ omega (arith, stored_length-behind_last on_stream first payloads line)
      | false ↦ omega (arith, stored_length-push on_stream (first ∷ payloads) line, length-replicate {A = ℕ} (prefix_length on_stream) 0)
    ]

pub length-with_line : (limit : ℕ) (payloads : List (List ℕ)) (line bytes : List ℕ) → length (with_line limit payloads line) ≡ length payloads + length (start_of_line (last_takes limit payloads (length line)) bytes)
length-with_line limit [] line bytes = refl
length-with_line limit (first ∷ payloads) line bytes =
    elim (last_takes limit (first ∷ payloads) (length line)) as (λ b. length (cond b (behind_last (first ∷ payloads) line) ((first ∷ payloads) ++ line ∷ []))
    ≡ length (first ∷ payloads) + length (start_of_line b bytes)) [
      | true ↦ omega (arith, length-behind_last first payloads line)
      | false ↦ omega (arith, length-append (first ∷ payloads) (line ∷ []))
    ]

-- payloads grow
pub record Grow (on_stream : Bool) (payloads after : List (List ℕ)) : Type 0 where
  pub stored : stored_length on_stream payloads ≤ stored_length on_stream after
  pub no_fewer : length payloads ≤ length after

pub grow : (limit : ℕ) (on_stream : Bool) (payloads lines : List (List ℕ)) → Grow on_stream payloads (filled limit payloads lines)
grow limit on_stream payloads [] = record { stored = omega arith; no_fewer = omega arith }
grow limit on_stream payloads (line ∷ lines) =
    let first = line_adds limit on_stream payloads line in
    let rest = grow limit on_stream (with_line limit payloads line) lines in
    record { stored = omega arith; no_fewer = omega arith }
