-- A payload whose lines are applied one after another.
use Rattle.std.proofs.Common.{◌≡◌, ℕ, ◌+◌, ◌<◌, ◌≤◌, Bool, true, false, List, [], ◌∷◌, ◌++◌, length, Option, Some, None, refl, sym, ap, subst, ◌∙◌, append_assoc, append-nil, arith}
use Rattle.std.specs.Prelude.{filter, is_some, is_none}
use Rattle.std.proofs.lemmas.List.{length-append}
use Rattle.std.proofs.lemmas.List.Elements.{filter-append}
use Rattle.std.proofs.lemmas.Slice.Zip.{AllZip-long, all_zipped_more}
use Rattle.dsd_lines.specs.declared.dialects.Dialect.{Dialect}
use Rattle.dsd_lines.specs.Grammar.{LineText}
use Rattle.dsd_lines.specs.Payloads.{payload_lines}
use Rattle.prom_exporter.specs.State.{PrometheusState}
use Rattle.dsd_receiver.specs.declared.receiver.Applied.{Applied}
use Rattle.dsd_receiver.specs.declared.receiver.ReceiveFault.TheVariants as faults
use Rattle.dsd_receiver.specs.Received.{AreRead, IsRead, after_reading, after_readings, count_bad, count_lines}
use Rattle.dsd_receiver.specs.Receiving.{IsApplied, IsReceived, IsStopped, StopsIn}

-- the first lines of a payload were applied, and these bytes are left of it
pub record SoFar (dialect : Dialect) (moment : ℕ) (payload rest : List ℕ) (s : PrometheusState) (applied : Applied) (t : PrometheusState) : Type 0 where
  pub treated : List (List ℕ)
  pub lines_are : payload_lines payload ≡ treated ++ payload_lines rest
  pub applies : IsApplied dialect moment treated s applied t
  pub few : applied.lines + applied.bad + length rest ≤ length payload

no_lines : payload_lines [] ≡ []
no_lines = refl

pub so_far_begin : (dialect : Dialect) (moment : ℕ) (payload : List ℕ) (s : PrometheusState) → SoFar dialect moment payload payload s (record { lines = 0; bad = 0 }) s
so_far_begin dialect moment payload s = record {
  treated = [];
  lines_are = refl;
  applies = record { readings = []; are_read = tt; state = refl; lines_are = refl; bad_are = refl };
  few = (omega arith);
}

after_last : (moment : ℕ) (readings : List (Option LineText)) (reading : Option LineText) (s : PrometheusState) → after_readings moment (readings ++ reading ∷ []) s ≡ after_reading moment (after_readings moment readings s) reading
after_last moment [] reading s = refl
after_last moment (r ∷ rs) reading s = after_last moment rs reading (after_reading moment s r)

module _ (readings : List (Option LineText)) where
  lines_last : (reading : Option LineText) → count_lines (readings ++ reading ∷ []) ≡ count_lines readings + count_lines (reading ∷ [])
  lines_last reading = ap length (filter-append is_some readings (reading ∷ [])) ∙ length-append (filter is_some readings) (filter is_some (reading ∷ []))

  bad_last : (reading : Option LineText) → count_bad (readings ++ reading ∷ []) ≡ count_bad readings + count_bad (reading ∷ [])
  bad_last reading = ap length (filter-append is_none readings (reading ∷ [])) ∙ length-append (filter is_none readings) (filter is_none (reading ∷ []))

count_all : (readings : List (Option LineText)) → count_lines readings + count_bad readings ≡ length readings
count_all [] = refl
count_all (None ∷ rs) = let rest = count_all rs in omega (arith, rest)
count_all (Some said ∷ rs) = let rest = count_all rs in omega (arith, rest)

module _ (dialect : Dialect) (moment : ℕ) (payload rest : List ℕ) (s t u : PrometheusState) (applied : Applied) (so_far : SoFar dialect moment payload rest s applied t)
    (line behind : List ℕ) (split : payload_lines rest ≡ line ∷ payload_lines behind) (shorter : length behind < length rest) where
  all_lines : payload_lines payload ≡ (so_far.treated ++ line ∷ []) ++ payload_lines behind
  all_lines = so_far.lines_are ∙ ap (λ l. so_far.treated ++ l) split ∙ sym (append_assoc so_far.treated (line ∷ []) (payload_lines behind))

  -- there is room for one more in either count
  pub few_so_far : applied.lines + applied.bad < length payload
  few_so_far = let few = so_far.few in omega (arith, few, shorter)

  read_next : (reading : Option LineText) → IsRead dialect line reading → u ≡ after_reading moment t reading → AreRead dialect (so_far.treated ++ line ∷ []) (so_far.applies.readings ++ reading ∷ []) × (u ≡ after_readings moment (so_far.applies.readings ++ reading ∷ []) s)
  read_next reading is state = (
    all_zipped_more (IsRead dialect) so_far.treated so_far.applies.readings line reading so_far.applies.are_read is,
    state ∙ ap (λ x. after_reading moment x reading) so_far.applies.state ∙ sym (after_last moment so_far.applies.readings reading s),
  )

  pub so_far_line : IsReceived dialect moment line true t u → SoFar dialect moment payload behind s (record applied { lines = applied.lines + 1 }) u
  so_far_line (said, is, state) =
      let next = read_next (Some said) is state in
      record {
        treated = so_far.treated ++ line ∷ [];
        lines_are = all_lines;
        applies = record {
          readings = so_far.applies.readings ++ Some said ∷ [];
          are_read = next.0;
          state = next.1;
          lines_are = ap (λ n. n + 1) so_far.applies.lines_are ∙ sym (lines_last so_far.applies.readings (Some said));
          bad_are = (let own = so_far.applies.bad_are in let last = bad_last so_far.applies.readings (Some said) in omega (arith, own, last));
        };
        few = (let few = so_far.few in omega (arith, few, shorter));
      }

  pub so_far_bad : IsReceived dialect moment line false t u → SoFar dialect moment payload behind s (record applied { bad = applied.bad + 1 }) u
  so_far_bad (none, state) =
      let next = read_next None none state in
      record {
        treated = so_far.treated ++ line ∷ [];
        lines_are = all_lines;
        applies = record {
          readings = so_far.applies.readings ++ None ∷ [];
          are_read = next.0;
          state = next.1;
          lines_are = (let own = so_far.applies.lines_are in let last = lines_last so_far.applies.readings None in omega (arith, own, last));
          bad_are = ap (λ n. n + 1) so_far.applies.bad_are ∙ sym (bad_last so_far.applies.readings None);
        };
        few = (let few = so_far.few in omega (arith, few, shorter));
      }

  pub so_far_stops : (registered : Bool) (values : ℕ) → StopsIn dialect moment line registered values t u → IsStopped dialect moment (payload_lines payload) s (faults.Memory true (applied.lines + applied.bad) registered values) u
  so_far_stops registered values stops = (
    refl,
    record {
      treated = so_far.treated;
      next = line;
      later = payload_lines behind;
      lines_are = so_far.lines_are ∙ ap (λ l. so_far.treated ++ l) split;
      done_is =
          (let lines = so_far.applies.lines_are in let bad = so_far.applies.bad_are in let all = count_all so_far.applies.readings in
          let long = AllZip-long (IsRead dialect) so_far.treated so_far.applies.readings so_far.applies.are_read in omega (arith, lines, bad, all, long));
      between = t;
      receives = (so_far.applies.readings, so_far.applies.are_read, so_far.applies.state);
      stops = stops;
    },
  )

pub so_far_end : (dialect : Dialect) (moment : ℕ) (payload rest : List ℕ) (s t : PrometheusState) (applied : Applied) → SoFar dialect moment payload rest s applied t → length rest ≡ 0 → IsApplied dialect moment (payload_lines payload) s applied t
so_far_end dialect moment payload [] s t applied so_far none =
    subst (λ lines. IsApplied dialect moment lines s applied t) (sym (so_far.lines_are ∙ ap (λ l. so_far.treated ++ l) no_lines ∙ append-nil so_far.treated)) so_far.applies
so_far_end dialect moment payload (c ∷ rest) s t applied so_far none = absurd (omega (arith, none))
