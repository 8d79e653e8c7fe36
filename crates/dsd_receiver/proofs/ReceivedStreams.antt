-- A stream that is received payload by payload.
use Rattle.std.proofs.Common.{◌≡◌, ◌≢◌, ℕ, suc, ◌+◌, ◌≤◌, List, [], ◌∷◌, ◌++◌, length, append-nil, refl, sym, ap, subst, ◌∙◌, arith, length-append}
use Rattle.std.specs.Prelude.{Option, true, filter, is_none, is_some, Bool}
use Rattle.std.proofs.lemmas.List.Concat.{flat_map-append}
use Rattle.std.proofs.lemmas.List.Elements.{filter-append}
use Rattle.std.proofs.lemmas.List.Sums.{fold-append}
use Rattle.dsd_writer.specs.Lines.{framed}
use Rattle.prom_exporter.specs.State.{PrometheusState, empty_state}
use Rattle.dsd_lines.specs.declared.dialects.Dialect.TheVariants.{DogStatsd}
use Rattle.dsd_lines.specs.Frames.{BeginsNoFrame, Splits, stream_of}
use Rattle.dsd_lines.specs.Grammar.{LineText}
use Rattle.dsd_lines.specs.Payloads.{payload_lines}
use Rattle.dsd_lines.proofs.Streams.{all_taken, frames_told, too_short}
use Rattle.dsd_receiver.specs.Received.{AreRead, after_reading, after_readings, count_bad, count_lines}
use Rattle.dsd_receiver.specs.Receiving.{IsApplied}
use Rattle.dsd_receiver.specs.declared.receiver.Applied.{Applied}
use Rattle.dsd_receiver.specs.Streams.{IsCutAfter, IsTakenIn, lines_of}
use Rattle.dsd_receiver.specs.declared.streams.Received.{Received}

-- the payloads that stand before the rest of a stream were received
pub record IsTakenSoFar (bytes rest : List ℕ) (received : Received) (state : PrometheusState) : Type 0 where
  pub frames : List (List ℕ)
  pub readings : List (Option LineText)
  pub split : Splits bytes frames rest
  pub are_read : AreRead DogStatsd (lines_of frames) readings
  pub state_is : state ≡ after_readings 0 readings empty_state
  pub frames_are : received.frames ≡ length frames
  pub lines_are : received.lines ≡ count_lines readings
  pub bad_are : received.bad ≡ count_bad readings
  pub few : received.frames + received.lines + received.bad + length rest ≤ length bytes

pub none_taken : (bytes rest : List ℕ) (state : PrometheusState) → Splits bytes [] rest → state ≡ empty_state
    → IsTakenSoFar bytes rest (record { frames = 0; lines = 0; bad = 0 }) state
none_taken bytes rest state split empty = record {
  frames = [];
  readings = [];
  split = split;
  are_read = tt;
  state_is = empty;
  frames_are = refl;
  lines_are = refl;
  bad_are = refl;
  few = omega (arith, ap length split.whole);
}

read_both : (lines others : List (List ℕ)) (readings more : List (Option LineText)) → AreRead DogStatsd lines readings → AreRead DogStatsd others more → AreRead DogStatsd (lines ++ others) (readings ++ more)
read_both [] others [] more read also = also
read_both [] others (reading ∷ readings) more read also = absurd read
read_both (line ∷ lines) others [] more read also = absurd read
read_both (line ∷ lines) others (reading ∷ readings) more read also = (read.0, read_both lines others readings more read.1 also)

counted_both : (p : Option LineText → Bool) (readings more : List (Option LineText)) → length (filter p (readings ++ more)) ≡ length (filter p readings) + length (filter p more)
counted_both p readings more = ap length (filter-append p readings more) ∙ length-append (filter p readings) (filter p more)

framed_length : (payload : List ℕ) → length (framed true payload) ≡ suc (suc (suc (suc (length payload))))
framed_length payload = refl

-- one payload more
pub one_more : (bytes rest payload rest' : List ℕ) (received received' : Received) (applied : Applied) (state state' : PrometheusState) → (so_far : IsTakenSoFar bytes rest received state)
    → rest ≡ framed true payload ++ rest' → Splits bytes (so_far.frames ++ payload ∷ []) rest' → IsApplied DogStatsd 0 (payload_lines payload) state applied state'
    → applied.lines + applied.bad ≤ length payload
    → received'.frames ≡ received.frames + 1 → received'.lines ≡ received.lines + applied.lines → received'.bad ≡ received.bad + applied.bad
    → IsTakenSoFar bytes rest' received' state'
one_more bytes rest payload rest' received received' applied state state' so_far front split is within frames lines bad = record {
  frames = so_far.frames ++ payload ∷ [];
  readings = so_far.readings ++ is.readings;
  split = split;
  are_read = subst (λ ls. AreRead DogStatsd ls (so_far.readings ++ is.readings)) (sym more_lines) (read_both (lines_of so_far.frames) (payload_lines payload) so_far.readings is.readings so_far.are_read is.are_read);
  state_is = is.state ∙ ap (after_readings 0 is.readings) so_far.state_is ∙ sym (fold-append (after_reading 0) empty_state so_far.readings is.readings);
  frames_are = frames ∙ ap (λ n. n + 1) so_far.frames_are ∙ sym (length-append so_far.frames (payload ∷ []));
  lines_are = omega (arith, lines, so_far.lines_are, is.lines_are, counted_both is_some so_far.readings is.readings);
  bad_are = omega (arith, bad, so_far.bad_are, is.bad_are, counted_both is_none so_far.readings is.readings);
  few = omega (arith, so_far.few, ap length front, length-append (framed true payload) rest', framed_length payload, within, frames, lines, bad);
}
  where
    more_lines : lines_of (so_far.frames ++ payload ∷ []) ≡ lines_of so_far.frames ++ payload_lines payload
    more_lines = flat_map-append payload_lines so_far.frames (payload ∷ []) ∙ ap (λ l. lines_of so_far.frames ++ l) (append-nil (payload_lines payload))

-- nothing is left
pub all_received : (bytes rest : List ℕ) (received : Received) (state : PrometheusState) → IsTakenSoFar bytes rest received state → rest ≡ [] → IsTakenIn bytes received state
all_received bytes rest received state so_far none = record {
  counted = record {
    frames = so_far.frames;
    readings = so_far.readings;
    whole = subst (λ r. Splits bytes so_far.frames r) none so_far.split;
    are_read = so_far.are_read;
    frames_are = so_far.frames_are;
    lines_are = so_far.lines_are;
    bad_are = so_far.bad_are;
  };
  state_is = so_far.state_is;
}

append_same : (xs ys zs : List ℕ) → xs ++ ys ≡ xs ++ zs → ys ≡ zs
append_same [] ys zs same = same
append_same (x ∷ xs) ys zs same = append_same xs ys zs (rest same)
  where
    rest : x ∷ (xs ++ ys) ≡ x ∷ (xs ++ zs) → xs ++ ys ≡ xs ++ zs
    rest e = cc

-- something is left, and no whole frame stands at its front
pub cut_after : (bytes rest : List ℕ) (received : Received) (state : PrometheusState) → IsTakenSoFar bytes rest received state → rest ≢ [] → BeginsNoFrame rest → IsCutAfter bytes received.frames
cut_after bytes rest received state so_far some no_more = (
  λ all split.
      let same : so_far.frames ≡ all = frames_told bytes so_far.frames all (all_taken bytes so_far.frames rest no_more so_far.split) (all_taken bytes all [] (too_short [] (omega arith)) split) in
      some (append_same (stream_of so_far.frames) rest [] (sym so_far.split.whole ∙ split.whole ∙ ap (λ f. stream_of f ++ []) (sym same))),
  (so_far.frames, all_taken bytes so_far.frames rest no_more so_far.split, so_far.frames_are),
)
