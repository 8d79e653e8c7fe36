-- Payloads that are applied one after another.
use Rattle.std.proofs.Common.{◌≡◌, ℕ, ◌+◌, ◌^◌, ◌<◌, Bool, true, false, List, [], ◌∷◌, ◌++◌, length, Option, refl, sym, ap, subst, ◌∙◌, append_assoc, append-nil, arith, Some, None}
use Rattle.std.specs.Prelude.{flat_map, filter, is_some, Result, Ok, Err, IfOk, IfErr}
use Rattle.std.proofs.lemmas.Bool.{true≢false}
use Rattle.std.specs.List.{AllZip}
use Rattle.std.proofs.lemmas.Grind.{flat_map-append}
use Rattle.std.proofs.lemmas.List.{length-append}
use Rattle.std.proofs.lemmas.List.Elements.{filter-append}
use Rattle.std.proofs.lemmas.Slice.Zip.{AllZip-long}
use Rattle.metrics_core.specs.Numbers.{in_64_bits}
use Rattle.dsd_writer.specs.Lines.{payloads_of}
use Rattle.dsd_writer.specs.Packing.{framed_payloads}
use Rattle.dsd_writer.specs.Writers.{IsEmptied, WriterText}
use Rattle.dsd_lines.specs.declared.dialects.Dialect.TheVariants.{DogStatsd}
use Rattle.dsd_lines.specs.Grammar.{LineText}
use Rattle.dsd_lines.specs.Payloads.{payload_lines}
use Rattle.dsd_exporter.specs.Exporter.{AllHome, Exporter, state_seen}
use Rattle.dsd_exporter.specs.Flushing.{Flushes, FlushesAll, Found, IsWhole, Sends}
use Rattle.dsd_exporter.specs.State.{FlushItem, flush_items, lines_of_items}
use Rattle.dsd_exporter.specs.Updates.{UpdateText}
use Rattle.prom_exporter.specs.State.{PrometheusState}
use Rattle.dsd_receiver.specs.declared.receiver.Applied.{Applied}
use Rattle.dsd_receiver.specs.declared.receiver.ReceiveFault.{ReceiveFault}
use Rattle.dsd_receiver.specs.declared.receiver.ReceiveFault.TheVariants as faults
use Rattle.dsd_receiver.specs.Received.{AreRead, IsRead, after_readings, count_bad, count_lines}
use Rattle.dsd_receiver.specs.Receiving.{IsApplied, IsStopped}
use Rattle.flush_delivery.specs.Delivered.{IsSaidBy, after_all_said, flush_said}
use Rattle.flush_delivery.specs.Delivering.{Delivers, IsAppliedOver, IsPlain, IsStoppedOver, IsUndelivered, behind_lines, lines_delivered}
use Rattle.flush_delivery.proofs.Sent.{flush_is_said}
use Rattle.dsd_receiver.proofs.Readings.{read_once}
use Rattle.flush_delivery.proofs.Runs.{after_behind, bad_behind, items_read, payloads_read, read_behind}

count_all : (readings : List (Option LineText)) → count_lines readings + count_bad readings ≡ length readings
count_all [] = refl
count_all (None ∷ rs) = let rest = count_all rs in omega (arith, rest)
count_all (Some said ∷ rs) = let rest = count_all rs in omega (arith, rest)

-- the first payloads were applied, and these are left
pub record AppliedSoFar (moment : ℕ) (all left : List (List ℕ)) (s : PrometheusState) (applied : Applied) (t : PrometheusState) : Type 0 where
  pub done : List (List ℕ)
  pub split : all ≡ done ++ left
  pub applies : IsAppliedOver moment (flat_map payload_lines done) s applied t

pub applied_begin : (moment : ℕ) (all : List (List ℕ)) (s : PrometheusState) → AppliedSoFar moment all all s (record { lines = 0; bad = 0 }) s
applied_begin moment all s = record { done = []; split = refl; applies = record { readings = []; are_read = tt; state = refl; lines_are = refl; bad_are = refl } }

lines_behind : (rs ts : List (Option LineText)) → count_lines (rs ++ ts) ≡ count_lines rs + count_lines ts
lines_behind rs ts = ap length (filter-append is_some rs ts) ∙ length-append (filter is_some rs) (filter is_some ts)

counted : (a b n m k : ℕ) → a ≡ in_64_bits n → b ≡ m → k ≡ n + m → in_64_bits (a + b) ≡ in_64_bits k
counted a b n m k first second all = omega (arith, first, second, all)

module _ (moment : ℕ) (all left : List (List ℕ)) (s t u : PrometheusState) (applied : Applied) (so_far : AppliedSoFar moment all left s applied t)
    (payload : List ℕ) (others : List (List ℕ)) (next : left ≡ payload ∷ others) where
  abbrev before : List (List ℕ)
  before = flat_map payload_lines so_far.done

  lines_next : flat_map payload_lines (so_far.done ++ payload ∷ []) ≡ before ++ payload_lines payload
  lines_next = flat_map-append payload_lines so_far.done (payload ∷ []) ∙ ap (λ l. before ++ l) (append-nil (payload_lines payload))

  pub applied_next : (more both : Applied) → IsApplied DogStatsd moment (payload_lines payload) t more u → both.lines ≡ in_64_bits (applied.lines + more.lines) → both.bad ≡ in_64_bits (applied.bad + more.bad)
      → AppliedSoFar moment all others s both u
  applied_next more both applies lines bad =
      let first = so_far.applies in
      record {
        done = so_far.done ++ payload ∷ [];
        split = so_far.split ∙ ap (λ l. so_far.done ++ l) next ∙ sym (append_assoc so_far.done (payload ∷ []) others);
        applies = record {
          readings = first.readings ++ applies.readings;
          are_read = subst (λ l. AreRead DogStatsd l (first.readings ++ applies.readings)) (sym lines_next) (read_behind before (payload_lines payload) first.readings applies.readings first.are_read applies.are_read);
          state = applies.state ∙ ap (after_readings moment applies.readings) first.state ∙ sym (after_behind moment first.readings applies.readings s);
          lines_are = lines ∙ counted applied.lines more.lines _ _ _ first.lines_are applies.lines_are (lines_behind first.readings applies.readings);
          bad_are = bad ∙ counted applied.bad more.bad _ _ _ first.bad_are applies.bad_are (bad_behind first.readings applies.readings);
        };
      }

  many_before : length before ≡ count_lines so_far.applies.readings + count_bad so_far.applies.readings
  many_before = sym (AllZip-long (IsRead DogStatsd) before so_far.applies.readings so_far.applies.are_read) ∙ sym (count_all so_far.applies.readings)

  pub applied_stops : (fault : ReceiveFault) → IsStopped DogStatsd moment (payload_lines payload) t fault u → IsStoppedOver moment (flat_map payload_lines all) s (behind_lines applied fault) u
  applied_stops (faults.Memory flushed done registered values) (flush, stops) =
      let first = so_far.applies in
      let lines : flat_map payload_lines all ≡ before ++ (payload_lines payload ++ flat_map payload_lines others) =
      ap (flat_map payload_lines) (so_far.split ∙ ap (λ l. so_far.done ++ l) next) ∙ flat_map-append payload_lines so_far.done (payload ∷ others) in (
        flush,
        length before + done,
        (let ls = first.lines_are in let bs = first.bad_are in let many = many_before in omega (arith, ls, bs, many)),
        record {
          treated = before ++ stops.treated;
          next = stops.next;
          later = stops.later ++ flat_map payload_lines others;
          lines_are = lines ∙ ap (λ l. before ++ (l ++ flat_map payload_lines others)) stops.lines_are
              ∙ ap (λ l. before ++ l) (append_assoc stops.treated (stops.next ∷ stops.later) (flat_map payload_lines others))
              ∙ sym (append_assoc before stops.treated (stops.next ∷ (stops.later ++ flat_map payload_lines others)));
          done_is = (let both = length-append before stops.treated in let own = stops.done_is in omega (arith, both, own));
          between = stops.between;
          receives = (
            first.readings ++ stops.receives.0,
            read_behind before stops.treated first.readings stops.receives.0 first.are_read stops.receives.1,
            stops.receives.2 ∙ ap (after_readings moment stops.receives.0) first.state ∙ sym (after_behind moment first.readings stops.receives.0 s),
          );
          stops = stops.stops;
        },
      )

pub applied_all : (moment : ℕ) (all left : List (List ℕ)) (s t : PrometheusState) (applied : Applied) → AppliedSoFar moment all left s applied t → left ≡ [] → IsAppliedOver moment (flat_map payload_lines all) s applied t
applied_all moment all left s t applied so_far none =
    subst (λ l. IsAppliedOver moment (flat_map payload_lines l) s applied t) (sym (so_far.split ∙ ap (λ l. so_far.done ++ l) none ∙ append-nil so_far.done)) so_far.applies

-- payloads that are not led by their lengths
pub framed_plain : (payloads : List (List ℕ)) → framed_payloads false payloads ≡ payloads
framed_plain [] = refl
framed_plain (payload ∷ payloads) = ap (λ l. payload ∷ l) (framed_plain payloads)

-- what a flush sent is what the receiver has
pub delivered_said : (moment : ℕ) (w written : WriterText) (u n : UpdateText) (s t : PrometheusState) (applied : Applied) → IsPlain w → IsAppliedOver moment (lines_delivered written) s applied t
    → (items : List FlushItem) (saids : List LineText) → Sends items w written u n → AllZip (λ item said. IsSaidBy item.item item.values said) items saids
    → (applied.bad ≡ 0) × (s.limit ≡ None → t ≡ after_all_said moment w.limit saids s)
delivered_said moment w written u n s t applied plain applies items saids sends said =
    let read = items_read w.limit moment items saids said in
    let lines : written.lines ≡ lines_of_items w.limit items = sends.lines ∙ ap (λ l. l ++ lines_of_items w.limit items) plain.lines in
    let texts : lines_delivered written ≡ read.texts = ap (λ l. flat_map payload_lines (payloads_of written.limit l)) lines ∙ payloads_read written.limit w.limit moment (lines_of_items w.limit items) _ read in
    let same : applies.readings ≡ read.readings = read_once DogStatsd read.texts applies.readings read.readings (subst (λ l. AreRead DogStatsd l applies.readings) texts applies.are_read) read.are_read in
    let none = ap count_bad same ∙ read.none_bad in
    let bad = applies.bad_are in
    (omega (arith, bad, none), λ never. applies.state ∙ ap (λ rs. after_readings moment rs s) same ∙ read.leaves s never)

-- what a writer without lengths before payloads hands out
pub plain_left : (w : WriterText) (left : List (List ℕ)) → w.on_stream ≡ false → left ≡ framed_payloads w.on_stream (payloads_of w.limit w.lines) → flat_map payload_lines left ≡ lines_delivered w
plain_left w left plain is = ap (flat_map payload_lines) (is ∙ ap (λ b. framed_payloads b (payloads_of w.limit w.lines)) plain ∙ framed_plain (payloads_of w.limit w.lines))

-- ---- what a delivery answers

pub ok_then : {T E : Type 0} (P Q : T → Type 0) (r : Result T E) → IfOk r P → ((a : T) → P a → Q a) → IfOk r Q
ok_then P Q (Ok a) p to = to a p
ok_then P Q (Err e) p to = tt

pub err_then : {T E : Type 0} (P Q : E → Type 0) (r : Result T E) → IfErr r P → ((e : E) → P e → Q e) → IfErr r Q
err_then P Q (Ok a) p to = tt
err_then P Q (Err e) p to = to e p

module _ (moment : ℕ) (old new : Exporter) (marks noted : List Bool) (w v : WriterText) (u n : UpdateText) (to_come left : Option (ℕ → ℕ)) (s t : PrometheusState) where
  pub delivered : (written : WriterText) (found : Found) → moment < 2 ^ 64 → IsPlain w → Flushes moment found old new marks noted w written u n to_come left → IsWhole found old
      → (AllHome old → FlushesAll moment old new marks noted w written u n to_come left) → IsEmptied written v
      → (applied : Applied) → IsAppliedOver moment (lines_delivered written) s applied t → Delivers moment old new marks noted w v u n to_come left s applied t
  delivered written found few plain flushes whole home emptied applied applies = record {
    written = written;
    found = found;
    flushes = flushes;
    whole = whole;
    home = home;
    emptied = emptied;
    applies = applies;
    said = delivered_said moment w written u n s t applied plain applies;
    clean = λ at_home untagged can.
        (let all = home at_home in
        delivered_said moment w written u n s t applied plain applies (flush_items old.settings [] moment all.words (state_seen marks old)) (flush_said old.settings moment (state_seen marks old))
        (subst (λ tags. Sends (flush_items old.settings tags moment all.words (state_seen marks old)) w written u n) untagged all.sends)
        (flush_is_said old.settings moment few all.words (state_seen marks old) can));
  }

  pub undelivered : (written : WriterText) (found : Found) → Flushes moment found old new marks noted w written u n to_come left → IsWhole found old → IsEmptied written v
      → (fault : ReceiveFault) → IsStoppedOver moment (lines_delivered written) s fault t → IsUndelivered moment old new marks noted w v u n to_come left s fault t
  undelivered written found flushes whole emptied (faults.Memory true done registered values) stops = (written, found, flushes, whole, emptied, stops)
  undelivered written found flushes whole emptied (faults.Memory false done registered values) stops = absurd (true≢false (sym stops.0))
