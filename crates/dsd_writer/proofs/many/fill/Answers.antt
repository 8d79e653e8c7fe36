use Rattle.std.proofs.Common.{◌≡◌, ℕ, ◌+◌, ◌-◌, ◌<◌, ◌≤◌, ◌==◌, Bool, false, List, [], ◌∷◌, ◌++◌, length, map, take, drop, vec_capacity, sym, ap, subst, ◌∙◌, refl, arith}
use Rattle.std.specs.Result.{is_ok}
use Rattle.std.specs.declared.snapshot.Snapshot.{Snapshot}
use Rattle.std.proofs.lemmas.Bool.{false≢true}
use Rattle.std.proofs.lemmas.Bool.Decides.{nat_tests}
use Rattle.std.proofs.lemmas.List.{append-nil, length-map, map-append, take-append-drop}
use Rattle.metrics_core.specs.declared.numbers.Fixed.{Fixed as FixedOf}
use Rattle.metrics_core.specs.Numbers.{dogstatsd_number}
use Rattle.dsd_writer.specs.Cuts.{full_cut}
use Rattle.dsd_writer.specs.Lines.{line_fits, line_of, spelled_values}
use Rattle.dsd_writer.specs.Packing.{before_line, filled, last_takes, noted, payloads_at, start_of_line}
use Rattle.dsd_writer.specs.Runs.{short_values}
use Rattle.dsd_writer.proofs.Filling.{IsFilling, IsNoting, filling_fills, filling_skips, noting_fills, noting_skips, room_for_line, room_for_note}
use Rattle.dsd_writer.proofs.LineLengths.{length-line_of, none_fits}
use Rattle.dsd_writer.proofs.many.fill.Goals as goal
use Rattle.dsd_writer.proofs.many.fill.Goals.{then-run-gt0+in_ok-make_way, else-run-gt0}

some_left : (n : ℕ) (none : Bool) → none ≡ (n == 0) → none ≡ false → 0 < n
some_left n none is not = grind (arith, nat_tests)

pub returns-in_default-clause-ok : goal.returns-in_default-clause-ok
returns-in_default-clause-ok c =
    let none = none_fits c.args.limit c.args.item.now (spelled_values c.args.values.now) (c.in_default.ensures.none.0 refl) in
    let payloads = payloads_at c.args.on_stream c.args.starts.now.items c.args.bytes.now.items in
    ap (λ kept. filled c.args.limit payloads (map (line_of c.args.item.now) (full_cut (line_fits c.args.limit c.args.item.now) kept))) (sym none.0)

pub returns-in_default-clause-lengths : goal.returns-in_default-clause-lengths
returns-in_default-clause-lengths c =
    let none = none_fits c.args.limit c.args.item.now (spelled_values c.args.values.now) (c.in_default.ensures.none.0 refl) in
    let before = noted c.args.lengths.now.items in
    sym (append-nil before) ∙ ap (λ kept. before ++ map length (map (line_of c.args.item.now) (full_cut (line_fits c.args.limit c.args.item.now) kept))) (sym none.0)

pub returns-in_default-clause-written : goal.returns-in_default-clause-written
returns-in_default-clause-written c =
    let none = none_fits c.args.limit c.args.item.now (spelled_values c.args.values.now) (c.in_default.ensures.none.0 refl) in
    let count : length c.args.values.now ≡ length (spelled_values c.args.values.now) = sym (length-map c.args.values.now (λ (value : FixedOf). dogstatsd_number value.0)) in
    c.new.ensures ∙ (λ j. record {
      lines = length (map (line_of c.args.item.now) (full_cut (line_fits c.args.limit c.args.item.now) (sym none.0 j)));
      left_out = (count ∙ sym (ap length none.1)) j;
    })

pub returns-in_err-make_way-clause-no_memory : goal.returns-in_err-make_way-clause-no_memory
returns-in_err-make_way-clause-no_memory c = λ bytes_enough starts_enough lengths_enough.
    let limit = c.args.limit in
    let on_stream = c.args.on_stream in
    let item = c.args.item.now in
    let values = spelled_values c.args.values.now in
    let room = c.in-Some.room in
    let split = c.in-Some.ensures.room in
    let rest = c.loop-rest.rest.now in
    let taken = c.run_of-run.result.taken in
    let front = spelled_values (take taken rest) in
    let behind = spelled_values (drop taken rest) in
    let run = c.run_of-run.ensures.run in
    let bytes_before = c.args.bytes.now.items in
    let starts_before = c.args.starts.now.items in
    let bytes = c.loop-rest.bytes in
    let starts = c.loop-rest.starts in
    let all : spelled_values rest ≡ front ++ behind = ap spelled_values (sym (take-append-drop taken rest)) ∙ map-append (λ (value : FixedOf). dogstatsd_number value.0) (take taken rest) (drop taken rest) in
    let filling = subst (λ (texts : List (List ℕ)). IsFilling limit on_stream item values texts bytes_before starts_before bytes.items starts.items c.loop-rest.lines c.loop-rest.left_out) all c.loop-rest.invariant.filling in
    let line = line_of item (short_values room front) in
    let payloads = payloads_at on_stream starts.items bytes.items in
    let n = limit - room + c.run_of-run.result.used in
    let size : n ≡ length line = omega (arith, split, run.weight, length-line_of item (short_values room front)) in
    let enough = room_for_line limit on_stream item values bytes_before starts_before room front behind bytes.items starts.items c.loop-rest.lines c.loop-rest.left_out c.run_of-run.result.used c.run_of-run.result.left_out
    (vec_capacity bytes) (vec_capacity starts) split filling run c.if-run-gt0.true (omega (arith, c.loop-rest.invariant.bytes_capacity, bytes_enough)) (omega (arith, c.loop-rest.invariant.starts_capacity, starts_enough)) in
    let bytes_now = subst (λ (m : ℕ). length bytes.items + length (before_line on_stream (last_takes limit payloads m)) + m ≤ vec_capacity bytes) (sym size) enough.0 in
    let starts_now = subst (λ (m : ℕ). length starts.items + length (start_of_line (last_takes limit payloads m) bytes.items) ≤ vec_capacity starts) (sym size) enough.1 in
    let noting = subst (λ (texts : List (List ℕ)). IsNoting limit item values texts c.args.lengths.now.items c.loop-rest.lengths.items) all c.loop-rest.invariant.noting in
    let note = room_for_note limit item values c.args.lengths.now.items room front behind c.loop-rest.lengths.items c.run_of-run.result.used c.run_of-run.result.left_out (vec_capacity c.loop-rest.lengths) split noting run c.if-run-gt0.true
    (omega (arith, c.loop-rest.invariant.lengths_capacity, lengths_enough)) in
    let ok = c.make_way.ensures.no_memory (omega (arith, bytes_now)) (omega (arith, starts_now)) (omega (arith, note)) in
    absurd (false≢true (sym (ap is_ok c.in_err-make_way.was) ∙ ok))

pub loop-rest-preserved : goal.loop-rest-preserved
loop-rest-preserved c =
    let limit = c.args.limit in
    let on_stream = c.args.on_stream in
    let item = c.args.item.now in
    let values = spelled_values c.args.values.now in
    let room = c.in-Some.room in
    let split = c.in-Some.ensures.room in
    let rest = c.loop-rest.rest.now in
    let taken = c.run_of-run.result.taken in
    let front = spelled_values (take taken rest) in
    let behind = spelled_values (drop taken rest) in
    let run = c.run_of-run.ensures.run in
    let bytes_before = c.args.bytes.now.items in
    let starts_before = c.args.starts.now.items in
    let bytes = c.loop-rest.bytes in
    let starts = c.loop-rest.starts in
    let all : spelled_values rest ≡ front ++ behind = ap spelled_values (sym (take-append-drop taken rest)) ∙ map-append (λ (value : FixedOf). dogstatsd_number value.0) (take taken rest) (drop taken rest) in
    let filling = subst (λ (texts : List (List ℕ)). IsFilling limit on_stream item values texts bytes_before starts_before bytes.items starts.items c.loop-rest.lines c.loop-rest.left_out) all c.loop-rest.invariant.filling in
    let line = line_of item (short_values room front) in
    let payloads = payloads_at on_stream starts.items bytes.items in
    let n = limit - room + c.run_of-run.result.used in
    let size : n ≡ length line = omega (arith, split, run.weight, length-line_of item (short_values room front)) in
    let back : spelled_values c.split_at.result.1.now ≡ behind = ap spelled_values c.split_at.ensures.back in
    let some = c.run_of-run.ensures.some (some_left (length rest) c.is_empty.result c.is_empty.ensures c.loop-rest-test.true) in
    let count : length front ≡ taken = length-map (take taken rest) (λ (value : FixedOf). dogstatsd_number value.0) ∙ sym (ap length c.split_at.ensures.front) ∙ c.split_at.ensures.front_len in
    let left : c.run_of-run.result.left_out ≤ taken = omega (arith, run.dropped, count) in
    let lengths_before = c.args.lengths.now.items in
    let lengths = c.loop-rest.lengths in
    let noting = subst (λ (texts : List (List ℕ)). IsNoting limit item values texts lengths_before lengths.items) all c.loop-rest.invariant.noting in
    elim c.if-run-gt0.branch [
      | then-run-gt0+in_ok-make_way w ↦
          let pushed = ap (λ (texts : List FixedOf). line_of item (short_values room (spelled_values texts))) c.split_at.ensures.front in
          let bytes_now = subst (λ (m : ℕ). w.make_way.new.bytes.items ≡ bytes.items ++ before_line on_stream (last_takes limit payloads m)) size w.in_ok-make_way.ensures.bytes in
          let starts_now = subst (λ (m : ℕ). w.make_way.new.starts.items ≡ starts.items ++ start_of_line (last_takes limit payloads m) bytes.items) size w.in_ok-make_way.ensures.starts in
          let now = filling_fills limit on_stream item values bytes_before starts_before room front behind bytes.items starts.items w.push_line.new.bytes.items w.make_way.new.starts.items
          c.loop-rest.lines c.loop-rest.left_out c.run_of-run.result.used c.run_of-run.result.left_out split filling run w.if-run-gt0.true
          (w.push_line.ensures.items ∙ (λ j. bytes_now j ++ pushed j)) starts_now in
          let same = w.make_way.ensures.lengths.0 in
          let kept = ap (λ (l : List (Snapshot ℕ)). take (length l) w.note_length.new.lengths.items) (sym same) ∙ w.note_length.ensures.kept ∙ same in
          let noting_now = noting_fills limit item values lengths_before room front behind lengths.items w.note_length.new.lengths.items n c.run_of-run.result.used c.run_of-run.result.left_out split noting run w.if-run-gt0.true
          size (w.note_length.ensures.noted ∙ ap (λ (l : List (Snapshot ℕ)). noted l ++ n ∷ []) same) kept in
          rw (w.bytes-is, w.starts-is, w.lengths-is, w.lines-is) (record {
            filling = subst (λ (texts : List (List ℕ)). IsFilling limit on_stream item values texts bytes_before starts_before w.push_line.new.bytes.items w.make_way.new.starts.items (c.loop-rest.lines + 1) (c.loop-rest.left_out + c.run_of-run.result.left_out)) (sym back) now;
            few_lines = omega (arith, c.loop-rest.invariant.few_lines, c.split_at.ensures.back_len, some);
            few_out = omega (arith, c.loop-rest.invariant.few_out, c.split_at.ensures.back_len, left);
            bytes_capacity = omega (arith, c.loop-rest.invariant.bytes_capacity, w.make_way.ensures.capacities.0, w.push_line.ensures.capacity);
            starts_capacity = omega (arith, c.loop-rest.invariant.starts_capacity, w.make_way.ensures.capacities.1);
            noting = subst (λ (texts : List (List ℕ)). IsNoting limit item values texts lengths_before w.note_length.new.lengths.items) (sym back) noting_now;
            lengths_capacity = omega (arith, c.loop-rest.invariant.lengths_capacity, w.make_way.ensures.capacities.2, w.note_length.ensures.capacity);
          })
      | else-run-gt0 w ↦
          let none : c.run_of-run.result.used ≡ 0 = omega (arith, w.if-run-gt0.false) in
          let now = filling_skips limit on_stream item values bytes_before starts_before room front behind bytes.items starts.items c.loop-rest.lines c.loop-rest.left_out c.run_of-run.result.used c.run_of-run.result.left_out split filling run none in
          let noting_now = noting_skips limit item values lengths_before room front behind lengths.items c.run_of-run.result.used c.run_of-run.result.left_out split noting run none in
          rw (w.bytes-is, w.starts-is, w.lengths-is, w.lines-is) (record {
            filling = subst (λ (texts : List (List ℕ)). IsFilling limit on_stream item values texts bytes_before starts_before bytes.items starts.items c.loop-rest.lines (c.loop-rest.left_out + c.run_of-run.result.left_out)) (sym back) now;
            few_lines = omega (arith, c.loop-rest.invariant.few_lines, c.split_at.ensures.back_len);
            few_out = omega (arith, c.loop-rest.invariant.few_out, c.split_at.ensures.back_len, left);
            bytes_capacity = c.loop-rest.invariant.bytes_capacity;
            starts_capacity = c.loop-rest.invariant.starts_capacity;
            noting = subst (λ (texts : List (List ℕ)). IsNoting limit item values texts lengths_before lengths.items) (sym back) noting_now;
            lengths_capacity = c.loop-rest.invariant.lengths_capacity;
          })
    ]
