use Rattle.std.proofs.Common.{◌+◌, [], ℕ, List, take, drop, get_or, sym, ap, subst, arith}
use Rattle.std.specs.Prelude.{flat_map, string_bytes}
use Rattle.std.proofs.lemmas.List.{take_all}
use Rattle.std.proofs.lemmas.Result.{err_from_is_err_and}
use Rattle.prom_exporter.specs.Rows.{row_at}
use Rattle.prom_exporter.specs.Sending.{SendsMore, SendsPrefix}
use Rattle.prom_exporter.proofs.Progress.{sends_grown, sends_behind, sends_stopped, sends_prefix_more}
use Rattle.prom_exporter.proofs.Written.{rows-more, rows-rest}
use Rattle.prom_exporter.proofs.pages.write_new_rows.Goals as goal
use Rattle.prom_exporter.proofs.pages.write_new_rows.Given.{Over}
use Rattle.prom_exporter.proofs.pages.write_new_rows.Goals.{In_ok-push_row}

-- the row of one more series waits
pushed : (g : Over) (c : In_ok-push_row g) → SendsMore (g.K.Sink.written c.args.sink.now) (g.K.Sink.written c.loop-place.sink) (string_bytes c.args.buffer.now) (string_bytes c.push_row.new.buffer)
    (flat_map (row_at g.C.Shown.shown c.args.name.now c.args.label_sets.now c.args.series.now) (take (c.loop-place.place-index + 1) c.args.places.now))
pushed g c =
    let row = row_at g.C.Shown.shown c.args.name.now c.args.label_sets.now c.args.series.now in
    let places = c.args.places.now in
    let i = c.loop-place.place-index in
    let P : List ℕ → Type 0 = SendsMore (g.K.Sink.written c.args.sink.now) (g.K.Sink.written c.loop-place.sink) (string_bytes c.args.buffer.now) (string_bytes c.push_row.new.buffer) in
    subst P (rows-more row places [] i (omega arith)) (sends_behind _ _ _ _ _ _ _ _ c.loop-place.invariant.sent (sends_grown _ _ _ (row (get_or places i 0)) c.in_ok-push_row.ensures))

pub returns-in_err-push_row-clause-sends : goal.returns-in_err-push_row-clause-sends
returns-in_err-push_row-clause-sends g c =
    let refusal = err_from_is_err_and c.from_residual.result c.from_residual.ensures.1 in
    let row = row_at g.C.Shown.shown c.args.name.now c.args.label_sets.now c.args.series.now in
    let i = c.loop-place.place-index in
    let P : List ℕ → Type 0 = SendsPrefix (g.K.Sink.written c.args.sink.now) (g.K.Sink.written c.loop-place.sink) (string_bytes c.args.buffer.now) in
    rw refusal.1 (tt, subst P (sym (rows-rest row c.args.places.now [] i)) (sends_stopped _ _ _ _ _ (flat_map row (drop i c.args.places.now)) c.loop-place.invariant.sent))

pub returns-in_err-send_full-clause-sends : goal.returns-in_err-send_full-clause-sends
returns-in_err-send_full-clause-sends g c =
    let refusal = err_from_is_err_and c.from_residual-in_err-send_full.result c.from_residual-in_err-send_full.ensures.1 in
    let row = row_at g.C.Shown.shown c.args.name.now c.args.label_sets.now c.args.series.now in
    let i = c.loop-place.place-index in
    let P : List ℕ → Type 0 = SendsPrefix (g.K.Sink.written c.args.sink.now) (g.K.Sink.written c.send_full.new.sink) (string_bytes c.args.buffer.now) in
    let more = pushed g (goal.at.returns-in_err-send_full-clause-sends g c).In_ok-push_row in
    rw refusal.1 (
      tt,
      subst P (sym (rows-rest row c.args.places.now [] (i + 1)))
          (sends_prefix_more _ _ _ _ (flat_map row (drop (i + 1) c.args.places.now)) (λ start bytes waits. c.in_err-send_full.ensures.prefix start _ (more start bytes waits))),
    )

pub loop-place-preserved : goal.loop-place-preserved
loop-place-preserved g c = record {
  sent = λ start bytes waits. c.in_ok-send_full.ensures.sent start _ (pushed g (goal.at.loop-place-preserved g c).In_ok-push_row start bytes waits);
  never_falls = omega (arith, c.in_ok-send_full.ensures.fails.2);
}

pub returns-clause-sends : goal.returns-clause-sends
returns-clause-sends g c =
    let row = row_at g.C.Shown.shown c.args.name.now c.args.label_sets.now c.args.series.now in
    let P : List ℕ → Type 0 = SendsMore (g.K.Sink.written c.args.sink.now) (g.K.Sink.written c.loop-place.sink) (string_bytes c.args.buffer.now) (string_bytes c.loop-place.buffer) in
    (subst P (ap (flat_map row) (take_all c.loop-place.place-index c.args.places.now (omega arith))) c.loop-place.invariant.sent, tt)
