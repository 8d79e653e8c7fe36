use Rattle.std.proofs.Common.{◌+◌, [], ℕ, List, take, drop, get_or, sym, ap, subst, arith}
use Rattle.std.specs.Prelude.{flat_map, string_bytes}
use Rattle.std.proofs.lemmas.List.{take_all}
use Rattle.std.proofs.lemmas.Result.{err_from_is_err_and}
use Rattle.metrics_core.specs.Keys.{LabelText}
use Rattle.prom_exporter.specs.SampledRows.{lines_at, HasRowsOf}
use Rattle.prom_exporter.specs.Sending.{SendsMore, SendsPrefix}
use Rattle.prom_exporter.proofs.Progress.{sends_grown, sends_behind, sends_stopped, sends_prefix_more}
use Rattle.prom_exporter.proofs.Written.{rows-more, rows-rest}
use Rattle.prom_exporter.proofs.distribution_pages.write_series.Goals as goal
use Rattle.prom_exporter.proofs.distribution_pages.write_series.Given.{Over}
use Rattle.prom_exporter.proofs.distribution_pages.write_series.Goals.{In_ok-push_series}

-- the rows of one more series wait
pushed : (g : Over) (c : In_ok-push_series g) (globals : List LabelText) → HasRowsOf globals c.args.series.now c.args.rows.now
    → SendsMore (g.K.Sink.written c.args.sink.now) (g.K.Sink.written c.loop-place.sink) (string_bytes c.args.buffer.now) (string_bytes c.push_series.new.buffer)
    (flat_map (lines_at globals c.args.moment c.args.series.now c.args.name.now) (take (c.loop-place.place-index + 1) c.args.places.now))
pushed g c globals shown =
    let lines = lines_at globals c.args.moment c.args.series.now c.args.name.now in
    let places = c.args.places.now in
    let i = c.loop-place.place-index in
    let P : List ℕ → Type 0 = SendsMore (g.K.Sink.written c.args.sink.now) (g.K.Sink.written c.loop-place.sink) (string_bytes c.args.buffer.now) (string_bytes c.push_series.new.buffer) in
    subst P (rows-more lines places [] i (omega arith))
    (sends_behind _ _ _ _ _ _ _ _ (c.loop-place.invariant.sent globals shown) (sends_grown _ _ _ (lines (get_or places i 0)) (c.in_ok-push_series.ensures globals shown)))

pub returns-in_err-push_series-clause-prefix : goal.returns-in_err-push_series-clause-prefix
returns-in_err-push_series-clause-prefix g c =
    let refusal = err_from_is_err_and c.from_residual.result c.from_residual.ensures.1 in
    let i = c.loop-place.place-index in
    rw refusal.1 (λ globals shown.
    (let lines = lines_at globals c.args.moment c.args.series.now c.args.name.now in
    let P : List ℕ → Type 0 = SendsPrefix (g.K.Sink.written c.args.sink.now) (g.K.Sink.written c.loop-place.sink) (string_bytes c.args.buffer.now) in
    subst P (sym (rows-rest lines c.args.places.now [] i)) (sends_stopped _ _ _ _ _ (flat_map lines (drop i c.args.places.now)) (c.loop-place.invariant.sent globals shown))))

pub returns-in_err-send_full-clause-prefix : goal.returns-in_err-send_full-clause-prefix
returns-in_err-send_full-clause-prefix g c =
    let refusal = err_from_is_err_and c.from_residual-in_err-send_full.result c.from_residual-in_err-send_full.ensures.1 in
    let i = c.loop-place.place-index in
    rw refusal.1 (λ globals shown.
    (let lines = lines_at globals c.args.moment c.args.series.now c.args.name.now in
    let P : List ℕ → Type 0 = SendsPrefix (g.K.Sink.written c.args.sink.now) (g.K.Sink.written c.send_full.new.sink) (string_bytes c.args.buffer.now) in
    let more = pushed g (goal.at.returns-in_err-send_full-clause-prefix g c).In_ok-push_series globals shown in
    subst P (sym (rows-rest lines c.args.places.now [] (i + 1)))
    (sends_prefix_more _ _ _ _ (flat_map lines (drop (i + 1) c.args.places.now)) (λ start bytes waits. c.in_err-send_full.ensures.prefix start _ (more start bytes waits)))))

pub loop-place-preserved : goal.loop-place-preserved
loop-place-preserved g c = record {
  sent = λ globals shown start bytes waits. c.in_ok-send_full.ensures.sent start _ (pushed g (goal.at.loop-place-preserved g c).In_ok-push_series globals shown start bytes waits);
  never_falls = omega arith;
}

pub returns-clause-sent : goal.returns-clause-sent
returns-clause-sent g c = λ globals shown.
    (let lines = lines_at globals c.args.moment c.args.series.now c.args.name.now in
    let P : List ℕ → Type 0 = SendsMore (g.K.Sink.written c.args.sink.now) (g.K.Sink.written c.loop-place.sink) (string_bytes c.args.buffer.now) (string_bytes c.loop-place.buffer) in
    subst P (ap (flat_map lines) (take_all c.loop-place.place-index c.args.places.now (omega arith))) (c.loop-place.invariant.sent globals shown))
