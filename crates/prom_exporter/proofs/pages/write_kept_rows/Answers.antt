use Rattle.std.proofs.Common.{◌≡◌, ◌+◌, ◌*◌, ◌++◌, [], ℕ, List, take, drop, sym, ap, subst, ◌∙◌, arith}
use Rattle.std.specs.Prelude.{flat_map, string_bytes}
use Rattle.std.proofs.lemmas.Grind.{flat_map-append}
use Rattle.std.proofs.lemmas.List.{drop-drop, take_all}
use Rattle.std.proofs.lemmas.Result.{err_from_is_err_and}
use Rattle.prom_exporter.specs.Printed.{AreKept, together}
use Rattle.prom_exporter.specs.Rows.{row_at}
use Rattle.prom_exporter.specs.Sending.{SendsMore, SendsPrefix}
use Rattle.prom_exporter.proofs.Printing.{take-two}
use Rattle.prom_exporter.proofs.Progress.{sends_grown, sends_behind, sends_stopped, sends_prefix_more}
use Rattle.prom_exporter.proofs.Written.{rows-rest}
use Rattle.prom_exporter.proofs.pages.write_kept_rows.Goals as goal
use Rattle.prom_exporter.proofs.pages.write_kept_rows.Given.{Over}
use Rattle.prom_exporter.proofs.pages.write_kept_rows.Goals.{After-split_together, In_ok-push_together}

-- the rows that are kept are those under the full name
named : (g : Over) (c : After-split_together g) → AreKept (string_bytes c.args.printed.now.name) c.args.label_sets.now c.args.places.now c.args.printed.now.rows.items → AreKept c.args.name.now c.args.label_sets.now c.args.places.now c.args.printed.now.rows.items
named g c are = subst (λ n. AreKept n c.args.label_sets.now c.args.places.now c.args.printed.now.rows.items) c.requires.name are

-- the next places are those that stand together
here : (g : Over) (c : After-split_together g) → c.split_together.result.0.now ≡ take together (drop (together * c.loop-index.index) c.args.places.now)
here g c = c.split_together.ensures.some ∙ ap (take together) c.loop-index.invariant.rest

-- so many more rows of a list
more-of : (row : ℕ → List ℕ) (places some : List ℕ) (i : ℕ) → some ≡ take together (drop (together * i) places)
    → flat_map row (take (together * i) places) ++ flat_map row some ≡ flat_map row (take (together * (i + 1)) places)
more-of row places some i is =
    ap (λ l. flat_map row (take (together * i) places) ++ flat_map row l) is
    ∙ sym (ap (flat_map row) (take-two places (together * i) together (together * (i + 1)) (omega arith)) ∙ flat_map-append row (take (together * i) places) (take together (drop (together * i) places)))

-- the rows that stand together wait
pushed : (g : Over) (c : In_ok-push_together g) → AreKept c.args.name.now c.args.label_sets.now c.args.places.now c.args.printed.now.rows.items
    → SendsMore (g.K.Sink.written c.args.sink.now) (g.K.Sink.written c.loop-index.sink) (string_bytes c.args.buffer.now) (string_bytes c.push_together.new.buffer)
    (flat_map (row_at g.C.Shown.shown c.args.name.now c.args.label_sets.now c.args.series.now) (take (together * (c.loop-index.index + 1)) c.args.places.now))
pushed g c are =
    let row = row_at g.C.Shown.shown c.args.name.now c.args.label_sets.now c.args.series.now in
    let places = c.args.places.now in
    let at : c.split_together.result.0.now ≡ take together (drop (together * c.loop-index.index) places) = c.split_together.ensures.some ∙ ap (take together) c.loop-index.invariant.rest in
    let P : List ℕ → Type 0 = SendsMore (g.K.Sink.written c.args.sink.now) (g.K.Sink.written c.loop-index.sink) (string_bytes c.args.buffer.now) (string_bytes c.push_together.new.buffer) in
    subst P (more-of row places c.split_together.result.0.now c.loop-index.index at)
    (sends_behind _ _ _ _ _ _ _ _ (c.loop-index.invariant.sent are) (sends_grown _ _ _ (flat_map row c.split_together.result.0.now) (c.in_ok-push_together.ensures.pushed places at (c.loop-index.invariant.kept are))))

pub returns-in_err-push_together-clause-sends : goal.returns-in_err-push_together-clause-sends
returns-in_err-push_together-clause-sends g c are =
    let refusal = err_from_is_err_and c.from_residual.result c.from_residual.ensures.1 in
    let row = row_at g.C.Shown.shown c.args.name.now c.args.label_sets.now c.args.series.now in
    let at = (goal.at.returns-in_err-push_together-clause-sends g c).After-split_together in
    let many = together * c.loop-index.index in
    let P : List ℕ → Type 0 = SendsPrefix (g.K.Sink.written c.args.sink.now) (g.K.Sink.written c.loop-index.sink) (string_bytes c.args.buffer.now) in
    rw refusal.1 (tt, subst P (sym (rows-rest row c.args.places.now [] many)) (sends_stopped _ _ _ _ _ (flat_map row (drop many c.args.places.now)) (c.loop-index.invariant.sent (named g at are))))

pub returns-in_err-send_full-clause-sends : goal.returns-in_err-send_full-clause-sends
returns-in_err-send_full-clause-sends g c are =
    let refusal = err_from_is_err_and c.from_residual-in_err-send_full.result c.from_residual-in_err-send_full.ensures.1 in
    let row = row_at g.C.Shown.shown c.args.name.now c.args.label_sets.now c.args.series.now in
    let at = goal.at.returns-in_err-send_full-clause-sends g c in
    let many = together * (c.loop-index.index + 1) in
    let P : List ℕ → Type 0 = SendsPrefix (g.K.Sink.written c.args.sink.now) (g.K.Sink.written c.send_full.new.sink) (string_bytes c.args.buffer.now) in
    let more = pushed g at.In_ok-push_together (named g at.After-split_together are) in
    rw refusal.1 (
      tt,
      subst P (sym (rows-rest row c.args.places.now [] many))
          (sends_prefix_more _ _ _ _ (flat_map row (drop many c.args.places.now)) (λ start bytes waits. c.in_err-send_full.ensures.prefix start _ (more start bytes waits))),
    )

pub loop-index-preserved : goal.loop-index-preserved
loop-index-preserved g c =
    let places = c.args.places.now in
    let at = goal.at.loop-index-preserved g c in
    record {
      rest = c.split_together.ensures.others ∙ ap (drop together) c.loop-index.invariant.rest ∙ drop-drop together (together * c.loop-index.index) places ∙ ap (λ n. drop n places) (omega arith);
      begun = omega (arith, c.in_ok-push_together.ensures.index);
      name = c.in_ok-push_together.ensures.name ∙ c.loop-index.invariant.name;
      kept = λ are. c.in_ok-push_together.ensures.rows places (here g at.After-split_together) (c.loop-index.invariant.kept are);
      sent = λ are start bytes waits. c.in_ok-send_full.ensures.sent start _ (pushed g at.In_ok-push_together are start bytes waits);
      never_falls = omega (arith, c.in_ok-send_full.ensures.fails.2);
    }

pub returns-clause-sends : goal.returns-clause-sends
returns-clause-sends g c are =
    let row = row_at g.C.Shown.shown c.args.name.now c.args.label_sets.now c.args.series.now in
    let places = c.args.places.now in
    let P : List ℕ → Type 0 = SendsMore (g.K.Sink.written c.args.sink.now) (g.K.Sink.written c.loop-index.sink) (string_bytes c.args.buffer.now) (string_bytes c.loop-index.buffer) in
    let kept = subst (λ n. AreKept n c.args.label_sets.now places c.args.printed.now.rows.items) c.requires.name are in
    (subst P (ap (flat_map row) (take_all (together * c.loop-index.index) places (omega arith))) (c.loop-index.invariant.sent kept), tt)
