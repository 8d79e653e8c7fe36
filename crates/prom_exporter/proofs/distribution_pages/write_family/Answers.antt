use Rattle.std.proofs.Common.{◌≡◌, ◌++◌, [], ℕ, List, None, sym, ap, subst, ◌∙◌}
use Rattle.std.specs.Prelude.{flat_map, string_bytes}
use Rattle.std.specs.Option.{option_copied}
use Rattle.std.proofs.lemmas.Result.{err_from_is_err_and}
use Rattle.metrics_core.specs.Characters.{line}
use Rattle.metrics_core.specs.Keys.{LabelText}
use Rattle.prom_exporter.specs.Naming.{shown_name, title_text}
use Rattle.prom_exporter.specs.SampledRows.{lines_at, block_under, HasRowsOf}
use Rattle.prom_exporter.specs.Sending.{SendsMore, SendsPrefix}
use Rattle.prom_exporter.proofs.Progress.{sends_none, sends_grown, sends_behind, sends_prefix_behind, sends_stopped, sends_prefix_more}
use Rattle.prom_exporter.proofs.distribution_pages.write_family.Given.{Over}
use Rattle.prom_exporter.proofs.distribution_pages.write_family.Goals as goal
use Rattle.prom_exporter.proofs.distribution_pages.write_family.Goals.{In-Some, In_ok-write_series}

-- the block is the lines above the rows, the rows and the empty line
block_is : (g : Over) (c : In-Some g) (globals : List LabelText) → (let name = string_bytes c.args.name.now in
    block_under c.args.naming.now globals c.args.moment c.args.series.now (option_copied c.args.word) (name, c.args.places.now)
    ≡ (title_text c.args.naming.now None c.in-Some.word.now name ++ flat_map (lines_at globals c.args.moment c.args.series.now (shown_name c.args.naming.now None name)) c.args.places.now) ++ line [])
block_is g c globals = ap (λ o. block_under c.args.naming.now globals c.args.moment c.args.series.now (option_copied o) (string_bytes c.args.name.now, c.args.places.now)) c.in-Some.is

-- the lines above the rows and the rows were sent or wait
rowed : (g : Over) (c : In_ok-write_series g) (globals : List LabelText) → HasRowsOf globals c.args.series.now c.args.rows.now → (let name = string_bytes c.args.name.now in
    SendsMore (g.K.Sink.written c.args.sink.now) (g.K.Sink.written c.write_series.new.sink) (string_bytes c.args.buffer.now) (string_bytes c.write_series.new.buffer)
    (title_text c.args.naming.now None c.in-Some.word.now name ++ flat_map (lines_at globals c.args.moment c.args.series.now (shown_name c.args.naming.now None name)) c.args.places.now))
rowed g c globals shown =
    sends_behind _ _ _ _ _ _ _ _ (sends_grown _ _ _ (title_text c.args.naming.now None c.in-Some.word.now (string_bytes c.args.name.now)) c.in_ok-write_title.ensures.title) (subst (λ n. SendsMore (g.K.Sink.written c.args.sink.now) (g.K.Sink.written c.write_series.new.sink) (string_bytes c.write_title.new.buffer) (string_bytes c.write_series.new.buffer) (flat_map (lines_at globals c.args.moment c.args.series.now n) c.args.places.now)) (c.as_str.ensures.value ∙ c.in_ok-write_title.ensures.named) (c.in_ok-write_series.ensures.sent globals shown))

pub returns-in_err-write_title-clause-prefix : goal.returns-in_err-write_title-clause-prefix
returns-in_err-write_title-clause-prefix g c =
    let refusal = err_from_is_err_and c.from_residual.result c.from_residual.ensures.1 in
    rw refusal.1 (λ globals shown. sends_stopped _ _ _ _ [] _ (sends_none (g.K.Sink.written c.args.sink.now) (string_bytes c.args.buffer.now)))

pub returns-in_err-write_series-clause-prefix : goal.returns-in_err-write_series-clause-prefix
returns-in_err-write_series-clause-prefix g c =
    let refusal = err_from_is_err_and c.from_residual-in_err-write_series.result c.from_residual-in_err-write_series.ensures.1 in
    let at = goal.at.returns-in_err-write_series-clause-prefix g c in
    let P : List ℕ → Type 0 = SendsPrefix (g.K.Sink.written c.args.sink.now) (g.K.Sink.written c.write_series.new.sink) (string_bytes c.args.buffer.now) in
    rw refusal.1 (λ globals shown. subst P (sym (block_is g at.In-Some globals))
    (sends_prefix_more _ _ _ _ (line [])
    (sends_prefix_behind _ _ _ _ _ _ _ (sends_grown _ _ _ (title_text c.args.naming.now None c.in-Some.word.now (string_bytes c.args.name.now)) c.in_ok-write_title.ensures.title) (subst (λ n. SendsPrefix (g.K.Sink.written c.args.sink.now) (g.K.Sink.written c.write_series.new.sink) (string_bytes c.write_title.new.buffer) (flat_map (lines_at globals c.args.moment c.args.series.now n) c.args.places.now)) (c.as_str.ensures.value ∙ c.in_ok-write_title.ensures.named) (c.in_err-write_series.ensures.prefix globals shown)))))

pub returns-in_err-end_block-clause-prefix : goal.returns-in_err-end_block-clause-prefix
returns-in_err-end_block-clause-prefix g c =
    let refusal = err_from_is_err_and c.from_residual-in_err-end_block.result c.from_residual-in_err-end_block.ensures.1 in
    let at = goal.at.returns-in_err-end_block-clause-prefix g c in
    let P : List ℕ → Type 0 = SendsPrefix (g.K.Sink.written c.args.sink.now) (g.K.Sink.written c.write_series.new.sink) (string_bytes c.args.buffer.now) in
    rw refusal.1 (λ globals shown. subst P (sym (block_is g at.In-Some globals)) (sends_stopped _ _ _ _ _ (line []) (rowed g at.In_ok-write_series globals shown)))

pub returns-clause-sent : goal.returns-clause-sent
returns-clause-sent g c = λ globals shown.
    (let at = goal.at.returns-clause-sent g c in
    let P : List ℕ → Type 0 = SendsMore (g.K.Sink.written c.args.sink.now) (g.K.Sink.written c.write_series.new.sink) (string_bytes c.args.buffer.now) (string_bytes c.end_block.new.buffer) in
    subst P (sym (block_is g at.In-Some globals)) (sends_behind _ _ _ _ _ _ _ _ (rowed g at.In_ok-write_series globals shown) (sends_grown _ _ _ (line []) c.in_ok-end_block.ensures)))
