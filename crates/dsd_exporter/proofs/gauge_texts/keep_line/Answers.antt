use Rattle.std.proofs.Common.{◌<◌, length, refl, arith}
use Rattle.std.proofs.lemmas.Option.{slice_get_read}
use Rattle.dsd_exporter.proofs.GaugeTexts.{lines-changed}
use Rattle.dsd_exporter.specs.Exporter.{settings_of}
use Rattle.dsd_exporter.proofs.gauge_texts.keep_line.Goals as goal

pub returns-in_err-set_line : goal.returns-in_err-set_line
returns-in_err-set_line c = λ keys at are.
    let prefix = (settings_of c.args.configuration.now).name_prefix in
    let tags = c.args.writer.now.global_tags in
    let lines = c.add_place.new.lines in
    let within : c.args.place < length lines.items = omega (arith, c.if-place-len.true, c.len.ensures, lines.ok.0) in
    lines-changed prefix tags keys lines.items c.args.place c.args.key.now c.index_mut.result.now c.set_line.new.line
    (c.add_place.ensures prefix tags keys c.args.key.now at are) at (slice_get_read lines.items (length lines.items) c.args.place c.index_mut.result.now refl within c.index_mut.ensures.value) c.set_line.ensures

pub returns-in_ok-set_line : goal.returns-in_ok-set_line
returns-in_ok-set_line c = λ keys at are.
    let prefix = (settings_of c.args.configuration.now).name_prefix in
    let tags = c.args.writer.now.global_tags in
    let lines = c.add_place.new.lines in
    let within : c.args.place < length lines.items = omega (arith, c.if-place-len.true, c.len.ensures, lines.ok.0) in
    lines-changed prefix tags keys lines.items c.args.place c.args.key.now c.index_mut.result.now c.set_line.new.line
    (c.add_place.ensures prefix tags keys c.args.key.now at are) at (slice_get_read lines.items (length lines.items) c.args.place c.index_mut.result.now refl within c.index_mut.ensures.value) c.set_line.ensures
