use Rattle.std.proofs.Common.{◌+◌, sym, ap, ◌∙◌, arith}
use Rattle.std.specs.Prelude.{option_map, slice_get}
use Rattle.metrics_registry.specs.Live.{LiveSeries}
use Rattle.prom_format.specs.LabelSets.{labels_of}
use Rattle.prom_exporter.proofs.KeptRows.{first_more, none_within}
use Rattle.prom_exporter.proofs.rows.Rows.catch_up.Goals as goal
use Rattle.prom_exporter.proofs.rows.Rows.catch_up.Goals.{in-Some+in_ok-add, in_default}

pub loop-place-preserved : goal.loop-place-preserved
loop-place-preserved g c = elim c.match-key.branch [
  | in-Some+in_ok-add w ↦
      (let globals = labels_of c.args.globals.now.entries in
      let live = c.args.series.now in
      let place = sym c.loop-place.invariant.many in
      let more = first_more globals live c.loop-place.self w.add.new.self w.in-Some.key.now c.loop-place.invariant.first
      (w.in-Some.ensures ∙ ap (λ n. option_map (λ (series : LiveSeries _). series.key) (slice_get live n)) place) w.in_ok-add.ensures.added in
      rw w.self-is (record { first = more.0; many = more.1 ∙ ap (λ n. n + 1) c.loop-place.invariant.many }))
  | in_default w ↦
      (let here = c.loop-place-test.true in
      absurd (none_within c.args.series.now c.loop-place.place (omega (arith, here, c.requires.count)) w.in_default.ensures))
]
