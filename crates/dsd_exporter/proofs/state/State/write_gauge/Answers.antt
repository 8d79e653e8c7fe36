use Rattle.std.proofs.Common.{rules, ℕ, zero, suc, ◌<◌, List, [], ◌∷◌, length, refl, arith}
use Rattle.std.specs.Prelude.{FitsSigned}
use Rattle.std.specs.Int.{w64}
use Rattle.metrics_core.specs.Keys.{KeyText}
use Rattle.metrics_registry.specs.Live.{LiveSeries}
use Rattle.dsd_exporter.specs.Exporter.{GaugeThing}
use Rattle.dsd_exporter.specs.Flushing.{HasKeyAt, gauge_line}
use Rattle.dsd_exporter.proofs.state.State.write_gauge.Goals as goal

-- there is a key at a place of a series
key_there : (live : List (LiveSeries GaugeThing)) (place : ℕ) → place < length live → (key : KeyText) × HasKeyAt place key live
key_there [] place inside = absurd (omega (arith, inside))
key_there (s ∷ live) zero inside = (s.key, refl)
key_there (s ∷ live) (suc place) inside = key_there live place (omega (arith, inside))

pub write_line-requires-clause-room : goal.write_line-requires-clause-room
write_line-requires-clause-room c =
    let there = key_there c.args.self.now.series.gauges c.args.place c.requires.here in
    let fits : FitsSigned w64 c.args.value.0 = search rules in (
      gauge_line c.args.self.now.settings c.args.writer.now.global_tags c.args.moment there.0,
      c.args.value.0,
      refl,
      c.in-Some.ensures.is there.0 there.1,
      c.requires.room there.0 there.1 c.args.value.0 fits,
    )

pub returns-in-Some : goal.returns-in-Some
returns-in-Some c =
    let there = key_there c.args.self.now.series.gauges c.args.place c.requires.here in (
      there.0,
      there.1,
      c.write_line.ensures (gauge_line c.args.self.now.settings c.args.writer.now.global_tags c.args.moment there.0) c.args.value.0 refl (c.in-Some.ensures.is there.0 there.1),
    )

pub unreachable-requires : goal.unreachable-requires
unreachable-requires c =
    let there = key_there c.args.self.now.series.gauges c.args.place c.requires.here in
    cc (there.1, c.gauge_key.ensures, c.in_default-gauge_key.is)
