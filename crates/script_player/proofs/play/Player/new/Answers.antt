use Rattle.std.proofs.Common.{rules, ◌≡◌, ap, sym, subst, ◌∙◌}
use Rattle.std.specs.Prelude.{option_map, string_bytes}
use Rattle.prom_format.specs.LabelSets.{labels_of}
use Rattle.prom_exporter.specs.Exporter.{Exporter}
use Rattle.dsd_exporter.proofs.Resting.{begins_at_rest}
use Rattle.dsd_addresses.specs.Remotes.{remote_text}
use Rattle.dsd_addresses.specs.declared.remote_addr.RemoteAddr.{RemoteAddr}
use Rattle.drive_script.specs.Texts.{settings_of}
use Rattle.drive_script.specs.declared.script.Settings.{Settings}
use Rattle.script_player.specs.Flushes.{dogstatsd_settings, flush_start}
use Rattle.script_player.specs.Play.{play_start}
use Rattle.script_player.specs.Player.{IsMadeFor, lines_state, rows_state}
use Rattle.script_player.proofs.RestingSteps.{none_rest}
use Rattle.script_player.proofs.play.Player.new.Goals as goal

pub invariant_of-result : goal.invariant_of-result
invariant_of-result c =
    let pages = c.in-Ok.prometheus in
    let lines = c.in_ok-dogstatsd.dogstatsd in
    let writer = c.in_ok-flushes.flushes.writer in
    subst (λ (s : Settings). IsMadeFor (settings_of s) (remote_text c.of.result.value) pages lines writer) (sym c.of-made_for.ensures)
    (subst (λ (to : RemoteAddr). IsMadeFor (settings_of c.args.settings) (remote_text to) pages lines writer) (sym c.of.ensures) (record {
      rest = none_rest c.in-Ok.prometheus (ap (λ (e : Exporter). e.series) c.in-Ok.ensures.built);
      lines_rest = begins_at_rest c.in_ok-dogstatsd.dogstatsd c.in_ok-dogstatsd.ensures.series;
      built = ap (λ (e : Exporter). e.settings) c.in-Ok.ensures.built ∙ c.in_ok-builder.ensures;
      lines_built = c.in_ok-dogstatsd.ensures.settings ∙ ap (λ prefix. record (dogstatsd_settings (settings_of c.args.settings)) { name_prefix = option_map (λ text. string_bytes text) prefix }) c.take-prefix.ensures.value;
      limit = c.in_ok-flushes.ensures.limit;
      on_stream = c.in_ok-flushes.ensures.on_stream;
      tags = c.in_ok-flushes.ensures.tags ∙ ap (λ tags. labels_of tags.items) c.replace-tags.ensures.value;
    }))

pub returns-in-Ok : goal.returns-in-Ok
returns-in-Ok c =
    let pages : rows_state c.in-Ok.prometheus c.new-in-Ok.result.items ≡ play_start (settings_of c.args.settings) = search rules in
    let flushes : lines_state c.in_ok-flushes.flushes.marks c.in_ok-dogstatsd.dogstatsd c.new-in-Ok-3.result.items ≡ flush_start = search rules in
    λ j. record {
      settings = settings_of (c.of-made_for.ensures j);
      to = remote_text (c.of.ensures j);
      pages = pages j;
      flushes = flushes j;
      waiting = c.in_ok-flushes.ensures.lines j;
      report = c.in_ok-flushes.ensures.report j;
    }
