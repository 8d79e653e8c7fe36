use Rattle.std.proofs.Common.{◌≡◌, ◌++◌, map, fold, ap, ◌∙◌}
use Rattle.std.specs.Prelude.{◌||◌, option_map, unwrap_or}
use Rattle.std.proofs.lemmas.Result.{IfOk-weaker}
use Rattle.metrics_core.specs.Keys.{put_label}
use Rattle.prom_format.specs.LabelSets.{labels_of}
use Rattle.prom_exporter.specs.Builder.{BuilderText}
use Rattle.prom_exporter.specs.Families.{ExporterSettings}
use Rattle.std.specs.Int.NonZero.{non_zero_u32_get}
use Rattle.drive_script.specs.Texts.{settings_of, values_of}
use Rattle.script_player.specs.Told.{native_told, rule_told}
use Rattle.script_player.specs.Play.{exporter_settings}
use Rattle.script_player.proofs.Asked.{told_is_asked}
use Rattle.script_player.proofs.settings.builder_of.Goals as goal

abbrev settings_in : BuilderText → ExporterSettings
settings_in builder = builder.settings

pub returns : goal.returns
returns c =
    let s = c.args.settings in
    IfOk-weaker c.with_globals.result _ (λ (builder : BuilderText). builder.settings ≡ exporter_settings (settings_of s))
    (λ (builder : BuilderText) (told : builder ≡ record c.with_names-builder.result { settings = record c.with_names-builder.result.settings { globals = fold put_label c.with_names-builder.result.settings.globals (labels_of s.globals.items) } }).
    ap settings_in told
    ∙ ap (λ (b : ExporterSettings). record b { globals = fold put_label b.globals (labels_of s.globals.items) })
    (ap settings_in c.with_names-builder.ensures
    ∙ ap (λ (b : ExporterSettings). record b { units = s.naming || s.units; total_suffix = s.naming })
    (ap settings_in c.with_series_limit-builder.ensures
    ∙ ap (λ (b : ExporterSettings). record b { series_limit = option_map non_zero_u32_get s.series_limit })
    (ap settings_in c.with_idle-builder.ensures
    ∙ ap (λ (b : ExporterSettings). record b { idle = option_map (λ (mask, timeout). record { mask = mask; timeout = timeout }) s.idle })
    (ap settings_in c.in_ok-builder-6.ensures
    ∙ ap (λ (b : ExporterSettings). record b { bucket_count = unwrap_or (option_map (λ window. non_zero_u32_get window.0) s.summary) b.bucket_count; bucket_duration = unwrap_or (option_map (λ window. window.1) s.summary) b.bucket_duration })
    (ap settings_in c.in_ok-builder-5.ensures
    ∙ ap (λ (b : ExporterSettings). record b { native_for = b.native_for ++ map native_told s.native_for.items })
    (ap settings_in c.in_ok-builder-4.ensures
    ∙ ap (λ (b : ExporterSettings). record b { buckets_for = b.buckets_for ++ map rule_told s.buckets_for.items })
    (ap settings_in c.in_ok-builder-3.ensures
    ∙ ap (λ (b : ExporterSettings). record b { buckets = option_map (λ numbers. values_of numbers.items) s.buckets })
    (ap settings_in c.in_ok-builder-2.ensures
    ∙ ap (λ (b : ExporterSettings). record b { quantiles = unwrap_or (option_map (λ numbers. values_of numbers.items) s.quantiles) b.quantiles })
    (ap settings_in c.in_ok-builder.ensures.defaults)))))))))
    ∙ told_is_asked s)
    c.with_globals.ensures
