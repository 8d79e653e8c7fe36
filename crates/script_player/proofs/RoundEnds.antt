-- The end of a round from its parts: its page, its flush, and what is handed to the link.
use Rattle.std.proofs.Common.{◌≡◌, ℕ, Bool, List, [], ◌∷◌, refl, ap, subst, ◌∙◌}
use Rattle.std.specs.Prelude.{Option}
use Rattle.metrics_core.specs.Outside.{GrewBy}
use Rattle.metrics_core.specs.declared.kinds.SeriesId.{SeriesId}
use Rattle.prom_format.specs.Pages.{page_text}
use Rattle.prom_exporter.specs.State.{PrometheusState, page_step}
use Rattle.prom_exporter.specs.Exporter.{Exporter as PrometheusExporter, families_shown, page_families, state_of as prometheus_of}
use Rattle.prom_exporter.specs.Families.{ExporterSettings}
use Rattle.dsd_addresses.specs.Remotes.{RemoteText}
use Rattle.dsd_writer.specs.Writers.{WriterText}
use Rattle.dsd_exporter.specs.Exporter.{Exporter as DogStatsDExporter, state_seen}
use Rattle.dsd_exporter.specs.State.{DogStatsDState, FlushItem, flush_items}
use Rattle.dsd_exporter.specs.declared.sending.FlushReport.{FlushReport}
use Rattle.drive_script.specs.Script.{SettingsText}
use Rattle.script_player.specs.Flushes.{dogstatsd_settings}
use Rattle.script_player.specs.Player.{IsMadeFor, PlayerText, lines_state, rows_state}
use Rattle.script_player.specs.Rounds.{EndsRound, FlushesOn, IsFlushed, IsShown, RestsOn, player_page}
use Rattle.script_player.specs.Sent.{Delivers, IsReady, LinkTold}

module _ (settings : SettingsText) (to : RemoteText) (pages : PrometheusExporter) (lines : DogStatsDExporter) (writer : WriterText) (made : IsMadeFor settings to pages lines writer) (report : FlushReport) where
  -- what flushes go through, where no line waits
  pub made_ready : writer.lines ≡ [] → IsReady settings to writer
  made_ready none = record { limit = made.limit; on_stream = made.on_stream; tags = made.tags; lines = none }

  module _ (pages' : PrometheusExporter) (lines' : DogStatsDExporter) (writer' : WriterText) (report' : FlushReport) (on : RestsOn pages pages') (lines_on : FlushesOn lines lines' writer writer' report report') where
    -- a player is as it was made, also where the end failed, and where the flush was handed out
    pub made_on : IsMadeFor settings to pages' lines' writer'
    made_on = record {
      rest = on.rest;
      lines_rest = lines_on.rest;
      built = on.settings ∙ made.built;
      lines_built = lines_on.settings ∙ made.lines_built;
      limit = lines_on.writer.same_limit ∙ made.limit;
      on_stream = lines_on.writer.same_start ∙ made.on_stream;
      tags = lines_on.writer.same_tags ∙ made.tags;
    }

    pub made_again : (after : WriterText) → IsReady settings to after → IsMadeFor settings to pages' lines' after
    made_again after ready = record {
      rest = on.rest;
      lines_rest = lines_on.rest;
      built = on.settings ∙ made.built;
      lines_built = lines_on.settings ∙ made.lines_built;
      limit = ready.limit;
      on_stream = ready.on_stream;
      tags = ready.tags;
    }

    module _ (moment : ℕ) (handles line_handles : List SeriesId) (marks : List Bool) where
      abbrev before : PlayerText
      before = record {
        settings = settings;
        to = to;
        pages = rows_state pages handles;
        flushes = lines_state marks lines line_handles;
        waiting = writer.lines;
        report = report;
      }

      abbrev own_items : List FlushItem
      own_items = flush_items (dogstatsd_settings settings) settings.dsd_globals moment [] (state_seen marks lines)

      pub page_was : page_text (page_families moment pages) ≡ player_page moment before
      page_was = ap (λ (s : ExporterSettings). page_text (families_shown s moment (prometheus_of pages))) made.built

      pub round_ends : (marks' now_marks : List Bool) (left_out : ℕ) (after : WriterText) (now : FlushReport) (written written' : Option (List ℕ)) (told tells : LinkTold)
          → IsShown moment pages pages' written written' → IsFlushed moment lines lines' marks marks' writer writer' left_out → now_marks ≡ marks' → IsReady settings to after
          → Delivers settings to (own_items ∷ []) told tells report' now
          → EndsRound moment before (record {
            settings = settings;
            to = to;
            pages = rows_state pages' handles;
            flushes = lines_state now_marks lines' line_handles;
            waiting = after.lines;
            report = now;
          }) written written' told tells
      round_ends marks' now_marks left_out after now written written' told tells shown flushed same ready sent = record {
        settings = refl;
        to = refl;
        none_waits = ready.lines;
        page = subst (GrewBy written written') page_was shown.page;
        pages = ap (λ (s : PrometheusState). record { prometheus = s; handles = handles }) (shown.stepped ∙ ap (λ (x : ExporterSettings). page_step x.idle moment (prometheus_of pages)) made.built);
        flushes = ap (λ (ms : List Bool). lines_state ms lines' line_handles) same
            ∙ ap (λ (s : DogStatsDState). record { dogstatsd = s; handles = line_handles }) flushed.stepped;
        sent = subst (λ (r : FlushReport). Delivers settings to (own_items ∷ []) told tells r now) lines_on.report sent;
      }
