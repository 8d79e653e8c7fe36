-- A flush that was written and handed out is that of the sequential state.
use Rattle.std.proofs.Common.{◌≡◌, ℕ, ◌+◌, ◌^◌, Bool, List, [], ◌∷◌, ◌++◌, length, refl, sym, ap, subst, ◌∙◌, append-nil, arith}
use Rattle.std.specs.Prelude.{Option, Some}
use Rattle.std.proofs.Math.Nat.{add-mod-mod, mod-add-mod}
use Rattle.metrics_core.specs.Numbers.{in_64_bits}
use Rattle.metrics_core.specs.Outside.{GrewBy}
use Rattle.metrics_core.specs.Keys.{LabelText}
use Rattle.metrics_core.specs.declared.numbers.Fixed.{Fixed as FixedOf}
use Rattle.metrics_registry.specs.Live.{LiveSeries}
use Rattle.dsd_addresses.specs.Remotes.{RemoteText}
use Rattle.dsd_writer.specs.Lines.{payloads_of}
use Rattle.dsd_writer.specs.Packing.{framed_payloads}
use Rattle.dsd_writer.specs.Writers.{IsEmptied, WriterText}
use Rattle.dsd_exporter.specs.Exporter.{AllHome, Exporter, state_seen}
use Rattle.dsd_exporter.specs.Flushing.{FlushesAll}
use Rattle.dsd_exporter.specs.Sending.{SendsWritten, WritesFlush, addressed, payloads_in, sent_of, unsent_of}
use Rattle.dsd_exporter.specs.State.{DogStatsDState, FlushItem, flush_items, histogram_items, items_of_counters, items_of_gauges, items_of_histograms, left_out_of_items, lines_of_items}
use Rattle.dsd_exporter.specs.Updates.{UpdateText}
use Rattle.dsd_exporter.specs.declared.sending.FlushReport.{FlushReport}
use Rattle.drive_script.specs.Script.{SettingsText}
use Rattle.script_player.specs.Flushes.{dogstatsd_settings, flush_payloads, payload_limit}
use Rattle.script_player.specs.Sent.{Counts, Delivers, IsReady, IsWritten, LinkTold}

-- ---- no word is drawn

module _ (settings : SettingsText) (tags : List LabelText) (moment : ℕ) where
  no_words : (words : List ℕ) (live : List (LiveSeries (List FixedOf)))
      → items_of_histograms (dogstatsd_settings settings) tags moment words live ≡ items_of_histograms (dogstatsd_settings settings) tags moment [] live
  no_words words [] = refl
  no_words words (series ∷ live) = (λ i. one words series.cell i ++ no_words words live i)
    where
      one : (words : List ℕ) (samples : List FixedOf) → histogram_items (dogstatsd_settings settings) tags moment series.key words samples ≡ histogram_items (dogstatsd_settings settings) tags moment series.key [] samples
      one words [] = refl
      one words (sample ∷ samples) = refl

  wordless : (words : List ℕ) (s : DogStatsDState) → flush_items (dogstatsd_settings settings) tags moment words s ≡ flush_items (dogstatsd_settings settings) tags moment [] s
  wordless words s =
      ap (λ l. items_of_counters (dogstatsd_settings settings) tags moment s.idle s.series.counters ++ items_of_gauges (dogstatsd_settings settings) tags moment s.series.gauges ++ l) (no_words words s.series.histograms)

-- ---- counts

mod_twice : (n : ℕ) → in_64_bits (in_64_bits n) ≡ in_64_bits n
mod_twice n = ap in_64_bits zero_more ∙ mod-add-mod n (2 ^ 64) 0 ∙ ap in_64_bits (omega arith)
  where
    zero_more : in_64_bits n ≡ in_64_bits n + 0
    zero_more = omega arith

counts_sum : (a m now : ℕ) → now ≡ in_64_bits (a + m) → Counts a m now
counts_sum a m now is = ap in_64_bits is ∙ mod_twice (a + m)

counts_left : (a m n now : ℕ) → m ≡ in_64_bits n → now ≡ in_64_bits (a + m) → Counts a n now
counts_left a m n now left is = counts_sum a m now is ∙ ap (λ k. in_64_bits (a + k)) left ∙ add-mod-mod a n (2 ^ 64)

-- ---- a flush that is written

module _ (settings : SettingsText) (to : RemoteText) (moment : ℕ) (old new : Exporter) (marks noted : List Bool) (w written : WriterText) (u flushed : UpdateText) (to_come left : Option (ℕ → ℕ)) (left_out : ℕ) where
  abbrev own_items : List FlushItem
  own_items = flush_items (dogstatsd_settings settings) settings.dsd_globals moment [] (state_seen marks old)

  module _ (writes : WritesFlush moment old new marks noted w written u flushed to_come left left_out) (home : AllHome old) where
    abbrev whole : FlushesAll moment old new marks noted w written u flushed to_come left
    whole = writes.home home

    -- what was found to be sent is what the sequential state sends
    same_items : IsReady settings to w → old.settings ≡ dogstatsd_settings settings → flush_items old.settings w.global_tags moment whole.words (state_seen marks old) ≡ own_items
    same_items ready same =
        (λ i. flush_items (same i) (ready.tags i) moment whole.words (state_seen marks old)) ∙ wordless settings settings.dsd_globals moment whole.words (state_seen marks old)

    pub flush_written : IsReady settings to w → old.settings ≡ dogstatsd_settings settings → IsWritten settings to own_items written left_out
    flush_written ready same = record {
      limit = whole.sends.settings.same_limit ∙ ready.limit;
      on_stream = whole.sends.settings.same_start ∙ ready.on_stream;
      tags = whole.sends.settings.same_tags ∙ ready.tags;
      lines = whole.sends.lines ∙ (λ i. ready.lines i ++ lines_of_items (ready.limit i) (same_items ready same i));
      dropped = writes.dropped _ whole.sends ∙ (λ i. in_64_bits (left_out_of_items (ready.limit i) (same_items ready same i)));
    }

-- ---- its payloads

module _ (settings : SettingsText) (to : RemoteText) (items : List FlushItem) (w : WriterText) (left_out : ℕ) (written : IsWritten settings to items w left_out) where
  pub flush_ready : (v : WriterText) → IsEmptied w v → IsReady settings to v
  flush_ready v emptied = record {
    limit = emptied.settings.same_limit ∙ written.limit;
    on_stream = emptied.settings.same_start ∙ written.on_stream;
    tags = emptied.settings.same_tags ∙ written.tags;
    lines = emptied.lines;
  }

  same_payloads : payloads_in w ≡ flush_payloads settings to items
  same_payloads = λ i. framed_payloads (written.on_stream i) (payloads_of (written.limit i) (written.lines i))

  module _ (v : WriterText) (u n : UpdateText) (aimed : Option RemoteText) (told tells : LinkTold) (report before now : FlushReport) where
    pub flush_delivers : SendsWritten w v u n aimed told.sent tells.sent told.faults tells.faults (report.sent, report.unsent) → report.dropped ≡ left_out → aimed ≡ Some to
        → now.sent ≡ in_64_bits (before.sent + report.sent) → now.unsent ≡ in_64_bits (before.unsent + report.unsent) → now.dropped ≡ in_64_bits (before.dropped + report.dropped)
        → Delivers settings to (items ∷ []) told tells before now
    flush_delivers sends reported is sent unsent dropped = record {
      outcomes = sends.outcomes;
      each = sends.hands.each ∙ same_payloads ∙ sym (append-nil (flush_payloads settings to items));
      grew = subst (λ (a : Option RemoteText). GrewBy told.sent tells.sent (addressed a (sent_of sends.outcomes))) is sends.hands.sent;
      cause = sends.hands.cause;
      sent = counts_sum before.sent (length (sent_of sends.outcomes)) now.sent (sent ∙ ap (λ m. in_64_bits (before.sent + m)) sends.counts.0);
      unsent = counts_sum before.unsent (length (unsent_of sends.outcomes)) now.unsent (unsent ∙ ap (λ m. in_64_bits (before.unsent + m)) sends.counts.1);
      dropped =
          let nothing_more : left_out_of_items (payload_limit settings to) items ≡ left_out_of_items (payload_limit settings to) items + 0 = omega arith in
          counts_left before.dropped report.dropped _ now.dropped (reported ∙ written.dropped ∙ ap in_64_bits nothing_more) dropped;
    }
