-- What the flushes of a service do.
use Rattle.std.specs.Prelude.{◌≡◌, ◌⊎◌, ◌+◌, ℕ, List, Option, Some}
use Rattle.metrics_core.specs.Numbers.{in_64_bits}
use Rattle.metrics_core.specs.Words.{lcg_words}
use Rattle.metrics_core.specs.declared.words.Lcg.{Lcg}
use Rattle.dsd_exporter.specs.Links.{SentText}
use Rattle.dsd_exporter.specs.declared.sending.FlushReport.{FlushReport}
use Rattle.dsd_forwarder.specs.Forwarding.{ForwarderText, RunsOnce, IsRefusedRun}
use Rattle.service_exporters.specs.declared.flushes.FlushTally.{FlushTally}

-- a flush was sent, and this is what came of it
abbrev pub tally_with : FlushReport → FlushTally → FlushTally
tally_with report tally = record tally { sent = in_64_bits (tally.sent + report.sent); unsent = in_64_bits (tally.unsent + report.unsent); dropped = in_64_bits (tally.dropped + report.dropped) }

-- a flush was refused
abbrev pub tally_refused : FlushTally → FlushTally
tally_refused tally = record tally { refused = in_64_bits (tally.refused + 1) }

-- one flush: it was sent and counted, or refused and counted as refused, or no moment could be read and nothing was done
abbrev pub FlushesOnce : ForwarderText → ForwarderText → Lcg → Lcg → Option (List SentText) → Option (List SentText) → ℕ → ℕ → FlushTally → FlushTally → Type 0
FlushesOnce f g words left told tells faults now_faults tally new =
    ((moment : ℕ) × (report : FlushReport) × RunsOnce moment f g (Some (lcg_words words.word)) (Some (lcg_words left.word)) told tells faults now_faults report × (new ≡ tally_with report tally))
    ⊎ (((moment : ℕ) × IsRefusedRun moment f g (Some (lcg_words words.word)) (Some (lcg_words left.word)) told tells faults now_faults × (new ≡ tally_refused tally))
    ⊎ ((g ≡ f) × (left ≡ words) × (tells ≡ told) × (new ≡ tally_refused tally)))
