-- The page of what was received.
use Rattle.std.proofs.Common.{ℕ, inr, List, subst}
use Rattle.std.specs.Prelude.{Option}
use Rattle.metrics_core.specs.Outside.{GrewBy, GrewByPrefix}
use Rattle.prom_format.specs.Pages.{page_text}
use Rattle.prom_exporter.specs.State.{PrometheusState, page_step}
use Rattle.prom_exporter.specs.Families.{window_of}
use Rattle.prom_exporter.specs.Exporter.{AreTimely, Exporter, default_settings, families_shown, page_body, written_page}
use Rattle.prom_exporter.proofs.Printable.{page_reads}
use Rattle.prom_exporter.proofs.TimelyPages.{timely_page}
use Rattle.dsd_receiver.specs.Streams.{IsReceived, IsReceivedInPart, IsReceivedPage, IsTakenIn, IsWritingFault, LeavesStream}
use Rattle.dsd_receiver.specs.declared.streams.StreamFault.{StreamFault}
use Rattle.dsd_receiver.specs.declared.streams.StreamFault.TheVariants as stream
use Rattle.dsd_receiver.specs.declared.streams.Received.{Received}

pub received_page : (bytes : List ℕ) (received : Received) (state : PrometheusState) → IsTakenIn bytes received state
    → IsReceivedPage bytes (page_text (families_shown default_settings 0 state))
received_page bytes received state taken = record {
  frames = taken.counted.frames;
  state = state;
  whole = taken.counted.whole;
  receives = (taken.counted.readings, taken.counted.are_read, taken.state_is);
  page = page_reads default_settings (window_of default_settings 0) (page_step default_settings.idle 0 state);
}

pub received_whole : (bytes : List ℕ) (received : Received) (state : PrometheusState) (written written' : Option (List ℕ)) → IsTakenIn bytes received state
    → GrewBy written written' (page_text (families_shown default_settings 0 state)) → IsReceived bytes written written'
received_whole bytes received state written written' taken grew =
    record { text = page_text (families_shown default_settings 0 state); page = received_page bytes received state taken; grew = grew }

pub received_prefix : (bytes : List ℕ) (received : Received) (state : PrometheusState) (written written' : Option (List ℕ)) → IsTakenIn bytes received state
    → GrewByPrefix written written' (page_text (families_shown default_settings 0 state)) → IsReceivedInPart bytes written written'
received_prefix bytes received state written written' taken grew =
    record { text = page_text (families_shown default_settings 0 state); page = received_page bytes received state taken; grew = grew }

-- what was written of a timely exporter is its page
module _ (moment : ℕ) (e : Exporter) (before after : Option (List ℕ)) (timely : AreTimely moment e) where
  pub grew_page : GrewBy before after (written_page moment e) → GrewBy before after (page_body moment e)
  grew_page = subst (GrewBy before after) (timely_page moment e timely)

  pub grew_page_prefix : GrewByPrefix before after (written_page moment e) → GrewByPrefix before after (page_body moment e)
  grew_page_prefix = subst (GrewByPrefix before after) (timely_page moment e timely)

-- what a refused writing leaves
pub writing_leaves : (bytes : List ℕ) (written written' : Option (List ℕ)) (S : Type 0) (fault : StreamFault) → IsWritingFault S fault
    → IsReceivedInPart bytes written written' → LeavesStream bytes written written' fault
writing_leaves bytes written written' S (stream.Cut count) cause in_part = absurd cause
writing_leaves bytes written written' S stream.WriteFault cause in_part = in_part
writing_leaves bytes written written' S stream.Memory cause in_part = inr in_part
