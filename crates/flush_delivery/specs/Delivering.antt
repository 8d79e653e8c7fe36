-- What a delivery does: a flush is made, and each of its payloads is applied once.
use Rattle.std.specs.Prelude.{◌≡◌, ℕ, ◌+◌, Bool, true, false, List, [], Option, None, flat_map}
use Rattle.std.specs.List.{AllZip}
use Rattle.metrics_core.specs.Numbers.{in_64_bits}
use Rattle.dsd_writer.specs.Lines.{payloads_of}
use Rattle.dsd_writer.specs.Writers.{IsEmptied, WriterText}
use Rattle.dsd_lines.specs.declared.dialects.Dialect.TheVariants.{DogStatsd}
use Rattle.dsd_lines.specs.Grammar.{LineText}
use Rattle.dsd_lines.specs.Payloads.{payload_lines}
use Rattle.dsd_exporter.specs.Exporter.{AllHome, Exporter, state_seen}
use Rattle.dsd_exporter.specs.Flushing.{Flushes, FlushesAll, Found, IsWhole, Sends}
use Rattle.dsd_exporter.specs.State.{FlushItem}
use Rattle.dsd_exporter.specs.Updates.{UpdateText}
use Rattle.prom_exporter.specs.State.{PrometheusState}
use Rattle.dsd_receiver.specs.declared.receiver.Applied.{Applied}
use Rattle.dsd_receiver.specs.declared.receiver.ReceiveFault.{ReceiveFault}
use Rattle.dsd_receiver.specs.declared.receiver.ReceiveFault.TheVariants as faults
use Rattle.dsd_receiver.specs.Received.{AreRead, after_readings, count_bad, count_lines}
use Rattle.dsd_receiver.specs.Receiving.{StopsAfter}
use Rattle.flush_delivery.specs.Delivered.{CanBeSaid, IsSaidBy, after_all_said, flush_said}

-- a writer without lines, whose payloads are not led by their lengths
pub record IsPlain (writer : WriterText) : Type 0 where
  pub lines : writer.lines ≡ []
  pub on_stream : writer.on_stream ≡ false

-- the lines of all payloads of a writer
abbrev pub lines_delivered : WriterText → List (List ℕ)
lines_delivered writer = flat_map payload_lines (payloads_of writer.limit writer.lines)

-- all these lines were received; how many of them are in the grammar, and bad, is told modulo 2^64
pub record IsAppliedOver (moment : ℕ) (lines : List (List ℕ)) (s : PrometheusState) (applied : Applied) (t : PrometheusState) : Type 0 where
  pub readings : List (Option LineText)
  pub are_read : AreRead DogStatsd lines readings
  pub state : t ≡ after_readings moment readings s
  pub lines_are : applied.lines ≡ in_64_bits (count_lines readings)
  pub bad_are : applied.bad ≡ in_64_bits (count_bad readings)

-- want of memory stopped the receiving of these lines; how many were treated is told modulo 2^64
abbrev pub IsStoppedOver : ℕ → List (List ℕ) → PrometheusState → ReceiveFault → PrometheusState → Type 0
IsStoppedOver moment lines s (faults.Memory flushed done registered values) t =
    (flushed ≡ true) × (treated : ℕ) × (done ≡ in_64_bits treated) × StopsAfter DogStatsd moment lines s treated registered values t

-- a fault, behind lines that were applied before
abbrev pub behind_lines : Applied → ReceiveFault → ReceiveFault
behind_lines applied (faults.Memory flushed done registered values) =
    faults.Memory flushed (in_64_bits (in_64_bits (applied.lines + applied.bad) + done)) registered values

module _ (moment : ℕ) (old new : Exporter) (marks noted : List Bool) (w v : WriterText) (u n : UpdateText) (to_come left : Option (ℕ → ℕ)) (s : PrometheusState) where
  -- All series were flushed, and the payloads applied, after which the writer has no lines. Where lines can say what the flush sent,
  -- none of them is bad, and the state, where it has no limit on series, is extended by the values sent, less those that are left out: `said` for whatever items were
  -- sent, and `clean` for those of the sequential state, where no pass of the flushed exporter is out.
  pub record Delivers (applied : Applied) (t : PrometheusState) : Type 0 where
    pub written : WriterText
    pub found : Found
    pub flushes : Flushes moment found old new marks noted w written u n to_come left
    pub whole : IsWhole found old
    pub home : AllHome old → FlushesAll moment old new marks noted w written u n to_come left
    pub emptied : IsEmptied written v
    pub applies : IsAppliedOver moment (lines_delivered written) s applied t
    pub said : (items : List FlushItem) (saids : List LineText) → Sends items w written u n → AllZip (λ item said. IsSaidBy item.item item.values said) items saids
        → (applied.bad ≡ 0) × (s.limit ≡ None → t ≡ after_all_said moment w.limit saids s)
    pub clean : AllHome old → w.global_tags ≡ [] → CanBeSaid old.settings (state_seen marks old)
        → (applied.bad ≡ 0) × (s.limit ≡ None → t ≡ after_all_said moment w.limit (flush_said old.settings moment (state_seen marks old)) s)

  -- The flush was refused, and nothing was applied; or all series were flushed, and the receiving of the payloads was stopped.
  abbrev pub IsUndelivered : ReceiveFault → PrometheusState → Type 0
  IsUndelivered (faults.Memory false done registered values) t =
      (done ≡ 0) × (registered ≡ false) × (values ≡ 0) × (t ≡ s) × (found : Found) × Flushes moment found old new marks noted w v u n to_come left
  IsUndelivered (faults.Memory true done registered values) t =
      (written : WriterText) × (found : Found) × Flushes moment found old new marks noted w written u n to_come left × IsWhole found old × IsEmptied written v
      × IsStoppedOver moment (lines_delivered written) s (faults.Memory true done registered values) t
