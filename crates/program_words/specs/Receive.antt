-- Which status a run of the word `receive` ends with by which cause, and its line on `err` (this project's rules).
use Rattle.std.specs.Prelude.{◌≡◌, ℕ, ◌⊎◌, List, [], ◌++◌, Option, IfSome, codes, decimal}
use Rattle.metrics_core.specs.Characters.{line}
use Rattle.drive_script.specs.Faults.{fault_text}
use Rattle.drive_script.specs.declared.faults.DriveFault.TheVariants as faults
use Rattle.dsd_lines.specs.Frames.{Splits}
use Rattle.dsd_receiver.specs.Streams.{AreCounted, AreNoFrames, IsCutAfter}
use Rattle.dsd_receiver.specs.declared.streams.Received.{Received}
use Rattle.dsd_receiver.specs.declared.streams.StreamFault.{StreamFault}
use Rattle.dsd_receiver.specs.declared.streams.StreamFault.TheVariants as stream
use Rattle.program_words.specs.Answers.{IsTooLong}
use Rattle.program_words.specs.Relay.{IsWithinLimit}

-- the bytes are within the limit and not whole frames, and so many whole ones stand at their front
abbrev pub IsCutStream : List ℕ → ℕ → Type 0
IsCutStream bytes count = IsWithinLimit bytes × IsCutAfter bytes count

-- ---- statuses

abbrev pub stream_status : StreamFault → ℕ
stream_status (stream.Cut count) = 12
stream_status stream.WriteFault = 7
stream_status stream.Memory = 8

-- Each cause brings its status, unless a device failed or memory was wanting.
pub record IsReceiveComplete (bytes : List ℕ) (SourceFailed SinkFailed : Type 0) (status : ℕ) : Type 0 where
  pub too_long : IsTooLong bytes → ¬ SourceFailed → (status ≡ 5) ⊎ (status ≡ 8)
  pub cut : IsWithinLimit bytes → AreNoFrames bytes → ¬ SourceFailed → (status ≡ 12) ⊎ (status ≡ 8)
  pub whole : (frames : List (List ℕ)) → IsWithinLimit bytes → Splits bytes frames []
      → ¬ SourceFailed → ¬ SinkFailed → (status ≡ 0) ⊎ (status ≡ 8)

-- ---- lines on `err`

abbrev pub received_text : Received → List ℕ
received_text received =
    codes "received " ++ decimal received.frames ++ codes " frames " ++ decimal received.lines ++ codes " lines "
    ++ decimal received.bad ++ codes " bad"

abbrev pub stream_fault_text : StreamFault → List ℕ
stream_fault_text (stream.Cut count) = codes "stream: cut after " ++ decimal count ++ codes " frames"
stream_fault_text stream.WriteFault = codes "write failed"
stream_fault_text stream.Memory = codes "out of memory"

-- the line that each status has; what it says of the payloads holds where the source tells its bytes
pub data IsReceiveLineOf (left : Option (List ℕ)) : ℕ → List ℕ → Type 0 where
  done : (received : Received) → IfSome left (λ bytes. AreCounted bytes received)
      → IsReceiveLineOf left 0 (line (received_text received))
  too_long : IsReceiveLineOf left 5 (line (fault_text faults.TooLong))
  read_failed : IsReceiveLineOf left 6 (line (fault_text faults.ReadFault))
  write_failed : IsReceiveLineOf left 7 (line (fault_text faults.WriteFault))
  no_memory : IsReceiveLineOf left 8 (line (fault_text faults.Memory))
  cut : (count : ℕ) → IfSome left (λ bytes. IsCutStream bytes count)
      → IsReceiveLineOf left 12 (line (stream_fault_text (stream.Cut count)))
