-- What becomes of a stream of payloads that is received, and why it becomes no page (this project's rules).
use Rattle.std.specs.Prelude.{◌≡◌, ℕ, ◌⊎◌, List, [], length, flat_map, Option}
use Rattle.metrics_core.specs.Outside.{GrewBy, GrewByPrefix}
use Rattle.prom_format.specs.Pages.{IsPage}
use Rattle.prom_exporter.specs.State.{PrometheusState, empty_state}
use Rattle.prom_exporter.specs.Exporter.{default_settings, families_shown}
use Rattle.dsd_lines.specs.declared.dialects.Dialect.TheVariants.{DogStatsd}
use Rattle.dsd_lines.specs.Frames.{AreFrames, Splits}
use Rattle.dsd_lines.specs.Grammar.{LineText}
use Rattle.dsd_lines.specs.Payloads.{payload_lines}
use Rattle.dsd_receiver.specs.Received.{AreRead, Receives, after_readings, count_bad, count_lines}
use Rattle.dsd_receiver.specs.declared.streams.Received.{Received}
use Rattle.dsd_receiver.specs.declared.streams.StreamFault.{StreamFault}
use Rattle.dsd_receiver.specs.declared.streams.StreamFault.TheVariants as stream

-- ---- what is written

-- the lines of payloads, one payload after another
abbrev pub lines_of : List (List ℕ) → List (List ℕ)
lines_of payloads = flat_map payload_lines payloads

-- The bytes are whole frames, and the text is the page, at moment 0, of an exporter with the default settings that
-- received their lines.
pub record IsReceivedPage (bytes text : List ℕ) : Type 0 where
  pub frames : List (List ℕ)
  pub state : PrometheusState
  pub whole : Splits bytes frames []
  pub receives : Receives DogStatsd 0 (lines_of frames) empty_state state
  pub page : IsPage text (families_shown default_settings 0 state)

-- what the sink tells grew by that page
pub record IsReceived (bytes : List ℕ) (written written' : Option (List ℕ)) : Type 0 where
  pub text : List ℕ
  pub page : IsReceivedPage bytes text
  pub grew : GrewBy written written' text

-- what the sink tells grew by a prefix of it
pub record IsReceivedInPart (bytes : List ℕ) (written written' : Option (List ℕ)) : Type 0 where
  pub text : List ℕ
  pub page : IsReceivedPage bytes text
  pub grew : GrewByPrefix written written' text

-- the bytes are whole frames, so many, and so many of their lines are lines and bad
pub record AreCounted (bytes : List ℕ) (received : Received) : Type 0 where
  pub frames : List (List ℕ)
  pub readings : List (Option LineText)
  pub whole : Splits bytes frames []
  pub are_read : AreRead DogStatsd (lines_of frames) readings
  pub frames_are : received.frames ≡ length frames
  pub lines_are : received.lines ≡ count_lines readings
  pub bad_are : received.bad ≡ count_bad readings

-- the same counts, of an exporter without series whose state became this
pub record IsTakenIn (bytes : List ℕ) (received : Received) (state : PrometheusState) : Type 0 where
  pub counted : AreCounted bytes received
  pub state_is : state ≡ after_readings 0 counted.readings empty_state

-- ---- causes

-- the bytes are not whole frames
abbrev pub AreNoFrames : List ℕ → Type 0
AreNoFrames bytes = (frames : List (List ℕ)) → ¬ Splits bytes frames []

-- they are not, and so many whole ones stand at their front
abbrev pub IsCutAfter : List ℕ → ℕ → Type 0
IsCutAfter bytes count =
    AreNoFrames bytes × ((frames : List (List ℕ)) × AreFrames bytes frames × (count ≡ length frames))

-- why these bytes became no page; want of memory is free
abbrev pub HasStreamCause : List ℕ → Type 0 → StreamFault → Type 0
HasStreamCause bytes SinkFailed (stream.Cut count) = IsCutAfter bytes count
HasStreamCause bytes SinkFailed stream.WriteFault = SinkFailed
HasStreamCause bytes SinkFailed stream.Memory = Unit {0}

-- the same before anything was written, and of the writing alone
abbrev pub IsIntakeFault : List ℕ → StreamFault → Type 0
IsIntakeFault bytes (stream.Cut count) = IsCutAfter bytes count
IsIntakeFault bytes stream.WriteFault = ⊥
IsIntakeFault bytes stream.Memory = Unit {0}

abbrev pub IsWritingFault : Type 0 → StreamFault → Type 0
IsWritingFault SinkFailed (stream.Cut count) = ⊥
IsWritingFault SinkFailed stream.WriteFault = SinkFailed
IsWritingFault SinkFailed stream.Memory = Unit {0}

-- what that leaves: nothing written where the bytes end within a frame, a prefix of the page after a failed write, and
-- nothing or such a prefix where memory was wanting
abbrev pub LeavesStream : List ℕ → Option (List ℕ) → Option (List ℕ) → StreamFault → Type 0
LeavesStream bytes written written' (stream.Cut count) = written' ≡ written
LeavesStream bytes written written' stream.WriteFault = IsReceivedInPart bytes written written'
LeavesStream bytes written written' stream.Memory =
    (written' ≡ written) ⊎ IsReceivedInPart bytes written written'
