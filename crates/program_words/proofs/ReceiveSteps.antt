-- From the parts of receiving to what a run of it says as a whole.
use Rattle.std.proofs.Common.{◌≡◌, ℕ, ◌⊎◌, inl, inr, List, [], ◌∷◌, ◌++◌, refl, sym, ap, subst, ◌∙◌, append_assoc, arith}
use Rattle.std.specs.Prelude.{Option, Some, None, IfSome, codes, decimal}
use Rattle.metrics_core.specs.Characters.{line, newline}
use Rattle.drive_script.specs.Faults.{fault_text}
use Rattle.drive_script.specs.declared.faults.DriveFault.{DriveFault}
use Rattle.drive_script.specs.declared.faults.DriveFault.TheVariants as faults
use Rattle.program_words.specs.Answers.{IsSaidText, IsTooLong, LeavesSource, Says, fault_status}
use Rattle.program_words.specs.Devices.{SourceRun, SinkRun, SourceFailed, SinkFailed}
use Rattle.program_words.specs.Ends.{IsReceiveEnd}
use Rattle.program_words.specs.Reading.{IsReadFault}
use Rattle.dsd_receiver.specs.Streams.{AreCounted, AreNoFrames, HasStreamCause, IsReceived, IsReceivedInPart, IsReceivedPage, LeavesStream}
use Rattle.program_words.specs.Receive.{IsCutStream, IsReceiveComplete, IsReceiveLineOf, cut, done, no_memory, read_failed, received_text, stream_fault_text, stream_status, too_long, write_failed}
use Rattle.program_words.specs.Relay.{IsWithinLimit}
use Rattle.dsd_receiver.specs.declared.streams.Received.{Received}
use Rattle.dsd_receiver.specs.declared.streams.StreamFault.{StreamFault}
use Rattle.dsd_receiver.specs.declared.streams.StreamFault.TheVariants as stream
use Rattle.program_words.proofs.ReadingSteps.{of_any, some_of}

-- ---- which status each cause brings

memory_complete : (bytes : List ℕ) (S K : Type 0) → IsReceiveComplete bytes S K 8
memory_complete bytes S K = record {
  too_long = λ is ok. inr refl;
  cut = λ within none ok. inr refl;
  whole = λ frames within all ok sink_ok. inr refl;
}

cut_complete : (bytes : List ℕ) (S K : Type 0) → IsWithinLimit bytes → AreNoFrames bytes → IsReceiveComplete bytes S K 12
cut_complete bytes S K in_limit none = record {
  too_long = λ long ok. absurd (omega (arith, long, in_limit));
  cut = λ within also ok. inl refl;
  whole = λ frames within all ok sink_ok. absurd (none frames all);
}

-- the page was written, or a write failed
good_complete : (bytes text : List ℕ) (S K : Type 0) (status : ℕ) → IsWithinLimit bytes → IsReceivedPage bytes text → (¬ K → (status ≡ 0) ⊎ (status ≡ 8)) → IsReceiveComplete bytes S K status
good_complete bytes text S K status in_limit page end = record {
  too_long = λ long ok. absurd (omega (arith, long, in_limit));
  cut = λ within none ok. absurd (none page.frames page.whole);
  whole = λ frames within all ok sink_ok. end sink_ok;
}

long_complete : (bytes : List ℕ) (S K : Type 0) → IsTooLong bytes → IsReceiveComplete bytes S K 5
long_complete bytes S K long = record {
  too_long = λ is ok. inl refl;
  cut = λ within none ok. absurd (omega (arith, long, within));
  whole = λ frames within all ok sink_ok. absurd (omega (arith, long, within));
}

unread_complete : (bytes : List ℕ) (S K : Type 0) → S → IsReceiveComplete bytes S K 6
unread_complete bytes S K failed = record {
  too_long = λ is ok. absurd (ok failed);
  cut = λ within none ok. absurd (ok failed);
  whole = λ frames within all ok sink_ok. absurd (ok failed);
}

-- ---- how a run ends

-- what holds of the bytes that were read whole holds of those that the source tells
pub of_told : (left : Option (List ℕ)) (items : List ℕ) (P : List ℕ → Type 0) → IfSome left (λ bytes. items ≡ bytes) → P items → IfSome left P
of_told None items P whole h = tt
of_told (Some bytes) items P whole h = subst P whole h

-- the page was written
pub done_ends : (source : SourceRun) (out err : SinkRun) (items : List ℕ) → IfSome source.left (λ bytes. items ≡ bytes) → IsWithinLimit items → IsReceived items out.written out.written'
    → IfSome source.left (λ bytes. LeavesSource bytes source.left' 0) → Says err (IsReceiveLineOf source.left 0) → IsReceiveEnd source out err 0
done_ends source out err items whole within received left said = record {
  received = λ e. of_told source.left items (λ bytes. IsWithinLimit bytes × IsReceived bytes out.written out.written') whole (within, received);
  too_long = λ e. absurd (omega (arith, e));
  read_failed = λ e. absurd (omega (arith, e));
  write_failed = λ e. absurd (omega (arith, e));
  prefix = λ e. absurd (omega (arith, e));
  no_memory = λ e. absurd (omega (arith, e));
  cut = λ e. absurd (omega (arith, e));
  others = (λ e. omega (arith, e), λ e. omega (arith, e), λ e. omega (arith, e), λ e. omega (arith, e), λ e. omega (arith, e), λ e. omega (arith, e), λ e. omega (arith, e));
  unplayed = λ e. absurd (omega (arith, e));
  left = left;
  complete = of_told source.left items (λ bytes. IsReceiveComplete bytes (SourceFailed source) (SinkFailed out) 0) whole
      (good_complete items received.text (SourceFailed source) (SinkFailed out) 0 within received.page (λ ok. inl refl));
  said = said;
}

-- it was refused
pub refused_ends : (source : SourceRun) (out err : SinkRun) (items : List ℕ) (fault : StreamFault) → IfSome source.left (λ bytes. items ≡ bytes) → IsWithinLimit items
    → HasStreamCause items (SinkFailed out) fault → LeavesStream items out.written out.written' fault → IfSome source.left (λ bytes. LeavesSource bytes source.left' (stream_status fault))
    → Says err (IsReceiveLineOf source.left (stream_status fault)) → IsReceiveEnd source out err (stream_status fault)
refused_ends source out err items (stream.Cut count) whole within cause leaves left said = record {
  received = λ e. absurd (omega (arith, e));
  too_long = λ e. absurd (omega (arith, e));
  read_failed = λ e. absurd (omega (arith, e));
  write_failed = λ e. absurd (omega (arith, e));
  prefix = λ e. absurd (omega (arith, e));
  no_memory = λ e. absurd (omega (arith, e));
  cut = λ e. of_told source.left items (λ bytes. (k : ℕ) × IsCutStream bytes k) whole (count, (within, cause));
  others = (λ e. omega (arith, e), λ e. omega (arith, e), λ e. omega (arith, e), λ e. omega (arith, e), λ e. omega (arith, e), λ e. omega (arith, e), λ e. omega (arith, e));
  unplayed = λ e. leaves;
  left = left;
  complete = of_told source.left items (λ bytes. IsReceiveComplete bytes (SourceFailed source) (SinkFailed out) 12) whole
      (cut_complete items (SourceFailed source) (SinkFailed out) within cause.0);
  said = said;
}
refused_ends source out err items stream.WriteFault whole within cause leaves left said = record {
  received = λ e. absurd (omega (arith, e));
  too_long = λ e. absurd (omega (arith, e));
  read_failed = λ e. absurd (omega (arith, e));
  write_failed = λ e. cause;
  prefix = λ e. of_told source.left items (λ bytes. IsReceivedInPart bytes out.written out.written') whole leaves;
  no_memory = λ e. absurd (omega (arith, e));
  cut = λ e. absurd (omega (arith, e));
  others = (λ e. omega (arith, e), λ e. omega (arith, e), λ e. omega (arith, e), λ e. omega (arith, e), λ e. omega (arith, e), λ e. omega (arith, e), λ e. omega (arith, e));
  unplayed = λ e. absurd (omega (arith, e));
  left = left;
  complete = of_told source.left items (λ bytes. IsReceiveComplete bytes (SourceFailed source) (SinkFailed out) 7) whole
      (good_complete items leaves.text (SourceFailed source) (SinkFailed out) 7 within leaves.page (λ ok. absurd (ok cause)));
  said = said;
}
refused_ends source out err items stream.Memory whole within cause leaves left said = record {
  received = λ e. absurd (omega (arith, e));
  too_long = λ e. absurd (omega (arith, e));
  read_failed = λ e. absurd (omega (arith, e));
  write_failed = λ e. absurd (omega (arith, e));
  prefix = λ e. absurd (omega (arith, e));
  no_memory = λ e. of_told source.left items (λ bytes. (out.written' ≡ out.written) ⊎ IsReceivedInPart bytes out.written out.written') whole leaves;
  cut = λ e. absurd (omega (arith, e));
  others = (λ e. omega (arith, e), λ e. omega (arith, e), λ e. omega (arith, e), λ e. omega (arith, e), λ e. omega (arith, e), λ e. omega (arith, e), λ e. omega (arith, e));
  unplayed = λ e. absurd (omega (arith, e));
  left = left;
  complete = of_any source.left (λ bytes. IsReceiveComplete bytes (SourceFailed source) (SinkFailed out) 8) (λ bytes. memory_complete bytes (SourceFailed source) (SinkFailed out));
  said = said;
}

-- the source was not read whole, or memory was wanting, and nothing was written
pub unread_ends : (source : SourceRun) (out err : SinkRun) (fault : DriveFault) → IsReadFault source.left (SourceFailed source) fault → out.written' ≡ out.written
    → IfSome source.left (λ bytes. LeavesSource bytes source.left' (fault_status fault)) → Says err (IsReceiveLineOf source.left (fault_status fault)) → IsReceiveEnd source out err (fault_status fault)
unread_ends source out err (faults.Script l) cause unwritten left said = absurd cause
unread_ends source out err (faults.Setting fault) cause unwritten left said = absurd cause
unread_ends source out err faults.TooLong cause unwritten left said = record {
  received = λ e. absurd (omega (arith, e));
  too_long = λ e. cause;
  read_failed = λ e. absurd (omega (arith, e));
  write_failed = λ e. absurd (omega (arith, e));
  prefix = λ e. absurd (omega (arith, e));
  no_memory = λ e. absurd (omega (arith, e));
  cut = λ e. absurd (omega (arith, e));
  others = (λ e. omega (arith, e), λ e. omega (arith, e), λ e. omega (arith, e), λ e. omega (arith, e), λ e. omega (arith, e), λ e. omega (arith, e), λ e. omega (arith, e));
  unplayed = λ e. unwritten;
  left = left;
  complete = some_of source.left IsTooLong (λ bytes. IsReceiveComplete bytes (SourceFailed source) (SinkFailed out) 5) (λ bytes long. long_complete bytes (SourceFailed source) (SinkFailed out) long) cause;
  said = said;
}
unread_ends source out err faults.ReadFault cause unwritten left said = record {
  received = λ e. absurd (omega (arith, e));
  too_long = λ e. absurd (omega (arith, e));
  read_failed = λ e. cause;
  write_failed = λ e. absurd (omega (arith, e));
  prefix = λ e. absurd (omega (arith, e));
  no_memory = λ e. absurd (omega (arith, e));
  cut = λ e. absurd (omega (arith, e));
  others = (λ e. omega (arith, e), λ e. omega (arith, e), λ e. omega (arith, e), λ e. omega (arith, e), λ e. omega (arith, e), λ e. omega (arith, e), λ e. omega (arith, e));
  unplayed = λ e. unwritten;
  left = left;
  complete = of_any source.left (λ bytes. IsReceiveComplete bytes (SourceFailed source) (SinkFailed out) 6) (λ bytes. unread_complete bytes (SourceFailed source) (SinkFailed out) cause);
  said = said;
}
unread_ends source out err faults.WriteFault cause unwritten left said = absurd cause
unread_ends source out err faults.Memory cause unwritten left said = record {
  received = λ e. absurd (omega (arith, e));
  too_long = λ e. absurd (omega (arith, e));
  read_failed = λ e. absurd (omega (arith, e));
  write_failed = λ e. absurd (omega (arith, e));
  prefix = λ e. absurd (omega (arith, e));
  no_memory = λ e. of_any source.left (λ bytes. (out.written' ≡ out.written) ⊎ IsReceivedInPart bytes out.written out.written') (λ bytes. inl unwritten);
  cut = λ e. absurd (omega (arith, e));
  others = (λ e. omega (arith, e), λ e. omega (arith, e), λ e. omega (arith, e), λ e. omega (arith, e), λ e. omega (arith, e), λ e. omega (arith, e), λ e. omega (arith, e));
  unplayed = λ e. absurd (omega (arith, e));
  left = left;
  complete = of_any source.left (λ bytes. IsReceiveComplete bytes (SourceFailed source) (SinkFailed out) 8) (λ bytes. memory_complete bytes (SourceFailed source) (SinkFailed out));
  said = said;
}

-- the same at the number of the status
pub receive_end : (source : SourceRun) (out err : SinkRun) (status number : ℕ) → number ≡ status → IsReceiveEnd source out err status → IsReceiveEnd source out err number
receive_end source out err status number is ends = subst (λ n. IsReceiveEnd source out err n) (sym is) ends

-- receiving is refused by no stream that is too long
pub received_in_time : (fault : StreamFault) → stream_status fault ≡ 5 → ⊥
received_in_time (stream.Cut count) e = omega (arith, e)
received_in_time stream.WriteFault e = omega (arith, e)
received_in_time stream.Memory e = omega (arith, e)

-- ---- lines on `err`

pub unread_line : (left : Option (List ℕ)) (S : Type 0) (fault : DriveFault) → IsReadFault left S fault → IsReceiveLineOf left (fault_status fault) (line (fault_text fault))
unread_line left S (faults.Script l) h = absurd h
unread_line left S (faults.Setting fault) h = absurd h
unread_line left S faults.TooLong h = too_long
unread_line left S faults.ReadFault h = read_failed
unread_line left S faults.WriteFault h = absurd h
unread_line left S faults.Memory h = no_memory

pub done_line : (left : Option (List ℕ)) (items : List ℕ) (received : Received) → IfSome left (λ bytes. items ≡ bytes) → AreCounted items received
    → IsReceiveLineOf left 0 (line (received_text received))
done_line left items received whole counted = done received (of_told left items (λ bytes. AreCounted bytes received) whole counted)

pub refused_line : (left : Option (List ℕ)) (items : List ℕ) (K : Type 0) (fault : StreamFault) → IfSome left (λ bytes. items ≡ bytes) → IsWithinLimit items → HasStreamCause items K fault
    → IsReceiveLineOf left (stream_status fault) (line (stream_fault_text fault))
refused_line left items K (stream.Cut count) whole within cause = cut count (of_told left items (λ bytes. IsCutStream bytes count) whole (within, cause))
refused_line left items K stream.WriteFault whole within cause = write_failed
refused_line left items K stream.Memory whole within cause = no_memory

-- a text that is the line of a fault, said of that fault
pub stream_said_of : (Failed : Type 0) (said said' : Option (List ℕ)) (fault is : StreamFault) (text : List ℕ) → fault ≡ is → text ≡ line (stream_fault_text is)
    → IsSaidText Failed said said' text → IsSaidText Failed said said' (line (stream_fault_text fault))
stream_said_of Failed said said' fault is text same spelled h =
    let P : List ℕ → Type 0 = λ t. IsSaidText Failed said said' t in
    subst P (spelled ∙ sym (ap (λ f. line (stream_fault_text f)) same)) h

-- the line of a cut stream, from its pieces
pub cut_line : (digits : List ℕ) (count : ℕ) → digits ≡ decimal count → codes "stream: cut after " ++ (digits ++ codes " frames\n") ≡ line (stream_fault_text (stream.Cut count))
cut_line digits count e =
    ap (λ d. codes "stream: cut after " ++ (d ++ codes " frames\n")) e
    ∙ sym (append_assoc (codes "stream: cut after " ++ decimal count) (codes " frames") (newline ∷ []) ∙ append_assoc (codes "stream: cut after ") (decimal count) (codes " frames\n"))
