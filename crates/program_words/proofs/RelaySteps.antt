-- From the parts of a relay to what a run of it says as a whole.
use Rattle.std.proofs.Common.{◌≡◌, ℕ, ◌⊎◌, inl, inr, List, [], ◌∷◌, ◌++◌, refl, sym, ap, subst, ◌∙◌, append_assoc, arith}
use Rattle.std.specs.Prelude.{All, Option, Some, None, IfSome, codes, decimal, string_bytes}
use Rattle.std.specs.declared.alloc.Global.{Global}
use Rattle.std.specs.declared.string.String.{String}
use Rattle.metrics_core.specs.Characters.{line, newline}
use Rattle.metrics_core.specs.Outside.{GrewBy, GrewByPrefix}
use Rattle.drive_script.specs.Faults.{fault_text}
use Rattle.drive_script.specs.declared.faults.DriveFault.{DriveFault}
use Rattle.drive_script.specs.declared.faults.DriveFault.TheVariants as faults
use Rattle.prom_format.specs.Pages.{Family, IsPrintable, page_text}
use Rattle.page_relay.specs.Merge.{IsMerged}
use Rattle.page_relay.specs.Streams.{IsFirstBadLine, IsStream}
use Rattle.page_relay.specs.Values.{IsWritingFault}
use Rattle.page_relay.specs.declared.faults.RelayFault.{RelayFault}
use Rattle.page_relay.specs.declared.faults.RelayFault.TheVariants as relay
use Rattle.page_relay.proofs.MergedPages.{conflict_refuses, merged_stands}
use Rattle.page_relay.proofs.OneStream.{stream_told}
use Rattle.page_relay.proofs.Streams.{page_printable}
use Rattle.program_words.specs.Answers.{IsSaidText, IsTooLong, LeavesSource, Says, fault_status}
use Rattle.program_words.specs.Devices.{SourceRun, SinkRun, SourceFailed, SinkFailed}
use Rattle.program_words.specs.Ends.{IsMergeEnd}
use Rattle.program_words.specs.Reading.{IsReadFault}
use Rattle.program_words.specs.Relay.{HasConflict, HasPages, HasRelayCause, IsBadStream, IsMergedPage, IsRelayComplete, IsRelayed, IsRelayedInPart, IsRelayLineOf, IsUnmergeable, IsWithinLimit, LeavesRelay, bad_stream, conflict, done, merged_text, no_memory, read_failed, relay_fault_text, relay_status, too_long, write_failed}
use Rattle.program_words.proofs.ReadingSteps.{of_any, some_of}

-- ---- the page

pub merged_page : (bytes : List ℕ) (pages : List (List Family)) (families : List Family) → IsStream bytes pages → IsMerged pages families → IsMergedPage bytes (page_text families)
merged_page bytes pages families stream merged = record {
  pages = pages;
  families = families;
  stream = stream;
  merged = merged;
  page = merged_stands bytes pages families stream merged;
}

pub merged_printable : (bytes : List ℕ) (pages : List (List Family)) (families : List Family) → IsStream bytes pages → IsMerged pages families → All IsPrintable families
merged_printable bytes pages families stream merged =
    page_printable (page_text families) families (merged_stands bytes pages families stream merged).page

pub relayed_whole : (bytes : List ℕ) (pages : List (List Family)) (families : List Family) (written written' : Option (List ℕ)) → IsStream bytes pages → IsMerged pages families
    → GrewBy written written' (page_text families) → IsRelayed bytes written written'
relayed_whole bytes pages families written written' stream merged grew =
    record { text = page_text families; page = merged_page bytes pages families stream merged; grew = grew }

pub relayed_prefix : (bytes : List ℕ) (pages : List (List Family)) (families : List Family) (written written' : Option (List ℕ)) → IsStream bytes pages → IsMerged pages families
    → GrewByPrefix written written' (page_text families) → IsRelayedInPart bytes written written'
relayed_prefix bytes pages families written written' stream merged grew =
    record { text = page_text families; page = merged_page bytes pages families stream merged; grew = grew }

-- what a refused writing leaves
pub relay_leaves : (bytes : List ℕ) (pages : List (List Family)) (families : List Family) (written written' : Option (List ℕ)) (before now : ℕ) (fault : RelayFault) → IsStream bytes pages → IsMerged pages families
    → IsWritingFault before now fault → GrewByPrefix written written' (page_text families) → LeavesRelay bytes written written' fault
relay_leaves bytes pages families written written' before now (relay.Syntax l) stream merged cause grew = absurd cause
relay_leaves bytes pages families written written' before now (relay.Conflict page name) stream merged cause grew = absurd cause
relay_leaves bytes pages families written written' before now relay.WriteFault stream merged cause grew = relayed_prefix bytes pages families written written' stream merged grew
relay_leaves bytes pages families written written' before now relay.Memory stream merged cause grew = inr (relayed_prefix bytes pages families written written' stream merged grew)

-- ---- which status each cause brings

memory_relay : (bytes : List ℕ) (S K : Type 0) → IsRelayComplete bytes S K 8
memory_relay bytes S K = record {
  too_long = λ is ok. inr refl;
  no_stream = λ within none ok. inr refl;
  no_merge = λ pages within stream none ok. inr refl;
  merges = λ pages families within stream merged ok sink_ok. inr refl;
}

bad_relay : (bytes : List ℕ) (S K : Type 0) (l : ℕ) → IsWithinLimit bytes → IsFirstBadLine bytes l → IsRelayComplete bytes S K 10
bad_relay bytes S K l in_limit bad = record {
  too_long = λ long ok. absurd (omega (arith, long, in_limit));
  no_stream = λ within none ok. inl refl;
  no_merge = λ pages within stream none ok. absurd (bad.no_stream pages stream);
  merges = λ pages families within stream merged ok sink_ok. absurd (bad.no_stream pages stream);
}

conflict_relay : (bytes : List ℕ) (S K : Type 0) (page : ℕ) (name : List ℕ) → IsWithinLimit bytes → HasConflict bytes page name → IsRelayComplete bytes S K 11
conflict_relay bytes S K page name in_limit h = record {
  too_long = λ long ok. absurd (omega (arith, long, in_limit));
  no_stream = λ within none ok. absurd (none h.0 h.1);
  no_merge = λ pages within stream none ok. inl refl;
  merges = λ pages families within stream merged ok sink_ok.
      absurd (conflict_refuses h.0 page name h.2 families (subst (λ p. IsMerged p families) (stream_told bytes pages h.0 stream h.1) merged));
}

-- pages that merge were written, or a write failed
good_relay : (bytes text : List ℕ) (S K : Type 0) (status : ℕ) → IsWithinLimit bytes → IsMergedPage bytes text → (¬ K → (status ≡ 0) ⊎ (status ≡ 8)) → IsRelayComplete bytes S K status
good_relay bytes text S K status in_limit h end = record {
  too_long = λ long ok. absurd (omega (arith, long, in_limit));
  no_stream = λ within none ok. absurd (none h.pages h.stream);
  no_merge = λ pages within stream none ok. absurd (none h.families (subst (λ p. IsMerged p h.families) (stream_told bytes h.pages pages h.stream stream) h.merged));
  merges = λ pages families within stream merged ok sink_ok. end sink_ok;
}

-- ---- how a run ends

-- what holds of the bytes that were read whole holds of those that the source tells
of_told : (left : Option (List ℕ)) (items : List ℕ) (P : List ℕ → Type 0) → IfSome left (λ bytes. items ≡ bytes) → P items → IfSome left P
of_told None items P whole h = tt
of_told (Some bytes) items P whole h = subst P whole h

-- the page was written
pub done_ends : (source : SourceRun) (out err : SinkRun) (items : List ℕ) → IfSome source.left (λ bytes. items ≡ bytes) → IsWithinLimit items → IsRelayed items out.written out.written'
    → IfSome source.left (λ bytes. LeavesSource bytes source.left' 0) → Says err (IsRelayLineOf source.left 0) → IsMergeEnd source out err 0
done_ends source out err items whole within relayed left said = record {
  merged = λ e. of_told source.left items (λ bytes. IsWithinLimit bytes × IsRelayed bytes out.written out.written') whole (within, relayed);
  too_long = λ e. absurd (omega (arith, e));
  read_failed = λ e. absurd (omega (arith, e));
  write_failed = λ e. absurd (omega (arith, e));
  prefix = λ e. absurd (omega (arith, e));
  no_memory = λ e. absurd (omega (arith, e));
  bad_stream = λ e. absurd (omega (arith, e));
  conflict = λ e. absurd (omega (arith, e));
  others = (λ e. omega (arith, e), λ e. omega (arith, e), λ e. omega (arith, e), λ e. omega (arith, e), λ e. omega (arith, e), λ e. omega (arith, e));
  unplayed = λ e. absurd (omega (arith, e));
  left = left;
  complete = of_told source.left items (λ bytes. IsRelayComplete bytes (SourceFailed source) (SinkFailed out) 0) whole
      (good_relay items relayed.text (SourceFailed source) (SinkFailed out) 0 within relayed.page (λ ok. inl refl));
  said = said;
}

-- the relay was refused
pub refused_ends : (source : SourceRun) (out err : SinkRun) (items : List ℕ) (fault : RelayFault) → IfSome source.left (λ bytes. items ≡ bytes) → IsWithinLimit items
    → HasRelayCause items (SinkFailed out) fault → LeavesRelay items out.written out.written' fault → IfSome source.left (λ bytes. LeavesSource bytes source.left' (relay_status fault))
    → Says err (IsRelayLineOf source.left (relay_status fault)) → IsMergeEnd source out err (relay_status fault)
refused_ends source out err items (relay.Syntax l) whole within cause leaves left said = record {
  merged = λ e. absurd (omega (arith, e));
  too_long = λ e. absurd (omega (arith, e));
  read_failed = λ e. absurd (omega (arith, e));
  write_failed = λ e. absurd (omega (arith, e));
  prefix = λ e. absurd (omega (arith, e));
  no_memory = λ e. absurd (omega (arith, e));
  bad_stream = λ e. of_told source.left items (λ bytes. (k : ℕ) × IsBadStream bytes k) whole (l, (within, cause));
  conflict = λ e. absurd (omega (arith, e));
  others = (λ e. omega (arith, e), λ e. omega (arith, e), λ e. omega (arith, e), λ e. omega (arith, e), λ e. omega (arith, e), λ e. omega (arith, e));
  unplayed = λ e. leaves;
  left = left;
  complete = of_told source.left items (λ bytes. IsRelayComplete bytes (SourceFailed source) (SinkFailed out) 10) whole
      (bad_relay items (SourceFailed source) (SinkFailed out) l within cause);
  said = said;
}
refused_ends source out err items (relay.Conflict page name) whole within cause leaves left said = record {
  merged = λ e. absurd (omega (arith, e));
  too_long = λ e. absurd (omega (arith, e));
  read_failed = λ e. absurd (omega (arith, e));
  write_failed = λ e. absurd (omega (arith, e));
  prefix = λ e. absurd (omega (arith, e));
  no_memory = λ e. absurd (omega (arith, e));
  bad_stream = λ e. absurd (omega (arith, e));
  conflict = λ e. of_told source.left items (λ bytes. (k : ℕ) × (text : List ℕ) × IsUnmergeable bytes k text) whole (page, string_bytes name, (within, cause));
  others = (λ e. omega (arith, e), λ e. omega (arith, e), λ e. omega (arith, e), λ e. omega (arith, e), λ e. omega (arith, e), λ e. omega (arith, e));
  unplayed = λ e. leaves;
  left = left;
  complete = of_told source.left items (λ bytes. IsRelayComplete bytes (SourceFailed source) (SinkFailed out) 11) whole
      (conflict_relay items (SourceFailed source) (SinkFailed out) page (string_bytes name) within cause);
  said = said;
}
refused_ends source out err items relay.WriteFault whole within cause leaves left said = record {
  merged = λ e. absurd (omega (arith, e));
  too_long = λ e. absurd (omega (arith, e));
  read_failed = λ e. absurd (omega (arith, e));
  write_failed = λ e. cause;
  prefix = λ e. of_told source.left items (λ bytes. IsRelayedInPart bytes out.written out.written') whole leaves;
  no_memory = λ e. absurd (omega (arith, e));
  bad_stream = λ e. absurd (omega (arith, e));
  conflict = λ e. absurd (omega (arith, e));
  others = (λ e. omega (arith, e), λ e. omega (arith, e), λ e. omega (arith, e), λ e. omega (arith, e), λ e. omega (arith, e), λ e. omega (arith, e));
  unplayed = λ e. absurd (omega (arith, e));
  left = left;
  complete = of_told source.left items (λ bytes. IsRelayComplete bytes (SourceFailed source) (SinkFailed out) 7) whole
      (good_relay items leaves.text (SourceFailed source) (SinkFailed out) 7 within leaves.page (λ ok. absurd (ok cause)));
  said = said;
}
refused_ends source out err items relay.Memory whole within cause leaves left said = record {
  merged = λ e. absurd (omega (arith, e));
  too_long = λ e. absurd (omega (arith, e));
  read_failed = λ e. absurd (omega (arith, e));
  write_failed = λ e. absurd (omega (arith, e));
  prefix = λ e. absurd (omega (arith, e));
  no_memory = λ e. of_told source.left items (λ bytes. (out.written' ≡ out.written) ⊎ IsRelayedInPart bytes out.written out.written') whole leaves;
  bad_stream = λ e. absurd (omega (arith, e));
  conflict = λ e. absurd (omega (arith, e));
  others = (λ e. omega (arith, e), λ e. omega (arith, e), λ e. omega (arith, e), λ e. omega (arith, e), λ e. omega (arith, e), λ e. omega (arith, e));
  unplayed = λ e. absurd (omega (arith, e));
  left = left;
  complete = of_any source.left (λ bytes. IsRelayComplete bytes (SourceFailed source) (SinkFailed out) 8) (λ bytes. memory_relay bytes (SourceFailed source) (SinkFailed out));
  said = said;
}

long_relay : (bytes : List ℕ) (S K : Type 0) → IsTooLong bytes → IsRelayComplete bytes S K 5
long_relay bytes S K long = record {
  too_long = λ is ok. inl refl;
  no_stream = λ within none ok. absurd (omega (arith, long, within));
  no_merge = λ pages within stream none ok. absurd (omega (arith, long, within));
  merges = λ pages families within stream merged ok sink_ok. absurd (omega (arith, long, within));
}

unread_relay : (bytes : List ℕ) (S K : Type 0) → S → IsRelayComplete bytes S K 6
unread_relay bytes S K failed = record {
  too_long = λ is ok. absurd (ok failed);
  no_stream = λ within none ok. absurd (ok failed);
  no_merge = λ pages within stream none ok. absurd (ok failed);
  merges = λ pages families within stream merged ok sink_ok. absurd (ok failed);
}

-- the source was not read whole, or memory was wanting, and nothing was written
pub unread_ends : (source : SourceRun) (out err : SinkRun) (fault : DriveFault) → IsReadFault source.left (SourceFailed source) fault → out.written' ≡ out.written
    → IfSome source.left (λ bytes. LeavesSource bytes source.left' (fault_status fault)) → Says err (IsRelayLineOf source.left (fault_status fault)) → IsMergeEnd source out err (fault_status fault)
unread_ends source out err (faults.Script l) cause unwritten left said = absurd cause
unread_ends source out err (faults.Setting fault) cause unwritten left said = absurd cause
unread_ends source out err faults.TooLong cause unwritten left said = record {
  merged = λ e. absurd (omega (arith, e));
  too_long = λ e. cause;
  read_failed = λ e. absurd (omega (arith, e));
  write_failed = λ e. absurd (omega (arith, e));
  prefix = λ e. absurd (omega (arith, e));
  no_memory = λ e. absurd (omega (arith, e));
  bad_stream = λ e. absurd (omega (arith, e));
  conflict = λ e. absurd (omega (arith, e));
  others = (λ e. omega (arith, e), λ e. omega (arith, e), λ e. omega (arith, e), λ e. omega (arith, e), λ e. omega (arith, e), λ e. omega (arith, e));
  unplayed = λ e. unwritten;
  left = left;
  complete = some_of source.left IsTooLong (λ bytes. IsRelayComplete bytes (SourceFailed source) (SinkFailed out) 5) (λ bytes long. long_relay bytes (SourceFailed source) (SinkFailed out) long) cause;
  said = said;
}
unread_ends source out err faults.ReadFault cause unwritten left said = record {
  merged = λ e. absurd (omega (arith, e));
  too_long = λ e. absurd (omega (arith, e));
  read_failed = λ e. cause;
  write_failed = λ e. absurd (omega (arith, e));
  prefix = λ e. absurd (omega (arith, e));
  no_memory = λ e. absurd (omega (arith, e));
  bad_stream = λ e. absurd (omega (arith, e));
  conflict = λ e. absurd (omega (arith, e));
  others = (λ e. omega (arith, e), λ e. omega (arith, e), λ e. omega (arith, e), λ e. omega (arith, e), λ e. omega (arith, e), λ e. omega (arith, e));
  unplayed = λ e. unwritten;
  left = left;
  complete = of_any source.left (λ bytes. IsRelayComplete bytes (SourceFailed source) (SinkFailed out) 6) (λ bytes. unread_relay bytes (SourceFailed source) (SinkFailed out) cause);
  said = said;
}
unread_ends source out err faults.WriteFault cause unwritten left said = absurd cause
unread_ends source out err faults.Memory cause unwritten left said = record {
  merged = λ e. absurd (omega (arith, e));
  too_long = λ e. absurd (omega (arith, e));
  read_failed = λ e. absurd (omega (arith, e));
  write_failed = λ e. absurd (omega (arith, e));
  prefix = λ e. absurd (omega (arith, e));
  no_memory = λ e. of_any source.left (λ bytes. (out.written' ≡ out.written) ⊎ IsRelayedInPart bytes out.written out.written') (λ bytes. inl unwritten);
  bad_stream = λ e. absurd (omega (arith, e));
  conflict = λ e. absurd (omega (arith, e));
  others = (λ e. omega (arith, e), λ e. omega (arith, e), λ e. omega (arith, e), λ e. omega (arith, e), λ e. omega (arith, e), λ e. omega (arith, e));
  unplayed = λ e. absurd (omega (arith, e));
  left = left;
  complete = of_any source.left (λ bytes. IsRelayComplete bytes (SourceFailed source) (SinkFailed out) 8) (λ bytes. memory_relay bytes (SourceFailed source) (SinkFailed out));
  said = said;
}

-- the same at the number of the status
pub merge_end : (source : SourceRun) (out err : SinkRun) (status number : ℕ) → number ≡ status → IsMergeEnd source out err status → IsMergeEnd source out err number
merge_end source out err status number is ends = subst (λ n. IsMergeEnd source out err n) (sym is) ends

-- the relay is refused by no script that is too long
pub relayed_in_time : (fault : RelayFault) → relay_status fault ≡ 5 → ⊥
relayed_in_time (relay.Syntax l) e = omega (arith, e)
relayed_in_time (relay.Conflict page name) e = omega (arith, e)
relayed_in_time relay.WriteFault e = omega (arith, e)
relayed_in_time relay.Memory e = omega (arith, e)

-- ---- lines on `err`

pub unread_line : (left : Option (List ℕ)) (S : Type 0) (fault : DriveFault) → IsReadFault left S fault → IsRelayLineOf left (fault_status fault) (line (fault_text fault))
unread_line left S (faults.Script l) h = absurd h
unread_line left S (faults.Setting fault) h = absurd h
unread_line left S faults.TooLong h = too_long
unread_line left S faults.ReadFault h = read_failed
unread_line left S faults.WriteFault h = absurd h
unread_line left S faults.Memory h = no_memory

pub done_line : (left : Option (List ℕ)) (items : List ℕ) (pages : ℕ) → IfSome left (λ bytes. items ≡ bytes) → HasPages items pages → IsRelayLineOf left 0 (line (merged_text pages))
done_line left items pages whole has = done pages (of_told left items (λ bytes. HasPages bytes pages) whole has)

pub refused_line : (left : Option (List ℕ)) (items : List ℕ) (K : Type 0) (fault : RelayFault) → IfSome left (λ bytes. items ≡ bytes) → IsWithinLimit items → HasRelayCause items K fault
    → IsRelayLineOf left (relay_status fault) (line (relay_fault_text fault))
refused_line left items K (relay.Syntax l) whole within cause = bad_stream l (of_told left items (λ bytes. IsBadStream bytes l) whole (within, cause))
refused_line left items K (relay.Conflict page name) whole within cause =
    conflict page (string_bytes name) (of_told left items (λ bytes. IsUnmergeable bytes page (string_bytes name)) whole (within, cause))
refused_line left items K relay.WriteFault whole within cause = write_failed
refused_line left items K relay.Memory whole within cause = no_memory

-- a text that is the line of a fault, said of that fault
pub relay_said_of : (Failed : Type 0) (said said' : Option (List ℕ)) (fault is : RelayFault) (text : List ℕ) → fault ≡ is → text ≡ line (relay_fault_text is)
    → IsSaidText Failed said said' text → IsSaidText Failed said said' (line (relay_fault_text fault))
relay_said_of Failed said said' fault is text same spelled h =
    let P : List ℕ → Type 0 = λ t. IsSaidText Failed said said' t in
    subst P (spelled ∙ sym (ap (λ f. line (relay_fault_text f)) same)) h

-- the line of a bad line, from its pieces
pub syntax_line : (digits : List ℕ) (l : ℕ) → digits ≡ decimal l → codes "page: line " ++ (digits ++ newline ∷ []) ≡ line (relay_fault_text (relay.Syntax l))
syntax_line digits l e = ap (λ d. codes "page: line " ++ (d ++ newline ∷ [])) e ∙ sym (append_assoc (codes "page: line ") (decimal l) (newline ∷ []))

-- the line of a conflict, from its pieces
pub conflict_line : (digits text : List ℕ) (page : ℕ) (name : String Global) → digits ≡ decimal page → text ≡ string_bytes name
    → codes "conflict: page " ++ (digits ++ (codes " family " ++ (text ++ newline ∷ []))) ≡ line (relay_fault_text (relay.Conflict page name))
conflict_line digits text page name d t =
    (λ j. codes "conflict: page " ++ (d j ++ (codes " family " ++ (t j ++ newline ∷ []))))
    ∙ sym (append_assoc (codes "conflict: page " ++ decimal page ++ codes " family ") (string_bytes name) (newline ∷ [])
    ∙ append_assoc (codes "conflict: page " ++ decimal page) (codes " family ") (string_bytes name ++ newline ∷ [])
    ∙ append_assoc (codes "conflict: page ") (decimal page) (codes " family " ++ (string_bytes name ++ newline ∷ [])))
