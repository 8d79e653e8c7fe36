-- What a run of the word `merge` writes, which status comes by which cause, and its line on `err` (this project's
-- rules).
use Rattle.std.specs.Prelude.{◌≡◌, ℕ, ◌≤◌, ◌⊎◌, List, ◌++◌, length, Option, IfSome, codes, decimal, string_bytes}
use Rattle.metrics_core.specs.Characters.{line}
use Rattle.metrics_core.specs.Outside.{GrewBy, GrewByPrefix}
use Rattle.drive_script.specs.Faults.{fault_text}
use Rattle.drive_script.specs.declared.faults.DriveFault.TheVariants as faults
use Rattle.prom_format.specs.Pages.{Family}
use Rattle.page_relay.specs.Merge.{IsConflict, IsMerged}
use Rattle.page_relay.specs.Streams.{IsFirstBadLine, IsRelayPage, IsStream}
use Rattle.page_relay.specs.declared.faults.RelayFault.{RelayFault}
use Rattle.page_relay.specs.declared.faults.RelayFault.TheVariants as relay
use Rattle.program_words.specs.Answers.{IsTooLong}
use Rattle.script_player.specs.Headline.{script_limit}

-- ---- what is written

-- the bytes are a stream whose pages merge, and the text is the page that they become, which can stand in a stream
-- itself
pub record IsMergedPage (bytes text : List ℕ) : Type 0 where
  pub pages : List (List Family)
  pub families : List Family
  pub stream : IsStream bytes pages
  pub merged : IsMerged pages families
  pub page : IsRelayPage text families

-- what the sink tells grew by the page that the pages of the stream become
pub record IsRelayed (bytes : List ℕ) (written written' : Option (List ℕ)) : Type 0 where
  pub text : List ℕ
  pub page : IsMergedPage bytes text
  pub grew : GrewBy written written' text

-- what the sink tells grew by a prefix of that page
pub record IsRelayedInPart (bytes : List ℕ) (written written' : Option (List ℕ)) : Type 0 where
  pub text : List ℕ
  pub page : IsMergedPage bytes text
  pub grew : GrewByPrefix written written' text

-- ---- causes

abbrev pub IsWithinLimit : List ℕ → Type 0
IsWithinLimit bytes = length bytes ≤ script_limit

-- the bytes are a stream of so many pages
abbrev pub HasPages : List ℕ → ℕ → Type 0
HasPages bytes count = (pages : List (List Family)) × IsStream bytes pages × (count ≡ length pages)

-- the bytes are a stream, and the family of this name on this page doesn't merge with those before it
abbrev pub HasConflict : List ℕ → ℕ → List ℕ → Type 0
HasConflict bytes page name =
    (pages : List (List Family)) × IsStream bytes pages × IsConflict pages page name

-- the same of bytes within the limit, and of bytes that are no stream, whose first bad line is l
abbrev pub IsUnmergeable : List ℕ → ℕ → List ℕ → Type 0
IsUnmergeable bytes page name = IsWithinLimit bytes × HasConflict bytes page name

abbrev pub IsBadStream : List ℕ → ℕ → Type 0
IsBadStream bytes l = IsWithinLimit bytes × IsFirstBadLine bytes l

-- why the pages of these bytes weren't relayed; want of memory is free
abbrev pub HasRelayCause : List ℕ → Type 0 → RelayFault → Type 0
HasRelayCause bytes SinkFailed (relay.Syntax l) = IsFirstBadLine bytes l
HasRelayCause bytes SinkFailed (relay.Conflict page name) = HasConflict bytes page (string_bytes name)
HasRelayCause bytes SinkFailed relay.WriteFault = SinkFailed
HasRelayCause bytes SinkFailed relay.Memory = Unit {0}

-- what that leaves: nothing written where the bytes are no stream or the pages don't merge, a prefix of the page after
-- a failed write, and nothing or such a prefix where memory was wanting
abbrev pub LeavesRelay : List ℕ → Option (List ℕ) → Option (List ℕ) → RelayFault → Type 0
LeavesRelay bytes written written' (relay.Syntax l) = written' ≡ written
LeavesRelay bytes written written' (relay.Conflict page name) = written' ≡ written
LeavesRelay bytes written written' relay.WriteFault = IsRelayedInPart bytes written written'
LeavesRelay bytes written written' relay.Memory =
    (written' ≡ written) ⊎ IsRelayedInPart bytes written written'

-- ---- statuses

abbrev pub relay_status : RelayFault → ℕ
relay_status (relay.Syntax l) = 10
relay_status (relay.Conflict page name) = 11
relay_status relay.WriteFault = 7
relay_status relay.Memory = 8

-- Each cause brings its status, unless a device failed or memory was wanting.
pub record IsRelayComplete (bytes : List ℕ) (SourceFailed SinkFailed : Type 0)
    (status : ℕ) : Type 0 where
  pub too_long : IsTooLong bytes → ¬ SourceFailed → (status ≡ 5) ⊎ (status ≡ 8)
  pub no_stream : IsWithinLimit bytes → ((pages : List (List Family)) → ¬ IsStream bytes pages)
      → ¬ SourceFailed → (status ≡ 10) ⊎ (status ≡ 8)
  pub no_merge : (pages : List (List Family)) → IsWithinLimit bytes → IsStream bytes pages
      → ((families : List Family) → ¬ IsMerged pages families)
      → ¬ SourceFailed → (status ≡ 11) ⊎ (status ≡ 8)
  pub merges : (pages : List (List Family)) (families : List Family) → IsWithinLimit bytes
      → IsStream bytes pages → IsMerged pages families
      → ¬ SourceFailed → ¬ SinkFailed → (status ≡ 0) ⊎ (status ≡ 8)

-- ---- lines on `err`

abbrev pub merged_text : ℕ → List ℕ
merged_text pages = codes "merged " ++ decimal pages ++ codes " pages"

abbrev pub bad_line_text : ℕ → List ℕ
bad_line_text l = codes "page: line " ++ decimal l

abbrev pub conflict_text : ℕ → List ℕ → List ℕ
conflict_text page name = codes "conflict: page " ++ decimal page ++ codes " family " ++ name

abbrev pub relay_fault_text : RelayFault → List ℕ
relay_fault_text (relay.Syntax l) = bad_line_text l
relay_fault_text (relay.Conflict page name) = conflict_text page (string_bytes name)
relay_fault_text relay.WriteFault = codes "write failed"
relay_fault_text relay.Memory = codes "out of memory"

-- the line that each status has; what it says of the pages holds where the source tells its bytes
pub data IsRelayLineOf (left : Option (List ℕ)) : ℕ → List ℕ → Type 0 where
  done : (pages : ℕ) → IfSome left (λ bytes. HasPages bytes pages)
      → IsRelayLineOf left 0 (line (merged_text pages))
  too_long : IsRelayLineOf left 5 (line (fault_text faults.TooLong))
  read_failed : IsRelayLineOf left 6 (line (fault_text faults.ReadFault))
  write_failed : IsRelayLineOf left 7 (line (fault_text faults.WriteFault))
  no_memory : IsRelayLineOf left 8 (line (fault_text faults.Memory))
  bad_stream : (l : ℕ) → IfSome left (λ bytes. IsBadStream bytes l)
      → IsRelayLineOf left 10 (line (bad_line_text l))
  conflict : (page : ℕ) (name : List ℕ) → IfSome left (λ bytes. IsUnmergeable bytes page name)
      → IsRelayLineOf left 11 (line (conflict_text page name))
