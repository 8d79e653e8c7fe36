-- From what driving a script tells to what a run of it says as a whole.
use Rattle.std.proofs.Common.{◌≡◌, ℕ, ◌⊎◌, inl, sym, ap, subst, arith}
use Rattle.std.specs.Prelude.{Option, IfSome}
use Rattle.dsd_addresses.specs.Remotes.{RemoteText}
use Rattle.drive_script.specs.declared.faults.DriveFault.{DriveFault}
use Rattle.drive_script.specs.declared.faults.DriveFault.TheVariants as faults
use Rattle.drive_script.specs.declared.faults.SettingFault.{SettingFault}
use Rattle.program_words.specs.Answers.{ComesBy, IfUnplayed, IsAimed, IsBadScript, IsComplete, IsLineOf, IsRefusedSetting, IsReported, IsReportedInPart, IsUnbegun, LeavesInPart, LeavesPrefix, LeavesSource, Says, fault_status}
use Rattle.program_words.specs.Devices.{SourceRun, SinkRun, LinkRun, SourceFailed, SinkFailed}
use Rattle.program_words.specs.Ends.{IsDriveEnd}
use Rattle.script_player.specs.Headline.{IsPlayed, IsPlayedInPart}
use Rattle.script_player.specs.Sent.{LinkTold}
use Rattle.script_player.specs.declared.report.Report.{Report}
use Rattle.program_words.proofs.DriveSteps.{memory_complete}
use Rattle.program_words.proofs.ReadingSteps.{of_any, some_of, unread}

-- the script was played
pub played_ends : (to : RemoteText) (source : SourceRun) (out err : SinkRun) (link : LinkRun) (report : Report)
    → IfSome source.left (λ bytes. IsPlayed bytes out.written out.written') → IfSome source.left (λ bytes. IsReported bytes to link.told link.told' report)
    → IsAimed to link.aimed link.aimed' 0 → IfSome source.left (λ bytes. LeavesSource bytes source.left' 0)
    → IfSome source.left (λ bytes. IsComplete to bytes (SourceFailed source) (SinkFailed out) 0) → Says err (IsLineOf to source.left link.told link.told' 0)
    → IsDriveEnd to source out err link 0
played_ends to source out err link report played sent aimed left complete said = record {
  played = λ e. played;
  flushed = λ e. some_of source.left (λ bytes. IsReported bytes to link.told link.told' report) (λ bytes. (r : Report) × IsReported bytes to link.told link.told' r) (λ bytes is. (report, is)) sent;
  bad_script = λ e. absurd (omega (arith, e));
  refused_setting = λ e. absurd (omega (arith, e));
  too_long = λ e. absurd (omega (arith, e));
  read_failed = λ e. absurd (omega (arith, e));
  write_failed = λ e. absurd (omega (arith, e));
  prefix = λ e. absurd (omega (arith, e));
  flushed_in_part = λ e. absurd (omega (arith, e));
  no_memory = λ e. absurd (omega (arith, e));
  no_memory_in_part = λ e. absurd (omega (arith, e));
  others = λ e. omega (arith, e);
  unplayed = λ e. absurd (omega (arith, e));
  aimed = aimed;
  left = left;
  complete = complete;
  said = said;
}

-- it was not valid, or not read, or a device failed, or memory was wanting
pub failed_ends : (to : RemoteText) (source : SourceRun) (out err : SinkRun) (link : LinkRun) (fault : DriveFault)
    → ComesBy to source.left (SourceFailed source) (SinkFailed out) fault → IfUnplayed (out.written' ≡ out.written) fault → IfSome source.left (λ bytes. LeavesPrefix to bytes out.written out.written' fault)
    → IfSome source.left (λ bytes. LeavesInPart to bytes out.written out.written' link.told link.told' fault)
    → IsAimed to link.aimed link.aimed' (fault_status fault) → IfSome source.left (λ bytes. LeavesSource bytes source.left' (fault_status fault))
    → IfSome source.left (λ bytes. IsComplete to bytes (SourceFailed source) (SinkFailed out) (fault_status fault))
    → Says err (IsLineOf to source.left link.told link.told' (fault_status fault)) → IsDriveEnd to source out err link (fault_status fault)
failed_ends to source out err link (faults.Script l) comes unplayed prefix in_part aimed left complete said = record {
  played = λ e. absurd (omega (arith, e));
  flushed = λ e. absurd (omega (arith, e));
  bad_script = λ e. some_of source.left (λ bytes. IsBadScript bytes l) (λ bytes. (m : ℕ) × IsBadScript bytes m) (λ bytes is. (l, is)) comes.told;
  refused_setting = λ e. absurd (omega (arith, e));
  too_long = λ e. absurd (omega (arith, e));
  read_failed = λ e. absurd (omega (arith, e));
  write_failed = λ e. absurd (omega (arith, e));
  prefix = λ e. absurd (omega (arith, e));
  flushed_in_part = λ e. absurd (omega (arith, e));
  no_memory = λ e. absurd (omega (arith, e));
  no_memory_in_part = λ e. absurd (omega (arith, e));
  others = λ e. omega (arith, e);
  unplayed = λ e. unplayed;
  aimed = aimed;
  left = left;
  complete = complete;
  said = said;
}
failed_ends to source out err link (faults.Setting fault) comes unplayed prefix in_part aimed left complete said = record {
  played = λ e. absurd (omega (arith, e));
  flushed = λ e. absurd (omega (arith, e));
  bad_script = λ e. absurd (omega (arith, e));
  refused_setting = λ e. some_of source.left (λ bytes. IsRefusedSetting to bytes fault) (λ bytes. (refused : SettingFault) × IsRefusedSetting to bytes refused) (λ bytes is. (fault, is)) comes.told;
  too_long = λ e. absurd (omega (arith, e));
  read_failed = λ e. absurd (omega (arith, e));
  write_failed = λ e. absurd (omega (arith, e));
  prefix = λ e. absurd (omega (arith, e));
  flushed_in_part = λ e. absurd (omega (arith, e));
  no_memory = λ e. absurd (omega (arith, e));
  no_memory_in_part = λ e. absurd (omega (arith, e));
  others = λ e. omega (arith, e);
  unplayed = λ e. unplayed;
  aimed = aimed;
  left = left;
  complete = complete;
  said = said;
}
failed_ends to source out err link faults.TooLong comes unplayed prefix in_part aimed left complete said = record {
  played = λ e. absurd (omega (arith, e));
  flushed = λ e. absurd (omega (arith, e));
  bad_script = λ e. absurd (omega (arith, e));
  refused_setting = λ e. absurd (omega (arith, e));
  too_long = λ e. comes.told;
  read_failed = λ e. absurd (omega (arith, e));
  write_failed = λ e. absurd (omega (arith, e));
  prefix = λ e. absurd (omega (arith, e));
  flushed_in_part = λ e. absurd (omega (arith, e));
  no_memory = λ e. absurd (omega (arith, e));
  no_memory_in_part = λ e. absurd (omega (arith, e));
  others = λ e. omega (arith, e);
  unplayed = λ e. unplayed;
  aimed = aimed;
  left = left;
  complete = complete;
  said = said;
}
failed_ends to source out err link faults.ReadFault comes unplayed prefix in_part aimed left complete said = record {
  played = λ e. absurd (omega (arith, e));
  flushed = λ e. absurd (omega (arith, e));
  bad_script = λ e. absurd (omega (arith, e));
  refused_setting = λ e. absurd (omega (arith, e));
  too_long = λ e. absurd (omega (arith, e));
  read_failed = λ e. comes.untold;
  write_failed = λ e. absurd (omega (arith, e));
  prefix = λ e. absurd (omega (arith, e));
  flushed_in_part = λ e. absurd (omega (arith, e));
  no_memory = λ e. absurd (omega (arith, e));
  no_memory_in_part = λ e. absurd (omega (arith, e));
  others = λ e. omega (arith, e);
  unplayed = λ e. unplayed;
  aimed = aimed;
  left = left;
  complete = complete;
  said = said;
}
failed_ends to source out err link faults.WriteFault comes unplayed prefix in_part aimed left complete said = record {
  played = λ e. absurd (omega (arith, e));
  flushed = λ e. absurd (omega (arith, e));
  bad_script = λ e. absurd (omega (arith, e));
  refused_setting = λ e. absurd (omega (arith, e));
  too_long = λ e. absurd (omega (arith, e));
  read_failed = λ e. absurd (omega (arith, e));
  write_failed = λ e. comes.untold;
  prefix = λ e. prefix;
  flushed_in_part = λ e. in_part;
  no_memory = λ e. absurd (omega (arith, e));
  no_memory_in_part = λ e. absurd (omega (arith, e));
  others = λ e. omega (arith, e);
  unplayed = λ e. absurd (omega (arith, e));
  aimed = aimed;
  left = left;
  complete = complete;
  said = said;
}
failed_ends to source out err link faults.Memory comes unplayed prefix in_part aimed left complete said = record {
  played = λ e. absurd (omega (arith, e));
  flushed = λ e. absurd (omega (arith, e));
  bad_script = λ e. absurd (omega (arith, e));
  refused_setting = λ e. absurd (omega (arith, e));
  too_long = λ e. absurd (omega (arith, e));
  read_failed = λ e. absurd (omega (arith, e));
  write_failed = λ e. absurd (omega (arith, e));
  prefix = λ e. absurd (omega (arith, e));
  flushed_in_part = λ e. absurd (omega (arith, e));
  no_memory = λ e. prefix;
  no_memory_in_part = λ e. in_part;
  others = λ e. omega (arith, e);
  unplayed = λ e. absurd (omega (arith, e));
  aimed = aimed;
  left = left;
  complete = complete;
  said = said;
}

still_aimed : (to : RemoteText) (before after : Option RemoteText) → after ≡ before → IsAimed to before after 8
still_aimed to before after same = record { only = inl same; played = λ e. absurd (omega (arith, e)) }

-- memory was wanting before the words were read
pub unread_ends : (to : RemoteText) (source : SourceRun) (out err : SinkRun) (link : LinkRun) → source.left' ≡ source.left → out.written' ≡ out.written → link.told' ≡ link.told
    → link.aimed' ≡ link.aimed → Says err (IsLineOf to source.left link.told link.told' 8) → IsDriveEnd to source out err link 8
unread_ends to source out err link same unwritten unsent unaimed said = record {
  played = λ e. absurd (omega (arith, e));
  flushed = λ e. absurd (omega (arith, e));
  bad_script = λ e. absurd (omega (arith, e));
  refused_setting = λ e. absurd (omega (arith, e));
  too_long = λ e. absurd (omega (arith, e));
  read_failed = λ e. absurd (omega (arith, e));
  write_failed = λ e. absurd (omega (arith, e));
  prefix = λ e. absurd (omega (arith, e));
  flushed_in_part = λ e. absurd (omega (arith, e));
  no_memory = λ e. of_any source.left (λ bytes. (out.written' ≡ out.written) ⊎ IsPlayedInPart to bytes out.written out.written') (λ bytes. inl unwritten);
  no_memory_in_part = λ e. of_any source.left (λ bytes. IsUnbegun out.written out.written' link.told link.told' ⊎ IsReportedInPart bytes to out.written out.written' link.told link.told') (λ bytes. inl (unwritten, ap (λ (t : LinkTold). t.sent) unsent));
  others = λ e. omega (arith, e);
  unplayed = λ e. absurd (omega (arith, e));
  aimed = still_aimed to link.aimed link.aimed' unaimed;
  left = subst (λ left. IfSome source.left (λ bytes. LeavesSource bytes left 8)) (sym same) (unread source.left);
  complete = of_any source.left (λ bytes. IsComplete to bytes (SourceFailed source) (SinkFailed out) 8) (λ bytes. memory_complete to bytes (SourceFailed source) (SinkFailed out));
  said = said;
}

-- the same at the number of the status, and at each address that the words have
pub drive_end : (to other : RemoteText) (source : SourceRun) (out err : SinkRun) (link : LinkRun) (status number : ℕ) → other ≡ to → number ≡ status → IsDriveEnd to source out err link status
    → IsDriveEnd other source out err link number
drive_end to other source out err link status number same is ends =
    subst (λ t. IsDriveEnd t source out err link number) (sym same) (subst (λ n. IsDriveEnd to source out err link n) (sym is) ends)
