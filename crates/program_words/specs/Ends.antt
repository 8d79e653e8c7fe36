-- How a run ends: for each word what every status says, what it leaves, and the line on `err` (this project's rule).
use Rattle.std.specs.Prelude.{◌≡◌, ◌≢◌, ℕ, ◌⊎◌, List, IfSome}
use Rattle.metrics_core.specs.Characters.{line}
use Rattle.net_addresses.specs.Addresses.{NetworkText}
use Rattle.dsd_addresses.specs.Remotes.{RemoteText}
use Rattle.prom_serve.specs.Connections.{CountedOn}
use Rattle.dsd_receiver.specs.Streams.{IsReceived, IsReceivedInPart}
use Rattle.drive_script.specs.Faults.{fault_text}
use Rattle.drive_script.specs.declared.faults.DriveFault.TheVariants as faults
use Rattle.drive_script.specs.declared.faults.SettingFault.{SettingFault}
use Rattle.script_player.specs.Agent.{default_agent}
use Rattle.program_words.specs.Answers.{IsAimed, IsBadScript, IsComplete, IsDriveWords, IsLineOf, IsMergeWords, IsReceiveWords, IsRulesWords, IsNoDriveStatus, IsRefusedSetting, IsReported, IsReportedInPart, IsTooLong, IsUnbegun, IsUnplayed, LeavesSource, Says, usage_text}
use Rattle.script_player.specs.Benched.{IsBenched, IsBenchedInPart}
use Rattle.program_words.specs.BenchSaid.{IsBenchLineOf}
use Rattle.program_words.specs.Commands.{IsBenchWords, IsForm, IsScriptWords, IsServeWords, IsStreamWords}
use Rattle.program_words.specs.Devices.{SourceRun, SinkRun, LinkRun, ListenerRun, SourceFailed, SinkFailed, ListenerFailed}
use Rattle.script_player.specs.Headline.{IsPlayed, IsPlayedInPart}
use Rattle.rule_eval.specs.Streams.{IsEvaluated, IsEvaluatedInPart}
use Rattle.program_words.specs.Evaluate.{AreBadPages, AreBadRules, IsEvaluationComplete, IsEvaluationLineOf}
use Rattle.program_words.specs.Receive.{IsCutStream, IsReceiveComplete, IsReceiveLineOf}
use Rattle.program_words.specs.Relay.{IsBadStream, IsRelayComplete, IsRelayLineOf, IsRelayed, IsRelayedInPart, IsUnmergeable, IsWithinLimit}
use Rattle.program_words.specs.Serving.{IsScriptServed, IsScriptServedInPart, IsServeComplete, IsServeLineOf}
use Rattle.script_player.specs.declared.report.Report.{Report}

-- the word `drive`, with the address that payloads go to
pub record IsDriveEnd (to : RemoteText) (source : SourceRun) (out err : SinkRun) (link : LinkRun)
    (status : ℕ) : Type 0 where
  -- 0: the pages of the script were written
  pub played : status ≡ 0 → IfSome source.left (λ bytes. IsPlayed bytes out.written out.written')
  -- and its payloads were handed to the link, as a report counts them
  pub flushed : status ≡ 0
      → IfSome source.left (λ bytes. (report : Report) × IsReported bytes to link.told link.told' report)
  -- 3: a line of the script is bad
  pub bad_script : status ≡ 3 → IfSome source.left (λ bytes. (l : ℕ) × IsBadScript bytes l)
  -- 4: a setting of it is refused
  pub refused_setting : status ≡ 4
      → IfSome source.left (λ bytes. (fault : SettingFault) × IsRefusedSetting to bytes fault)
  -- 5: it is longer than the limit
  pub too_long : status ≡ 5 → IfSome source.left IsTooLong
  -- 6: the source failed
  pub read_failed : status ≡ 6 → SourceFailed source
  -- 7: the sink failed
  pub write_failed : status ≡ 7 → SinkFailed out
  -- then the pages of the first rounds were written, and a prefix of the next
  pub prefix : status ≡ 7 → IfSome source.left (λ bytes. IsPlayedInPart to bytes out.written out.written')
  -- and the payloads of those rounds were handed to the link
  pub flushed_in_part : status ≡ 7
      → IfSome source.left (λ bytes. IsReportedInPart bytes to out.written out.written' link.told link.told')
  -- 8: memory was wanting, and the same was written, or nothing
  pub no_memory : status ≡ 8
      → IfSome source.left (λ bytes. (out.written' ≡ out.written) ⊎ IsPlayedInPart to bytes out.written out.written')
  -- and the same was sent, or nothing
  pub no_memory_in_part : status ≡ 8
      → IfSome source.left (λ bytes. IsUnbegun out.written out.written' link.told link.told'
      ⊎ IsReportedInPart bytes to out.written out.written' link.told link.told')
  -- no other status comes
  pub others : ¬ IsNoDriveStatus status
  -- after 3 to 6 nothing was written
  pub unplayed : IsUnplayed status → out.written' ≡ out.written
  -- the link is aimed as it was, or at the address, as it is after 0 and 7
  pub aimed : IsAimed to link.aimed link.aimed' status
  -- how much of the source was read
  pub left : IfSome source.left (λ bytes. LeavesSource bytes source.left' status)
  -- each cause brings its status, or 8, where no device failed
  pub complete : IfSome source.left (λ bytes. IsComplete to bytes (SourceFailed source) (SinkFailed out) status)
  -- `err` has the line of the status
  pub said : Says err (IsLineOf to source.left link.told link.told' status)

-- the word `serve`, with the count of connections and the networks whose peers are shown the page
pub record IsServeEnd (count : ℕ) (networks : List NetworkText) (source : SourceRun) (err : SinkRun)
    (listener : ListenerRun) (status : ℕ) : Type 0 where
  -- 0: each peer was answered by the page of the script, or refused, or failed
  pub served : status ≡ 0
      → IfSome source.left (λ bytes. IsScriptServed bytes networks count listener.told listener.told')
  -- and so many connections were accepted
  pub given : status ≡ 0 → CountedOn listener.told.given listener.told'.given count
  -- 3: a line of the script is bad
  pub bad_script : status ≡ 3 → IfSome source.left (λ bytes. (l : ℕ) × IsBadScript bytes l)
  -- 4: a setting of it is refused, as it is where payloads go to the default agent
  pub refused_setting : status ≡ 4
      → IfSome source.left (λ bytes. (fault : SettingFault) × IsRefusedSetting default_agent bytes fault)
  -- 5: it is longer than the limit
  pub too_long : status ≡ 5 → IfSome source.left IsTooLong
  -- 6: the source failed
  pub read_failed : status ≡ 6 → SourceFailed source
  -- 8: memory was wanting, and no connection was accepted, or each peer but the last was answered so
  pub no_memory : status ≡ 8 → IfSome source.left
      (λ bytes. (listener.told' ≡ listener.told)
      ⊎ IsScriptServedInPart bytes networks count 1 listener.told listener.told')
  -- 9: the listener failed
  pub listener_failed : status ≡ 9 → ListenerFailed listener
  -- then each peer so far was answered so
  pub in_part : status ≡ 9
      → IfSome source.left (λ bytes. IsScriptServedInPart bytes networks count 0 listener.told listener.told')
  -- no other status comes
  pub others : (status ≢ 2) × (status ≢ 7) × (status ≢ 10) × (status ≢ 11) × (status ≢ 12) × (status ≢ 13)
  -- how much of the source was read
  pub left : IfSome source.left (λ bytes. LeavesSource bytes source.left' status)
  -- each cause brings its status, or 8, where no device failed
  pub complete : IfSome source.left
      (λ bytes. IsServeComplete bytes (SourceFailed source) (ListenerFailed listener) status)
  -- `err` has the line of the status
  pub said : Says err (IsServeLineOf count source.left listener.lost listener.lost' status)

-- the word `bench`, with the number of rounds of the generated script
pub record IsBenchEnd (count : ℕ) (out err : SinkRun) (status : ℕ) : Type 0 where
  -- 0: the last page was written
  pub benched : status ≡ 0 → IsBenched count out.written out.written'
  -- 7: the sink failed
  pub write_failed : status ≡ 7 → SinkFailed out
  -- then a prefix of the page was written
  pub prefix : status ≡ 7 → IsBenchedInPart count out.written out.written'
  -- 8: memory was wanting, and the same was written, or nothing
  pub no_memory : status ≡ 8 → (out.written' ≡ out.written) ⊎ IsBenchedInPart count out.written out.written'
  -- no other status comes
  pub only : (status ≡ 0) ⊎ ((status ≡ 7) ⊎ (status ≡ 8))
  -- 0 or 8 comes where the sink didn't fail
  pub complete : ¬ SinkFailed out → (status ≡ 0) ⊎ (status ≡ 8)
  -- `err` has the line of the status
  pub said : Says err (IsBenchLineOf count status)

-- the word `merge`
pub record IsMergeEnd (source : SourceRun) (out err : SinkRun) (status : ℕ) : Type 0 where
  -- 0: the bytes are a stream of pages, and the one page that they become was written
  pub merged : status ≡ 0
      → IfSome source.left (λ bytes. IsWithinLimit bytes × IsRelayed bytes out.written out.written')
  -- 5: the bytes are longer than the limit
  pub too_long : status ≡ 5 → IfSome source.left IsTooLong
  -- 6: the source failed
  pub read_failed : status ≡ 6 → SourceFailed source
  -- 7: the sink failed
  pub write_failed : status ≡ 7 → SinkFailed out
  -- then a prefix of the page was written
  pub prefix : status ≡ 7 → IfSome source.left (λ bytes. IsRelayedInPart bytes out.written out.written')
  -- 8: memory was wanting, and the same was written, or nothing
  pub no_memory : status ≡ 8
      → IfSome source.left (λ bytes. (out.written' ≡ out.written) ⊎ IsRelayedInPart bytes out.written out.written')
  -- 10: a line of the bytes is bad, which are no stream
  pub bad_stream : status ≡ 10 → IfSome source.left (λ bytes. (l : ℕ) × IsBadStream bytes l)
  -- 11: a family of a page doesn't merge with those before it
  pub conflict : status ≡ 11
      → IfSome source.left (λ bytes. (page : ℕ) × (name : List ℕ) × IsUnmergeable bytes page name)
  -- no other status comes
  pub others : (status ≢ 2) × (status ≢ 3) × (status ≢ 4) × (status ≢ 9) × (status ≢ 12) × (status ≢ 13)
  -- after 5, 6, 10 and 11 nothing was written
  pub unplayed : IsUnplayed status → out.written' ≡ out.written
  -- how much of the source was read
  pub left : IfSome source.left (λ bytes. LeavesSource bytes source.left' status)
  -- each cause brings its status, or 8, where no device failed
  pub complete : IfSome source.left (λ bytes. IsRelayComplete bytes (SourceFailed source) (SinkFailed out) status)
  -- `err` has the line of the status
  pub said : Says err (IsRelayLineOf source.left status)

-- the word `receive`
pub record IsReceiveEnd (source : SourceRun) (out err : SinkRun) (status : ℕ) : Type 0 where
  -- 0: the bytes are whole frames, and the page of an exporter that received their lines was written
  pub received : status ≡ 0
      → IfSome source.left (λ bytes. IsWithinLimit bytes × IsReceived bytes out.written out.written')
  -- 5: the bytes are longer than the limit
  pub too_long : status ≡ 5 → IfSome source.left IsTooLong
  -- 6: the source failed
  pub read_failed : status ≡ 6 → SourceFailed source
  -- 7: the sink failed
  pub write_failed : status ≡ 7 → SinkFailed out
  -- then a prefix of the page was written
  pub prefix : status ≡ 7 → IfSome source.left (λ bytes. IsReceivedInPart bytes out.written out.written')
  -- 8: memory was wanting, and the same was written, or nothing
  pub no_memory : status ≡ 8
      → IfSome source.left (λ bytes. (out.written' ≡ out.written) ⊎ IsReceivedInPart bytes out.written out.written')
  -- 12: the bytes end within a frame
  pub cut : status ≡ 12 → IfSome source.left (λ bytes. (count : ℕ) × IsCutStream bytes count)
  -- no other status comes
  pub others : (status ≢ 2) × (status ≢ 3) × (status ≢ 4) × (status ≢ 9) × (status ≢ 10) × (status ≢ 11) × (status ≢ 13)
  -- after 5, 6 and 12 nothing was written
  pub unplayed : IsUnplayed status → out.written' ≡ out.written
  -- how much of the source was read
  pub left : IfSome source.left (λ bytes. LeavesSource bytes source.left' status)
  -- each cause brings its status, or 8, where no device failed
  pub complete : IfSome source.left (λ bytes. IsReceiveComplete bytes (SourceFailed source) (SinkFailed out) status)
  -- `err` has the line of the status
  pub said : Says err (IsReceiveLineOf source.left status)

-- the word `rules`
pub record IsRulesEnd (source : SourceRun) (out err : SinkRun) (status : ℕ) : Type 0 where
  -- 0: the bytes are rules and a stream of pages, and a line for each group that fires on a page was written
  pub evaluated : status ≡ 0
      → IfSome source.left (λ bytes. IsWithinLimit bytes × IsEvaluated bytes out.written out.written')
  -- 5: the bytes are longer than the limit
  pub too_long : status ≡ 5 → IfSome source.left IsTooLong
  -- 6: the source failed
  pub read_failed : status ≡ 6 → SourceFailed source
  -- 7: the sink failed
  pub write_failed : status ≡ 7 → SinkFailed out
  -- then a prefix of the lines was written
  pub prefix : status ≡ 7 → IfSome source.left (λ bytes. IsEvaluatedInPart bytes out.written out.written')
  -- 10: behind the rules stands no stream, with its first bad line
  pub bad_pages : status ≡ 10 → IfSome source.left (λ bytes. (l : ℕ) × AreBadPages bytes l)
  -- 13: the bytes are no rules, with the first line that is none
  pub bad_rules : status ≡ 13 → IfSome source.left (λ bytes. (l : ℕ) × AreBadRules bytes l)
  -- no other status comes, but for 8
  pub others : (status ≢ 2) × (status ≢ 3) × (status ≢ 4) × (status ≢ 9) × (status ≢ 11) × (status ≢ 12)
  -- after 5, 6, 8, 10 and 13 nothing was written
  pub unwritten : (status ≡ 8) ⊎ IsUnplayed status → out.written' ≡ out.written
  -- how much of the source was read
  pub left : IfSome source.left (λ bytes. LeavesSource bytes source.left' status)
  -- each cause brings its status, or 8, where no device failed
  pub complete : IfSome source.left (λ bytes. IsEvaluationComplete bytes (SourceFailed source) (SinkFailed out) status)
  -- `err` has the line of the status
  pub said : Says err (IsEvaluationLineOf source.left status)

-- the words that read a stream
pub record IsStreamEnd (words : List (List ℕ)) (source : SourceRun) (out err : SinkRun) (status : ℕ) : Type 0 where
  pub merge : IsMergeWords words → IsMergeEnd source out err status
  pub receive : IsReceiveWords words → IsReceiveEnd source out err status
  pub rules : IsRulesWords words → IsRulesEnd source out err status

-- the line that a status has where the words are no form
pub data IsUsageLineOf : ℕ → List ℕ → Type 0 where
  usage : IsUsageLineOf 2 (line usage_text)
  no_memory : IsUsageLineOf 8 (line (fault_text faults.Memory))

-- words that are no form
pub record IsUsageEnd (err : SinkRun) (status : ℕ) : Type 0 where
  -- 2, or 8 where memory was wanting
  pub no_form : (status ≡ 2) ⊎ (status ≡ 8)
  -- `err` has the line of the status
  pub said : Says err (IsUsageLineOf status)

-- what comes of words that are no form, and which words a status comes of; after 0 and 8 they may be any
pub record ComesOf (words : List (List ℕ)) (err : SinkRun) (status : ℕ) : Type 0 where
  pub no_form : ¬ IsForm words → IsUsageEnd err status
  pub usage : status ≡ 2 → ¬ IsForm words
  pub bad_script : status ≡ 3 → IsScriptWords words
  pub refused_setting : status ≡ 4 → IsScriptWords words
  pub too_long : status ≡ 5 → IsScriptWords words ⊎ IsStreamWords words
  pub read_failed : status ≡ 6 → IsScriptWords words ⊎ IsStreamWords words
  pub write_failed : status ≡ 7 → IsDriveWords words ⊎ (IsBenchWords words ⊎ IsStreamWords words)
  pub listener_failed : status ≡ 9 → IsServeWords words
  pub bad_stream : status ≡ 10 → IsMergeWords words ⊎ IsRulesWords words
  pub conflict : status ≡ 11 → IsMergeWords words
  pub cut_stream : status ≡ 12 → IsReceiveWords words
  pub bad_rules : status ≡ 13 → IsRulesWords words

-- What stays as it was, which is told by a fact for each device: what a word has no use for, and, where no script is
-- played, the link and the listener.
pub record LeavesOthers (words : List (List ℕ)) (SameSource SameOut SameLink SameListener : Type 0)
    (status : ℕ) : Type 0 where
  -- only `drive` touches the link
  pub only_drive_sends : ¬ IsDriveWords words → SameLink
  -- and nothing is sent after 2 to 6 and 10 to 13
  pub unsent : IsUnplayed status → SameLink
  -- only `serve` touches the listener
  pub only_serve_listens : ¬ IsServeWords words → SameListener
  -- and no connection is accepted after those
  pub unserved : IsUnplayed status → SameListener
  -- `serve` writes no page
  pub serve_writes_none : IsServeWords words → SameOut
  -- `bench` reads nothing
  pub bench_reads_none : IsBenchWords words → SameSource
  -- words that are no form do neither
  pub no_form_leaves : ¬ IsForm words → SameOut × SameSource

-- how any words end that are handed to `run`
pub record IsAnyEnd (words : List (List ℕ)) (err : SinkRun) (SameSource SameOut SameLink SameListener : Type 0) (status : ℕ) : Type 0 where
  -- which of them the status comes of
  pub statuses : ComesOf words err status
  -- and what they leave alone
  pub others : LeavesOthers words SameSource SameOut SameLink SameListener status
