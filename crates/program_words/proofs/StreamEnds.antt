-- What the words that read a stream end with, whichever of them they are.
use Rattle.std.proofs.Common.{◌≡◌, ℕ, inl, inr, List, refl}
use Rattle.std.specs.Prelude.{IfSome, codes}
use Rattle.metrics_core.specs.Characters.{line}
use Rattle.drive_script.specs.Faults.{fault_text}
use Rattle.drive_script.specs.declared.faults.DriveFault.TheVariants as faults
use Rattle.program_words.specs.Answers.{IsSaidText, LeavesSource}
use Rattle.program_words.specs.Commands.{AreOfWord, IsStreamWords}
use Rattle.program_words.specs.Devices.{SourceRun, SinkRun, SinkFailed}
use Rattle.program_words.specs.Ends.{IsMergeEnd, IsReceiveEnd, IsRulesEnd, IsStreamEnd}
use Rattle.program_words.specs.Evaluate as rules_said
use Rattle.program_words.specs.Receive as receive_said
use Rattle.program_words.specs.Relay as relay_said
use Rattle.program_words.proofs.CommandSteps.{one_word}
use Rattle.program_words.proofs.ReceiveSteps as receive
use Rattle.program_words.proofs.RelaySteps as merge
use Rattle.program_words.proofs.RulesSteps as rules

pub no_stream : (words : List (List ℕ)) (source : SourceRun) (out err : SinkRun) (number : ℕ) → ¬ IsStreamWords words → IsStreamEnd words source out err number
no_stream words source out err number none = record {
  merge = λ merges. absurd (none (inl merges));
  receive = λ receives. absurd (none (inr (inl receives)));
  rules = λ are. absurd (none (inr (inr are)));
}

pub merge_ends : (words : List (List ℕ)) (source : SourceRun) (out err : SinkRun) (status number : ℕ) → AreOfWord words (codes "merge") → number ≡ status → IsMergeEnd source out err status → IsStreamEnd words source out err number
merge_ends words source out err status number of is ends = record {
  merge = λ merges. merge.merge_end source out err status number is ends;
  receive = λ receives. absurd (one_word words (codes "merge") (codes "receive") refl of.are receives);
  rules = λ are. absurd (one_word words (codes "merge") (codes "rules") refl of.are are);
}

pub receive_ends : (words : List (List ℕ)) (source : SourceRun) (out err : SinkRun) (status number : ℕ) → AreOfWord words (codes "receive") → number ≡ status → IsReceiveEnd source out err status → IsStreamEnd words source out err number
receive_ends words source out err status number of is ends = record {
  merge = λ merges. absurd (one_word words (codes "receive") (codes "merge") refl of.are merges);
  receive = λ receives. receive.receive_end source out err status number is ends;
  rules = λ are. absurd (one_word words (codes "receive") (codes "rules") refl of.are are);
}

pub rules_ends : (words : List (List ℕ)) (source : SourceRun) (out err : SinkRun) (status number : ℕ) → AreOfWord words (codes "rules") → number ≡ status → IsRulesEnd source out err status → IsStreamEnd words source out err number
rules_ends words source out err status number of is ends = record {
  merge = λ merges. absurd (one_word words (codes "rules") (codes "merge") refl of.are merges);
  receive = λ receives. absurd (one_word words (codes "rules") (codes "receive") refl of.are receives);
  rules = λ are. rules.rules_end source out err status number is ends;
}

-- memory was wanting for the words
pub memory_ends : (words : List (List ℕ)) (source : SourceRun) (out err : SinkRun) (number : ℕ) → number ≡ 8 → out.written' ≡ out.written → IfSome source.left (λ bytes. LeavesSource bytes source.left' 8)
    → IsSaidText (SinkFailed err) err.written err.written' (line (fault_text faults.Memory)) → IsStreamEnd words source out err number
memory_ends words source out err number is unwritten left said = record {
  merge = λ merges. merge.merge_end source out err 8 number is (merge.unread_ends source out err faults.Memory tt unwritten left (record { text = line (fault_text faults.Memory); meant = relay_said.no_memory; written = said }));
  receive = λ receives. receive.receive_end source out err 8 number is (receive.unread_ends source out err faults.Memory tt unwritten left (record { text = line (fault_text faults.Memory); meant = receive_said.no_memory; written = said }));
  rules = λ are. rules.rules_end source out err 8 number is (rules.unread_ends source out err faults.Memory tt unwritten left (record { text = line (fault_text faults.Memory); meant = rules_said.no_memory; written = said }));
}
