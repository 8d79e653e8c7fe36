-- Which status a run of the word `rules` ends with by which cause, and its line on `err` (this project's rules).
use Rattle.std.specs.Prelude.{◌≡◌, ℕ, ◌⊎◌, List, ◌++◌, Option, IfSome, codes, decimal}
use Rattle.metrics_core.specs.Characters.{line}
use Rattle.drive_script.specs.Faults.{fault_text}
use Rattle.drive_script.specs.declared.faults.DriveFault.TheVariants as faults
use Rattle.prom_format.specs.Pages.{Family}
use Rattle.page_relay.specs.Streams.{IsStream}
use Rattle.rule_eval.specs.Rules.{AreRules, IsFirstBadRule, RuleText}
use Rattle.rule_eval.specs.Streams.{AreEvaluated, IsBadPages, IsRuleStream}
use Rattle.rule_eval.specs.declared.stream.Evaluated.{Evaluated}
use Rattle.rule_eval.specs.declared.stream.EvaluationFault.{EvaluationFault}
use Rattle.rule_eval.specs.declared.stream.EvaluationFault.TheVariants as evaluation
use Rattle.program_words.specs.Answers.{IsTooLong}
use Rattle.program_words.specs.Relay.{IsWithinLimit, bad_line_text}

-- the bytes are within the limit and no rules, and line l is the first that is none; or they are, and line l is the first
-- bad one of the pages
abbrev pub AreBadRules : List ℕ → ℕ → Type 0
AreBadRules bytes l = IsWithinLimit bytes × IsFirstBadRule bytes l

abbrev pub AreBadPages : List ℕ → ℕ → Type 0
AreBadPages bytes l = IsWithinLimit bytes × IsBadPages bytes l

-- ---- statuses

abbrev pub evaluation_status : EvaluationFault → ℕ
evaluation_status (evaluation.Rules l) = 13
evaluation_status (evaluation.Pages l) = 10
evaluation_status evaluation.WriteFault = 7
evaluation_status evaluation.Memory = 8

-- Each cause brings its status, unless a device failed or memory was wanting.
pub record IsEvaluationComplete (bytes : List ℕ) (SourceFailed SinkFailed : Type 0) (status : ℕ) : Type 0 where
  pub too_long : IsTooLong bytes → ¬ SourceFailed → (status ≡ 5) ⊎ (status ≡ 8)
  pub no_rules : IsWithinLimit bytes → ((rules : List RuleText) (rest : List ℕ) → ¬ AreRules bytes rules rest)
      → ¬ SourceFailed → (status ≡ 13) ⊎ (status ≡ 8)
  pub no_pages : (rules : List RuleText) (rest : List ℕ) → IsWithinLimit bytes → AreRules bytes rules rest
      → ((pages : List (List Family)) → ¬ IsStream rest pages)
      → ¬ SourceFailed → (status ≡ 10) ⊎ (status ≡ 8)
  pub whole : (rules : List RuleText) (pages : List (List Family)) → IsWithinLimit bytes → IsRuleStream bytes rules pages
      → ¬ SourceFailed → ¬ SinkFailed → (status ≡ 0) ⊎ (status ≡ 8)

-- ---- lines on `err`

abbrev pub evaluated_line : Evaluated → List ℕ
evaluated_line evaluated =
    codes "evaluated " ++ decimal evaluated.pages ++ codes " pages " ++ decimal evaluated.fired ++ codes " fired"

abbrev pub bad_rule_text : ℕ → List ℕ
bad_rule_text l = codes "rules: line " ++ decimal l

abbrev pub evaluation_fault_text : EvaluationFault → List ℕ
evaluation_fault_text (evaluation.Rules l) = bad_rule_text l
evaluation_fault_text (evaluation.Pages l) = bad_line_text l
evaluation_fault_text evaluation.WriteFault = codes "write failed"
evaluation_fault_text evaluation.Memory = codes "out of memory"

-- the line that each status has; what it says of rules and pages holds where the source tells its bytes
pub data IsEvaluationLineOf (left : Option (List ℕ)) : ℕ → List ℕ → Type 0 where
  done : (evaluated : Evaluated) → IfSome left (λ bytes. AreEvaluated bytes evaluated)
      → IsEvaluationLineOf left 0 (line (evaluated_line evaluated))
  too_long : IsEvaluationLineOf left 5 (line (fault_text faults.TooLong))
  read_failed : IsEvaluationLineOf left 6 (line (fault_text faults.ReadFault))
  write_failed : IsEvaluationLineOf left 7 (line (fault_text faults.WriteFault))
  no_memory : IsEvaluationLineOf left 8 (line (fault_text faults.Memory))
  bad_pages : (l : ℕ) → IfSome left (λ bytes. AreBadPages bytes l)
      → IsEvaluationLineOf left 10 (line (bad_line_text l))
  bad_rules : (l : ℕ) → IfSome left (λ bytes. AreBadRules bytes l)
      → IsEvaluationLineOf left 13 (line (bad_rule_text l))
