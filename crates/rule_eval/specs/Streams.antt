-- What becomes of rules and the pages behind them, and why nothing comes of them (this project's rules).
use Rattle.std.specs.Prelude.{◌≡◌, ℕ, ◌+◌, List, length, Option}
use Rattle.metrics_core.specs.Outside.{GrewBy, GrewByPrefix}
use Rattle.prom_format.specs.Pages.{Family}
use Rattle.page_relay.specs.Streams.{IsFirstBadLine, IsStream}
use Rattle.rule_eval.specs.FiringText.{count_fired, evaluated_text}
use Rattle.rule_eval.specs.Rules.{RuleText, AreRules, IsFirstBadRule}
use Rattle.rule_eval.specs.declared.stream.Evaluated.{Evaluated}
use Rattle.rule_eval.specs.declared.stream.EvaluationFault.{EvaluationFault}
use Rattle.rule_eval.specs.declared.stream.EvaluationFault.TheVariants as faults
use Rattle.rule_eval.specs.declared.rules.RuleFault.{RuleFault}
use Rattle.rule_eval.specs.declared.rules.RuleFault.TheVariants as rule
use Rattle.page_relay.specs.declared.faults.RelayFault.{RelayFault}
use Rattle.page_relay.specs.declared.faults.RelayFault.TheVariants as relay

-- ---- what is written

-- the bytes are rules, the line `pages` and a stream of pages
pub record IsRuleStream (bytes : List ℕ) (rules : List RuleText) (pages : List (List Family)) : Type 0 where
  pub rest : List ℕ
  pub are_rules : AreRules bytes rules rest
  pub stream : IsStream rest pages

-- they are, and the text is what fires on the pages
pub record IsEvaluatedText (bytes text : List ℕ) : Type 0 where
  pub rules : List RuleText
  pub pages : List (List Family)
  pub stream : IsRuleStream bytes rules pages
  pub fired : text ≡ evaluated_text rules pages

-- what the sink tells grew by that text
pub record IsEvaluated (bytes : List ℕ) (written written' : Option (List ℕ)) : Type 0 where
  pub text : List ℕ
  pub evaluated : IsEvaluatedText bytes text
  pub grew : GrewBy written written' text

-- what the sink tells grew by a prefix of it
pub record IsEvaluatedInPart (bytes : List ℕ) (written written' : Option (List ℕ)) : Type 0 where
  pub text : List ℕ
  pub evaluated : IsEvaluatedText bytes text
  pub grew : GrewByPrefix written written' text

-- so many pages, and so many lines
pub record AreEvaluated (bytes : List ℕ) (evaluated : Evaluated) : Type 0 where
  pub rules : List RuleText
  pub pages : List (List Family)
  pub stream : IsRuleStream bytes rules pages
  pub pages_are : evaluated.pages ≡ length pages
  pub fired_are : evaluated.fired ≡ count_fired rules pages

-- ---- causes

-- the bytes are rules, but no stream stands behind them; line l of all bytes is the first bad one
pub record IsBadPages (bytes : List ℕ) (l : ℕ) : Type 0 where
  pub rules : List RuleText
  pub rest : List ℕ
  pub are_rules : AreRules bytes rules rest
  pub bad : ℕ
  pub first : IsFirstBadLine rest bad
  pub place : l ≡ length rules + 1 + bad

-- why these bytes were not evaluated; want of memory is free
abbrev pub HasEvaluationCause : List ℕ → Type 0 → EvaluationFault → Type 0
HasEvaluationCause bytes SinkFailed (faults.Rules l) = IsFirstBadRule bytes l
HasEvaluationCause bytes SinkFailed (faults.Pages l) = IsBadPages bytes l
HasEvaluationCause bytes SinkFailed faults.WriteFault = SinkFailed
HasEvaluationCause bytes SinkFailed faults.Memory = Unit {0}

-- what that leaves: a prefix of the text after a failed write, and else nothing written
abbrev pub LeavesEvaluation : List ℕ → Option (List ℕ) → Option (List ℕ) → EvaluationFault → Type 0
LeavesEvaluation bytes written written' (faults.Rules l) = written' ≡ written
LeavesEvaluation bytes written written' (faults.Pages l) = written' ≡ written
LeavesEvaluation bytes written written' faults.WriteFault = IsEvaluatedInPart bytes written written'
LeavesEvaluation bytes written written' faults.Memory = written' ≡ written

-- ---- what a fault of a part is of the whole

abbrev pub of_rules : RuleFault → EvaluationFault
of_rules (rule.Line l) = faults.Rules l
of_rules rule.Memory = faults.Memory

-- so many lines stand before the pages; reading pages has no other faults
abbrev pub of_pages : ℕ → RelayFault → EvaluationFault
of_pages before (relay.Syntax l) = faults.Pages (before + l)
of_pages before (relay.Conflict page name) = faults.Memory
of_pages before relay.WriteFault = faults.Memory
of_pages before relay.Memory = faults.Memory

-- the line of a fault, if it has one
abbrev pub place_of : RelayFault → ℕ
place_of (relay.Syntax l) = l
place_of (relay.Conflict page name) = 0
place_of relay.WriteFault = 0
place_of relay.Memory = 0
