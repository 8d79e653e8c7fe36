-- From the parts of an evaluation to what a run of it says as a whole.
use Rattle.std.proofs.Common.{◌≡◌, ℕ, ◌⊎◌, inl, inr, List, [], ◌∷◌, ◌++◌, refl, sym, ap, subst, ◌∙◌, append_assoc, arith}
use Rattle.std.specs.Prelude.{Option, IfSome, decimal}
use Rattle.metrics_core.specs.Characters.{line, newline}
use Rattle.drive_script.specs.Faults.{fault_text}
use Rattle.drive_script.specs.declared.faults.DriveFault.{DriveFault}
use Rattle.drive_script.specs.declared.faults.DriveFault.TheVariants as faults
use Rattle.rule_eval.specs.Rules.{IsFirstBadRule, RuleText}
use Rattle.rule_eval.specs.Streams.{AreEvaluated, HasEvaluationCause, IsBadPages, IsEvaluated, IsEvaluatedInPart, IsRuleStream, LeavesEvaluation}
use Rattle.rule_eval.specs.declared.stream.Evaluated.{Evaluated}
use Rattle.rule_eval.specs.declared.stream.EvaluationFault.{EvaluationFault}
use Rattle.rule_eval.specs.declared.stream.EvaluationFault.TheVariants as evaluation
use Rattle.rule_eval.proofs.OneReading.{bad_rule_refuses, rules_same}
use Rattle.prom_format.specs.Pages.{Family}
use Rattle.page_relay.specs.Streams.{IsStream}
use Rattle.program_words.specs.Answers.{IsSaidText, IsTooLong, LeavesSource, Says, fault_status}
use Rattle.program_words.specs.Devices.{SourceRun, SinkRun, SourceFailed, SinkFailed}
use Rattle.program_words.specs.Ends.{IsRulesEnd}
use Rattle.program_words.specs.Evaluate.{AreBadPages, AreBadRules, IsEvaluationComplete, IsEvaluationLineOf, bad_pages, bad_rules, done, evaluated_line, evaluation_fault_text, evaluation_status, no_memory, read_failed, too_long, write_failed}
use Rattle.program_words.specs.Reading.{IsReadFault}
use Rattle.program_words.specs.Relay.{IsWithinLimit}
use Rattle.program_words.proofs.ReadingSteps.{of_any, some_of}
use Rattle.program_words.proofs.ReceiveSteps.{of_told}

-- ---- which status each cause brings

memory_complete : (bytes : List ℕ) (S K : Type 0) → IsEvaluationComplete bytes S K 8
memory_complete bytes S K = record {
  too_long = λ is ok. inr refl;
  no_rules = λ within none ok. inr refl;
  no_pages = λ rules rest within are none ok. inr refl;
  whole = λ rules pages within all ok sink_ok. inr refl;
}

rules_complete : (bytes : List ℕ) (l : ℕ) (S K : Type 0) → IsWithinLimit bytes → IsFirstBadRule bytes l → IsEvaluationComplete bytes S K 13
rules_complete bytes l S K in_limit bad = record {
  too_long = λ long ok. absurd (omega (arith, long, in_limit));
  no_rules = λ within none ok. inl refl;
  no_pages = λ rules rest within are none ok. absurd (bad_rule_refuses bytes rest l rules bad are);
  whole = λ rules pages within all ok sink_ok. absurd (bad_rule_refuses bytes all.rest l rules bad all.are_rules);
}

pages_complete : (bytes : List ℕ) (l : ℕ) (S K : Type 0) → IsWithinLimit bytes → IsBadPages bytes l → IsEvaluationComplete bytes S K 10
pages_complete bytes l S K in_limit bad = record {
  too_long = λ long ok. absurd (omega (arith, long, in_limit));
  no_rules = λ within none ok. absurd (none bad.rules bad.rest bad.are_rules);
  no_pages = λ rules rest within are none ok. inl refl;
  whole = λ rules pages within all ok sink_ok.
      let same = rules_same bytes bad.rest all.rest bad.rules rules bad.are_rules all.are_rules in
      absurd (bad.first.no_stream pages (subst (λ rest. IsStream rest pages) (sym same.1) all.stream));
}

-- the lines were written, or a write failed
good_complete : (bytes : List ℕ) (rules : List RuleText) (pages : List (List Family)) (S K : Type 0) (status : ℕ) → IsWithinLimit bytes → IsRuleStream bytes rules pages → (¬ K → (status ≡ 0) ⊎ (status ≡ 8))
    → IsEvaluationComplete bytes S K status
good_complete bytes rules pages S K status in_limit stream end = record {
  too_long = λ long ok. absurd (omega (arith, long, in_limit));
  no_rules = λ within none ok. absurd (none rules stream.rest stream.are_rules);
  no_pages = λ others rest within are none ok.
      let same = rules_same bytes rest stream.rest others rules are stream.are_rules in
      absurd (none pages (subst (λ r. IsStream r pages) (sym same.1) stream.stream));
  whole = λ others other_pages within all ok sink_ok. end sink_ok;
}

long_complete : (bytes : List ℕ) (S K : Type 0) → IsTooLong bytes → IsEvaluationComplete bytes S K 5
long_complete bytes S K long = record {
  too_long = λ is ok. inl refl;
  no_rules = λ within none ok. absurd (omega (arith, long, within));
  no_pages = λ rules rest within are none ok. absurd (omega (arith, long, within));
  whole = λ rules pages within all ok sink_ok. absurd (omega (arith, long, within));
}

unread_complete : (bytes : List ℕ) (S K : Type 0) → S → IsEvaluationComplete bytes S K 6
unread_complete bytes S K failed = record {
  too_long = λ is ok. absurd (ok failed);
  no_rules = λ within none ok. absurd (ok failed);
  no_pages = λ rules rest within are none ok. absurd (ok failed);
  whole = λ rules pages within all ok sink_ok. absurd (ok failed);
}

-- ---- how a run ends

-- the lines were written
pub done_ends : (source : SourceRun) (out err : SinkRun) (items : List ℕ) → IfSome source.left (λ bytes. items ≡ bytes) → IsWithinLimit items → IsEvaluated items out.written out.written'
    → IfSome source.left (λ bytes. LeavesSource bytes source.left' 0) → Says err (IsEvaluationLineOf source.left 0) → IsRulesEnd source out err 0
done_ends source out err items whole within evaluated left said = record {
  evaluated = λ e. of_told source.left items (λ bytes. IsWithinLimit bytes × IsEvaluated bytes out.written out.written') whole (within, evaluated);
  too_long = λ e. absurd (omega (arith, e));
  read_failed = λ e. absurd (omega (arith, e));
  write_failed = λ e. absurd (omega (arith, e));
  prefix = λ e. absurd (omega (arith, e));
  bad_pages = λ e. absurd (omega (arith, e));
  bad_rules = λ e. absurd (omega (arith, e));
  others = (λ e. omega (arith, e), λ e. omega (arith, e), λ e. omega (arith, e), λ e. omega (arith, e), λ e. omega (arith, e), λ e. omega (arith, e));
  unwritten = λ e. absurd (omega (arith, e));
  left = left;
  complete = of_told source.left items (λ bytes. IsEvaluationComplete bytes (SourceFailed source) (SinkFailed out) 0) whole
      (good_complete items evaluated.evaluated.rules evaluated.evaluated.pages (SourceFailed source) (SinkFailed out) 0 within evaluated.evaluated.stream (λ ok. inl refl));
  said = said;
}

-- they were refused
pub refused_ends : (source : SourceRun) (out err : SinkRun) (items : List ℕ) (fault : EvaluationFault) → IfSome source.left (λ bytes. items ≡ bytes) → IsWithinLimit items
    → HasEvaluationCause items (SinkFailed out) fault → LeavesEvaluation items out.written out.written' fault → IfSome source.left (λ bytes. LeavesSource bytes source.left' (evaluation_status fault))
    → Says err (IsEvaluationLineOf source.left (evaluation_status fault)) → IsRulesEnd source out err (evaluation_status fault)
refused_ends source out err items (evaluation.Rules l) whole within cause leaves left said = record {
  evaluated = λ e. absurd (omega (arith, e));
  too_long = λ e. absurd (omega (arith, e));
  read_failed = λ e. absurd (omega (arith, e));
  write_failed = λ e. absurd (omega (arith, e));
  prefix = λ e. absurd (omega (arith, e));
  bad_pages = λ e. absurd (omega (arith, e));
  bad_rules = λ e. of_told source.left items (λ bytes. (k : ℕ) × AreBadRules bytes k) whole (l, (within, cause));
  others = (λ e. omega (arith, e), λ e. omega (arith, e), λ e. omega (arith, e), λ e. omega (arith, e), λ e. omega (arith, e), λ e. omega (arith, e));
  unwritten = λ e. leaves;
  left = left;
  complete = of_told source.left items (λ bytes. IsEvaluationComplete bytes (SourceFailed source) (SinkFailed out) 13) whole
      (rules_complete items l (SourceFailed source) (SinkFailed out) within cause);
  said = said;
}
refused_ends source out err items (evaluation.Pages l) whole within cause leaves left said = record {
  evaluated = λ e. absurd (omega (arith, e));
  too_long = λ e. absurd (omega (arith, e));
  read_failed = λ e. absurd (omega (arith, e));
  write_failed = λ e. absurd (omega (arith, e));
  prefix = λ e. absurd (omega (arith, e));
  bad_pages = λ e. of_told source.left items (λ bytes. (k : ℕ) × AreBadPages bytes k) whole (l, (within, cause));
  bad_rules = λ e. absurd (omega (arith, e));
  others = (λ e. omega (arith, e), λ e. omega (arith, e), λ e. omega (arith, e), λ e. omega (arith, e), λ e. omega (arith, e), λ e. omega (arith, e));
  unwritten = λ e. leaves;
  left = left;
  complete = of_told source.left items (λ bytes. IsEvaluationComplete bytes (SourceFailed source) (SinkFailed out) 10) whole
      (pages_complete items l (SourceFailed source) (SinkFailed out) within cause);
  said = said;
}
refused_ends source out err items evaluation.WriteFault whole within cause leaves left said = record {
  evaluated = λ e. absurd (omega (arith, e));
  too_long = λ e. absurd (omega (arith, e));
  read_failed = λ e. absurd (omega (arith, e));
  write_failed = λ e. cause;
  prefix = λ e. of_told source.left items (λ bytes. IsEvaluatedInPart bytes out.written out.written') whole leaves;
  bad_pages = λ e. absurd (omega (arith, e));
  bad_rules = λ e. absurd (omega (arith, e));
  others = (λ e. omega (arith, e), λ e. omega (arith, e), λ e. omega (arith, e), λ e. omega (arith, e), λ e. omega (arith, e), λ e. omega (arith, e));
  unwritten = λ e. absurd (omega (arith, e));
  left = left;
  complete = of_told source.left items (λ bytes. IsEvaluationComplete bytes (SourceFailed source) (SinkFailed out) 7) whole
      (good_complete items leaves.evaluated.rules leaves.evaluated.pages (SourceFailed source) (SinkFailed out) 7 within leaves.evaluated.stream (λ ok. absurd (ok cause)));
  said = said;
}
refused_ends source out err items evaluation.Memory whole within cause leaves left said = record {
  evaluated = λ e. absurd (omega (arith, e));
  too_long = λ e. absurd (omega (arith, e));
  read_failed = λ e. absurd (omega (arith, e));
  write_failed = λ e. absurd (omega (arith, e));
  prefix = λ e. absurd (omega (arith, e));
  bad_pages = λ e. absurd (omega (arith, e));
  bad_rules = λ e. absurd (omega (arith, e));
  others = (λ e. omega (arith, e), λ e. omega (arith, e), λ e. omega (arith, e), λ e. omega (arith, e), λ e. omega (arith, e), λ e. omega (arith, e));
  unwritten = λ e. leaves;
  left = left;
  complete = of_any source.left (λ bytes. IsEvaluationComplete bytes (SourceFailed source) (SinkFailed out) 8) (λ bytes. memory_complete bytes (SourceFailed source) (SinkFailed out));
  said = said;
}

-- the source was not read whole, or memory was wanting, and nothing was written
pub unread_ends : (source : SourceRun) (out err : SinkRun) (fault : DriveFault) → IsReadFault source.left (SourceFailed source) fault → out.written' ≡ out.written
    → IfSome source.left (λ bytes. LeavesSource bytes source.left' (fault_status fault)) → Says err (IsEvaluationLineOf source.left (fault_status fault)) → IsRulesEnd source out err (fault_status fault)
unread_ends source out err (faults.Script l) cause unwritten left said = absurd cause
unread_ends source out err (faults.Setting fault) cause unwritten left said = absurd cause
unread_ends source out err faults.TooLong cause unwritten left said = record {
  evaluated = λ e. absurd (omega (arith, e));
  too_long = λ e. cause;
  read_failed = λ e. absurd (omega (arith, e));
  write_failed = λ e. absurd (omega (arith, e));
  prefix = λ e. absurd (omega (arith, e));
  bad_pages = λ e. absurd (omega (arith, e));
  bad_rules = λ e. absurd (omega (arith, e));
  others = (λ e. omega (arith, e), λ e. omega (arith, e), λ e. omega (arith, e), λ e. omega (arith, e), λ e. omega (arith, e), λ e. omega (arith, e));
  unwritten = λ e. unwritten;
  left = left;
  complete = some_of source.left IsTooLong (λ bytes. IsEvaluationComplete bytes (SourceFailed source) (SinkFailed out) 5) (λ bytes long. long_complete bytes (SourceFailed source) (SinkFailed out) long) cause;
  said = said;
}
unread_ends source out err faults.ReadFault cause unwritten left said = record {
  evaluated = λ e. absurd (omega (arith, e));
  too_long = λ e. absurd (omega (arith, e));
  read_failed = λ e. cause;
  write_failed = λ e. absurd (omega (arith, e));
  prefix = λ e. absurd (omega (arith, e));
  bad_pages = λ e. absurd (omega (arith, e));
  bad_rules = λ e. absurd (omega (arith, e));
  others = (λ e. omega (arith, e), λ e. omega (arith, e), λ e. omega (arith, e), λ e. omega (arith, e), λ e. omega (arith, e), λ e. omega (arith, e));
  unwritten = λ e. unwritten;
  left = left;
  complete = of_any source.left (λ bytes. IsEvaluationComplete bytes (SourceFailed source) (SinkFailed out) 6) (λ bytes. unread_complete bytes (SourceFailed source) (SinkFailed out) cause);
  said = said;
}
unread_ends source out err faults.WriteFault cause unwritten left said = absurd cause
unread_ends source out err faults.Memory cause unwritten left said = record {
  evaluated = λ e. absurd (omega (arith, e));
  too_long = λ e. absurd (omega (arith, e));
  read_failed = λ e. absurd (omega (arith, e));
  write_failed = λ e. absurd (omega (arith, e));
  prefix = λ e. absurd (omega (arith, e));
  bad_pages = λ e. absurd (omega (arith, e));
  bad_rules = λ e. absurd (omega (arith, e));
  others = (λ e. omega (arith, e), λ e. omega (arith, e), λ e. omega (arith, e), λ e. omega (arith, e), λ e. omega (arith, e), λ e. omega (arith, e));
  unwritten = λ e. unwritten;
  left = left;
  complete = of_any source.left (λ bytes. IsEvaluationComplete bytes (SourceFailed source) (SinkFailed out) 8) (λ bytes. memory_complete bytes (SourceFailed source) (SinkFailed out));
  said = said;
}

-- the same at the number of the status
pub rules_end : (source : SourceRun) (out err : SinkRun) (status number : ℕ) → number ≡ status → IsRulesEnd source out err status → IsRulesEnd source out err number
rules_end source out err status number is ends = subst (λ n. IsRulesEnd source out err n) (sym is) ends

-- no evaluation is refused since it is too long
pub evaluated_in_time : (fault : EvaluationFault) → evaluation_status fault ≡ 5 → ⊥
evaluated_in_time (evaluation.Rules l) e = omega (arith, e)
evaluated_in_time (evaluation.Pages l) e = omega (arith, e)
evaluated_in_time evaluation.WriteFault e = omega (arith, e)
evaluated_in_time evaluation.Memory e = omega (arith, e)

-- ---- lines on `err`

pub unread_line : (left : Option (List ℕ)) (S : Type 0) (fault : DriveFault) → IsReadFault left S fault → IsEvaluationLineOf left (fault_status fault) (line (fault_text fault))
unread_line left S (faults.Script l) h = absurd h
unread_line left S (faults.Setting fault) h = absurd h
unread_line left S faults.TooLong h = too_long
unread_line left S faults.ReadFault h = read_failed
unread_line left S faults.WriteFault h = absurd h
unread_line left S faults.Memory h = no_memory

pub done_line : (left : Option (List ℕ)) (items : List ℕ) (evaluated : Evaluated) → IfSome left (λ bytes. items ≡ bytes) → AreEvaluated items evaluated
    → IsEvaluationLineOf left 0 (line (evaluated_line evaluated))
done_line left items evaluated whole counted = done evaluated (of_told left items (λ bytes. AreEvaluated bytes evaluated) whole counted)

pub refused_line : (left : Option (List ℕ)) (items : List ℕ) (K : Type 0) (fault : EvaluationFault) → IfSome left (λ bytes. items ≡ bytes) → IsWithinLimit items → HasEvaluationCause items K fault
    → IsEvaluationLineOf left (evaluation_status fault) (line (evaluation_fault_text fault))
refused_line left items K (evaluation.Rules l) whole within cause = bad_rules l (of_told left items (λ bytes. AreBadRules bytes l) whole (within, cause))
refused_line left items K (evaluation.Pages l) whole within cause = bad_pages l (of_told left items (λ bytes. AreBadPages bytes l) whole (within, cause))
refused_line left items K evaluation.WriteFault whole within cause = write_failed
refused_line left items K evaluation.Memory whole within cause = no_memory

-- a text that is the line of a fault, said of that fault
pub evaluation_said_of : (Failed : Type 0) (said said' : Option (List ℕ)) (fault is : EvaluationFault) (text : List ℕ) → fault ≡ is → text ≡ line (evaluation_fault_text is)
    → IsSaidText Failed said said' text → IsSaidText Failed said said' (line (evaluation_fault_text fault))
evaluation_said_of Failed said said' fault is text same spelled h =
    let P : List ℕ → Type 0 = λ t. IsSaidText Failed said said' t in
    subst P (spelled ∙ sym (ap (λ f. line (evaluation_fault_text f)) same)) h

-- the line of a bad line, from its pieces
pub place_line : (what digits : List ℕ) (l : ℕ) → digits ≡ decimal l → what ++ (digits ++ newline ∷ []) ≡ line (what ++ decimal l)
place_line what digits l e = ap (λ d. what ++ (d ++ newline ∷ [])) e ∙ sym (append_assoc what (decimal l) (newline ∷ []))
