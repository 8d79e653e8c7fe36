use Rattle.std.proofs.Common.{sym, ap, ◌∙◌, subst}
use Rattle.std.specs.List.{list_all}
use Rattle.prom_format.specs.Matchers.{rule_for, Full, Prefix, Suffix}
use Rattle.prom_format.specs.MatcherTexts.{matcher_text}
use Rattle.distributions.specs.Rules.{under, rule_behind}
use Rattle.distributions.proofs.Sides.{put_whole, put_beginning, put_end, tests_of_all, all_tests, inserted_tests, measured_more, measured_still, OneMore, one_more}
use Rattle.distributions.proofs.rules.Rules.put.Goals.{in-Full+in_ok-insert-in-Full, in-Prefix+in_ok-insert-in-Prefix+in_ok-insert-in-Prefix-2, in-Suffix+in_ok-insert-in-Suffix+in_ok-insert-in-Suffix-2}
use Rattle.distributions.proofs.rules.Rules.put.Goals as goal

pub invariant_of-self-in-Prefix : goal.invariant_of-self-in-Prefix
invariant_of-self-in-Prefix g c =
    let more = one_more c.self.inside.lengths c.insert-in-Prefix.new.self c.len.result c.in_ok-insert-in-Prefix.ensures.updates in (
      c.self.invariant.0,
      measured_more c.self.inside.lengths c.insert-in-Prefix.new.self c.self.inside.beginnings c.insert-in-Prefix-2.new.self c.into_bytes-text.result c.args.rule c.self.invariant.1 c.insert-in-Prefix-2.ensures.ordered
          (subst (λ n. OneMore c.self.inside.lengths c.insert-in-Prefix.new.self n) (c.len.ensures ∙ c.into_bytes-text.result.ok.0) more) c.in_ok-insert-in-Prefix-2.ensures.entries,
      measured_still c.self.inside.lengths c.insert-in-Prefix.new.self c.self.inside.ends c.len.result c.self.invariant.2 more,
    )

pub invariant_of-self-in-Suffix : goal.invariant_of-self-in-Suffix
invariant_of-self-in-Suffix g c =
    let more = one_more c.self.inside.lengths c.insert-in-Suffix.new.self c.len-in-Suffix.result c.in_ok-insert-in-Suffix.ensures.updates in (
      c.self.invariant.0,
      measured_still c.self.inside.lengths c.insert-in-Suffix.new.self c.self.inside.beginnings c.len-in-Suffix.result c.self.invariant.1 more,
      measured_more c.self.inside.lengths c.insert-in-Suffix.new.self c.self.inside.ends c.insert-in-Suffix-2.new.self c.into_bytes-text-in-Suffix.result c.args.rule c.self.invariant.2 c.insert-in-Suffix-2.ensures.ordered
          (subst (λ n. OneMore c.self.inside.lengths c.insert-in-Suffix.new.self n) (c.len-in-Suffix.ensures ∙ c.into_bytes-text-in-Suffix.result.ok.0) more) c.in_ok-insert-in-Suffix-2.ensures.entries,
    )

pub returns-clause-among : goal.returns-clause-among
returns-clause-among g c = λ test all passes.
    let ws = c.self.inside.wholes.entries in
    let bs = c.self.inside.beginnings.entries in
    let es = c.self.inside.ends.entries in
    let parts = tests_of_all test ws bs es (ap (λ rules. list_all (λ rule. test rule.1) rules) c.self.view_is ∙ all) in
    elim c.match-matcher.branch [
      | in-Full+in_ok-insert-in-Full w ↦
          ap (λ rules. list_all (λ rule. test rule.1) rules) w.self-is
          ∙ all_tests test w.insert.new.self.entries bs es
          (ap (λ l. list_all (λ rule. test rule.1) (under Full l)) w.in_ok-insert-in-Full.ensures.entries ∙ inserted_tests test Full ws w.into_bytes.result c.args.rule parts.0 passes) parts.1 parts.2
      | in-Prefix+in_ok-insert-in-Prefix+in_ok-insert-in-Prefix-2 w ↦
          ap (λ rules. list_all (λ rule. test rule.1) rules) w.self-is
          ∙ all_tests test ws w.insert-in-Prefix-2.new.self.entries es parts.0
          (ap (λ l. list_all (λ rule. test rule.1) (under Prefix l)) w.in_ok-insert-in-Prefix-2.ensures.entries ∙ inserted_tests test Prefix bs w.into_bytes-text.result c.args.rule parts.1 passes) parts.2
      | in-Suffix+in_ok-insert-in-Suffix+in_ok-insert-in-Suffix-2 w ↦
          ap (λ rules. list_all (λ rule. test rule.1) rules) w.self-is
          ∙ all_tests test ws bs w.insert-in-Suffix-2.new.self.entries parts.0 parts.1
          (ap (λ l. list_all (λ rule. test rule.1) (under Suffix l)) w.in_ok-insert-in-Suffix-2.ensures.entries ∙ inserted_tests test Suffix es w.into_bytes-text-in-Suffix.result c.args.rule parts.2 passes)
    ]

pub returns-clause-put : goal.returns-clause-put
returns-clause-put g c = λ name.
    let ws = c.self.inside.wholes.entries in
    let bs = c.self.inside.beginnings.entries in
    let es = c.self.inside.ends.entries in
    elim c.match-matcher.branch [
      | in-Full+in_ok-insert-in-Full w ↦
          ap (λ rules. rule_for rules name) w.self-is
          ∙ put_whole name ws w.insert.new.self.entries bs es w.into_bytes.result c.args.rule c.self.invariant.0 w.insert.ensures.ordered w.in_ok-insert-in-Full.ensures.entries
          ∙ (λ j. rule_behind name (rule_for (c.self.view_is j) name) (Full (w.into_bytes.ensures.value j).items, c.args.rule))
          ∙ ap (λ matcher. rule_behind name (rule_for c.args.self.now name) (matcher_text matcher, c.args.rule)) (sym w.in-Full.is)
      | in-Prefix+in_ok-insert-in-Prefix+in_ok-insert-in-Prefix-2 w ↦
          ap (λ rules. rule_for rules name) w.self-is
          ∙ put_beginning name ws bs w.insert-in-Prefix-2.new.self.entries es w.into_bytes-text.result c.args.rule c.self.invariant.1.ordered w.insert-in-Prefix-2.ensures.ordered w.in_ok-insert-in-Prefix-2.ensures.entries
          ∙ (λ j. rule_behind name (rule_for (c.self.view_is j) name) (Prefix (w.into_bytes-text.ensures.value j).items, c.args.rule))
          ∙ ap (λ matcher. rule_behind name (rule_for c.args.self.now name) (matcher_text matcher, c.args.rule)) (sym w.in-Prefix.is)
      | in-Suffix+in_ok-insert-in-Suffix+in_ok-insert-in-Suffix-2 w ↦
          ap (λ rules. rule_for rules name) w.self-is
          ∙ put_end name ws bs es w.insert-in-Suffix-2.new.self.entries w.into_bytes-text-in-Suffix.result c.args.rule c.self.invariant.2.ordered w.insert-in-Suffix-2.ensures.ordered w.in_ok-insert-in-Suffix-2.ensures.entries
          ∙ (λ j. rule_behind name (rule_for (c.self.view_is j) name) (Suffix (w.into_bytes-text-in-Suffix.ensures.value j).items, c.args.rule))
          ∙ ap (λ matcher. rule_behind name (rule_for c.args.self.now name) (matcher_text matcher, c.args.rule)) (sym w.in-Suffix.is)
    ]
