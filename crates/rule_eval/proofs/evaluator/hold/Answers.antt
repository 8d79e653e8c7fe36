use Rattle.std.proofs.Common.{rules, ◌≡◌, cond, nat_le, [], ◌∷◌, ◌++◌, map, option_copied, ap, subst, sym, ◌∙◌}
use Rattle.std.specs.Int.{w128}
use Rattle.std.specs.Int.RustNames.{FitsSigned}
use Rattle.std.proofs.lemmas.Int.{to_z-of_z}
use Rattle.rule_eval.specs.Evaluating.{group_text, runs_text}
use Rattle.rule_eval.specs.Firing.{firing_text, passes}
use Rattle.rule_eval.specs.Rules.{rule_text}
use Rattle.rule_eval.proofs.Held.{firing_with, so_far_with, so_far_without}
use Rattle.rule_eval.proofs.evaluator.hold.Goals as goal

pub loop-group-preserved-then-not-passes : goal.loop-group-preserved-then-not-passes
loop-group-preserved-then-not-passes c =
    let fits : FitsSigned w128 c.in-Some.sum = search rules in
    let same = to_z-of_z w128 c.in-Some.sum fits in
    so_far_without (rule_text c.args.rule.now) (runs_text (option_copied c.args.before)) c.args.number (map firing_text c.args.firings.now.items) c.args.sums.entries
    c.in-Some.group c.in-Some.sum c.loop-group.group-iterator c.next.new.self c.in-Some.ensures.steps
    (map firing_text c.loop-group.firings.items) c.loop-group.runs.entries
    (sym (c.passes.ensures ∙ ap (passes (rule_text c.args.rule.now)) same) ∙ c.if-not-passes.true) c.loop-group.invariant

pub loop-group-preserved : goal.loop-group-preserved
loop-group-preserved c =
    let fits : FitsSigned w128 c.in-Some.sum = search rules in
    let same = to_z-of_z w128 c.in-Some.sum fits in
    let added = subst (λ v. map firing_text c.push_fired.new.firings.items ≡ map firing_text c.loop-group.firings.items
    ++ (cond (nat_le c.args.rule.now.pages c.longer-run.result) (firing_with c.args.number (group_text c.in-Some.group) v ∷ []) [])) same c.in_ok-push_fired.ensures in
    so_far_with (rule_text c.args.rule.now) (runs_text (option_copied c.args.before)) c.args.number (map firing_text c.args.firings.now.items) c.args.sums.entries
    c.in-Some.group c.in-Some.sum c.loop-group.group-iterator c.next.new.self c.in-Some.ensures.steps
    (map firing_text c.loop-group.firings.items) (map firing_text c.push_fired.new.firings.items) c.loop-group.runs.entries c.insert.new.self.entries c.longer-run.result
    (sym (c.passes.ensures ∙ ap (passes (rule_text c.args.rule.now)) same) ∙ c.if-not-passes.false) c.longer-run.ensures c.in_ok-insert.ensures.entries added c.loop-group.invariant
