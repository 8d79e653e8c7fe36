use Rattle.std.proofs.Common.{[], ◌∷◌, ◌++◌, map, ap, subst, sym, ◌∙◌}
use Rattle.page_relay.specs.Values.{families_of}
use Rattle.rule_eval.specs.Evaluating.{AllGoOn, IsKept, fired_from, pages_seen}
use Rattle.rule_eval.specs.Firing.{Evaluation, firings}
use Rattle.rule_eval.specs.Rules.{rule_text}
use Rattle.rule_eval.proofs.Kept.{evaluation, fired_is, kept_next, pages_seen-push}
use Rattle.rule_eval.proofs.evaluator.Evaluator.page.Goals as goal

pub invariant_of-self-2 : goal.invariant_of-self-2
invariant_of-self-2 c =
    let inside = c.self.inside in
    let page = families_of c.args.page.now in
    let texts = map rule_text inside.rules.items in
    let go_on = subst (λ r. AllGoOn (map rule_text r) inside.runs.items page c.in_ok-runs.runs.items) c.as_slice.ensures.value
    (subst (λ b. AllGoOn (map rule_text c.as_slice.result.now) b page c.in_ok-runs.runs.items) c.as_slice-2.ensures.value c.in_ok-runs.ensures.runs) in
    let seen = pages_seen-push inside.seen.items c.push.new.self.items c.of.result c.args.page.now c.in_ok-push.ensures.items c.of.ensures in
    subst (λ p. IsKept texts p c.in_ok-runs.runs.items) (sym seen) (kept_next (pages_seen inside.seen.items) page inside.runs.items texts c.in_ok-runs.runs.items c.self.invariant go_on)

pub returns-clause-fired : goal.returns-clause-fired
returns-clause-fired c =
    let inside = c.self.inside in
    let page = families_of c.args.page.now in
    c.in_ok-runs.ensures.fired
    ∙ (λ j. fired_from 0 (map rule_text (c.as_slice.ensures.value j)) (c.as_slice-2.ensures.value j) page)
    ∙ fired_is (pages_seen inside.seen.items) page inside.runs.items (map rule_text inside.rules.items) c.self.invariant
    ∙ ap (λ (e : Evaluation). firings e.rules e.pages page) c.self.view_is

pub returns-clause-next : goal.returns-clause-next
returns-clause-next c =
    let inside = c.self.inside in
    let page = families_of c.args.page.now in
    let seen = pages_seen-push inside.seen.items c.push.new.self.items c.of.result c.args.page.now c.in_ok-push.ensures.items c.of.ensures in
    ap (evaluation (map rule_text inside.rules.items)) seen ∙ ap (λ (e : Evaluation). evaluation e.rules (e.pages ++ page ∷ [])) c.self.view_is
