use Rattle.std.proofs.Common.{◌≡◌, ◌+◌, [], ◌∷◌, ◌++◌, length, map, take, option_copied, slice_get, string_bytes, ap, subst, sym, ◌∙◌, length-append, arith}
use Rattle.page_relay.specs.Values.{families_of}
use Rattle.rule_eval.specs.Evaluating.{AllGoOn, entries_text, fired_from, sums_of}
use Rattle.rule_eval.specs.Firing.{firing_text}
use Rattle.rule_eval.specs.Rules.{rule_text}
use Rattle.rule_eval.proofs.Rows.{mapped_more}
use Rattle.rule_eval.proofs.Kept.{all_go_on_next, fired_next, got, length_so_far}
use Rattle.rule_eval.proofs.evaluator.hold_all.Goals as goal

pub loop-rule-preserved : goal.loop-rule-preserved
loop-rule-preserved c =
    let given = c.args.rules.now in
    let i = c.loop-rule.rule-index in
    let rule = c.rule-item.result in
    let before = c.args.before.now in
    let page = families_of c.args.page.now in
    let so_far = c.loop-rule.invariant in
    let texts = map rule_text (take i given) in
    let at : c.loop-rule.number ≡ length texts = so_far.0 ∙ length_so_far rule_text given i c.loop-rule-test.true in
    let kept : option_copied c.get.result ≡ slice_get before c.loop-rule.number = got before c.loop-rule.number c.get.result c.get.ensures.lookup in
    let sums = c.in_ok-sums.ensures ∙ ap (sums_of (rule_text rule)) (c.in_ok-rows.ensures (string_bytes rule.name)) in
    let more = sym (mapped_more rule_text given i rule c.loop-rule-test.true c.rule-item.is) in
    let pushed = c.in_ok-push.ensures.items in
    let grown : length c.push.new.self.items ≡ i + 1 = omega (arith, so_far.1, ap length pushed, length-append c.loop-rule.runs.items (c.in_ok-hold.field-0 ∷ [])) in
    let go_on = all_go_on_next before page texts (rule_text rule) c.loop-rule.number (option_copied c.get.result) (entries_text c.in_ok-sums.sums.entries) at kept sums
    c.loop-rule.runs.items c.in_ok-hold.field-0 (so_far.1 ∙ sym so_far.0) so_far.2 c.in_ok-hold.ensures.runs in
    let fired = fired_next before page texts (rule_text rule) c.loop-rule.number (option_copied c.get.result) (entries_text c.in_ok-sums.sums.entries) at kept sums
    (map firing_text c.loop-rule.firings.items) (map firing_text c.hold.new.firings.items) so_far.3 c.in_ok-hold.ensures.fired in (
      ap (λ n. n + 1) so_far.0,
      grown,
      subst (λ r. AllGoOn r before page c.push.new.self.items) more (subst (AllGoOn (texts ++ rule_text rule ∷ []) before page) (sym pushed) go_on),
      fired ∙ ap (λ r. fired_from 0 r before page) more,
    )
