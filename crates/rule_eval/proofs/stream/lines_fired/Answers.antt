use Rattle.std.proofs.Common.{◌≡◌, List, [], ◌∷◌, ◌++◌, ◌+◌, ◌≤◌, map, take, get_or, length, sym, ap, ◌∙◌, arith}
use Rattle.std.specs.Prelude.{flat_map}
use Rattle.std.proofs.lemmas.List.{take_more, map_push, length-append, length-map, length-take-le}
use Rattle.prom_format.specs.Pages.{Family}
use Rattle.page_relay.specs.Values.{families_of}
use Rattle.rule_eval.specs.Firing.{Evaluation, firing_text, firings}
use Rattle.rule_eval.specs.FiringText.{count_fired, evaluated_text, line_of}
use Rattle.rule_eval.specs.Rules.{RuleText, rule_text}
use Rattle.rule_eval.proofs.Growing.{count_push, lines_long, text_push}
use Rattle.rule_eval.proofs.stream.lines_fired.Goals as goal

pub loop-page-preserved : goal.loop-page-preserved
loop-page-preserved c =
    let rules = map rule_text c.args.rules.items in
    let pages = c.args.pages.now in
    let i = c.loop-page.page-index in
    let done = map families_of (take i pages) in
    let last = families_of c.page-item.result in
    let n = c.loop-page.number + 1 in
    let new = firings rules done last in
    let before = c.loop-page.invariant in
    let more : map families_of (take (i + 1) pages) ≡ done ++ last ∷ [] =
    ap (map families_of) (take_more pages i c.page-item.result c.loop-page-test.true) ∙ map_push families_of (take i pages) (get_or pages i c.page-item.result)
    ∙ ap (λ p. done ++ families_of p ∷ []) (sym c.page-item.is) in
    let rules_are : c.loop-page.evaluator.rules ≡ rules = ap (λ (e : Evaluation). e.rules) before.0 in
    let pages_are : c.loop-page.evaluator.pages ≡ done = ap (λ (e : Evaluation). e.pages) before.0 in
    let State : List RuleText → List (List Family) → Evaluation = λ rs ps. record { rules = rs; pages = ps } in
    let state : c.page.new.self ≡ State rules (done ++ last ∷ []) = c.in_ok-firings.ensures.next ∙ (λ j. State (rules_are j) (pages_are j ++ last ∷ [])) in
    let fired : map firing_text c.as_slice.result.now ≡ new =
    ap (map firing_text) c.as_slice.ensures.value ∙ c.in_ok-firings.ensures.fired ∙ (λ j. firings (rules_are j) (pages_are j) last) in
    let known : map rule_text c.rules.result.now ≡ rules = c.rules.ensures ∙ ap (λ (e : Evaluation). e.rules) state in
    let done_are : length done ≡ i = length-map (take i pages) families_of ∙ length-take-le i pages (omega (arith, c.loop-page-test.true)) in
    let numbered : n ≡ length done + 1 = omega (arith, done_are, before.4) in
    let added : c.push_firings.new.text.items ≡ evaluated_text rules done ++ flat_map (line_of rules n) new =
    c.in_ok-push_firings.ensures ∙ (λ j. before.1 j ++ flat_map (line_of (known j) n) (fired j)) in
    let text = added ∙ sym (text_push rules done last n numbered) in
    let length_is : c.len.result ≡ length c.in_ok-firings.firings.items = search in
    let count : c.len.result ≡ length new = length_is ∙ sym (ap length c.as_slice.ensures.value) ∙ sym (length-map c.as_slice.result.now firing_text) ∙ ap length fired in
    let counted : c.loop-page.fired + c.len.result ≡ count_fired rules (done ++ last ∷ []) = omega (arith, count, before.2, count_push rules done last) in
    let within : c.loop-page.fired + c.len.result ≤ length c.push_firings.new.text.items =
    omega (arith, count, before.3, lines_long rules n done last, ap length added, ap length before.1, length-append (evaluated_text rules done) (flat_map (line_of rules n) new)) in
    (state ∙ ap (State rules) (sym more), text ∙ ap (evaluated_text rules) (sym more), counted ∙ ap (count_fired rules) (sym more), within, omega (arith, before.4))
