use Rattle.std.proofs.Common.{◌≡◌, ◌≤◌, length, arith}
use Rattle.std.proofs.lemmas.List.{length-drop, length-map}
use Rattle.rule_eval.specs.Rules.{rule_text}
use Rattle.rule_eval.proofs.Room.{place_within, rules_ask, rules_within}
use Rattle.rule_eval.proofs.stream.evaluate.Goals as goal

pub pages_fault-requires : goal.pages_fault-requires
pages_fault-requires g c =
    let rules = c.in-Ok.read.0.items in
    let few : length rules ≤ length c.args.bytes.now = omega (arith, rules_within _ _ _ c.in-Ok.ensures.rules, length-map rules rule_text) in
    let count : c.len.result ≡ length rules = search in
    record { room = omega (arith, c.requires, few, count, place_within _ _ c.in-Err-read_pages.ensures.refused, length-drop c.in-Ok.read.1 c.args.bytes.now) }

pub lines_fired-requires-clause-pages : goal.lines_fired-requires-clause-pages
lines_fired-requires-clause-pages g c = rules_ask _ _ _ c.in-Ok.ensures.rules

pub lines_fired-requires-clause-few : goal.lines_fired-requires-clause-few
lines_fired-requires-clause-few g c = omega (arith, c.requires, rules_within _ _ _ c.in-Ok.ensures.rules, length-map c.in-Ok.read.0.items rule_text)
