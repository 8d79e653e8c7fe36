use Rattle.std.proofs.Common.{◌≡◌, ◌++◌, map, take}
use Rattle.std.specs.Prelude.{flat_map}
use Rattle.rule_eval.specs.Firing.{firing_text}
use Rattle.rule_eval.specs.FiringText.{line_of}
use Rattle.rule_eval.specs.Rules.{rule_text}
use Rattle.rule_eval.proofs.writer.push_firings.Given as goal

abbrev pub invariant-loop-firing : goal.invariant-loop-firing
invariant-loop-firing l = l.text.items ≡ l.fn.text.items ++ flat_map (line_of (map rule_text l.rules) l.page) (map firing_text (take l.firing-index l.firings))
