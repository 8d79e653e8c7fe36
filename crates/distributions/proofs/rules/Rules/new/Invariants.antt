use Rattle.std.proofs.Common.{◌≡◌, ◌++◌, Bool, true, ℕ, List}
use Rattle.std.specs.List.{list_all}
use Rattle.prom_format.specs.Matchers.{rule_for}
use Rattle.distributions.specs.Rules.{rules_of}
use Rattle.distributions.proofs.rules.Rules.new.Given as goal

-- the rule for a name is that of the rules so far, what passes of each of these passes of each that is kept, and these and the rules to come are all
abbrev pub invariant-loop-matcher : goal.invariant-loop-matcher
invariant-loop-matcher g l =
    ((name : List ℕ) → rule_for l.rules name ≡ rule_for (rules_of l.yielded) name)
    × ((test : g.row.T.Denot → Bool) → list_all (λ rule. test rule.1) l.yielded ≡ true → list_all (λ rule. test rule.1) l.rules ≡ true)
    × (l.yielded ++ l.matcher-iterator.rest.items ≡ l.fn.given.items)
