use Rattle.std.proofs.Common.{◌≡◌, ◌++◌, None, option_map}
use Rattle.std.specs.Prelude.{fold, map}
use Rattle.distributions.specs.Rules.{tried}
use Rattle.distributions.proofs.rules.least.Given as goal

-- the least text so far is that of the lengths so far, and these and the lengths to come are all
abbrev pub invariant-loop-count : goal.invariant-loop-count
invariant-loop-count g l =
    (option_map (λ b. (b.0.now, b.1.now)) l.best ≡ fold (tried l.side l.name l.texts.entries) None (map (λ n. n.now) l.yielded))
    × (map (λ n. n.now) l.yielded ++ l.count-iterator ≡ l.lengths.keys)
