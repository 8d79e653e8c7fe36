use Rattle.std.proofs.Common.{rules, ◌≡◌, ap, ◌∙◌}
use Rattle.std.specs.Prelude.{is_some, position}
use Rattle.metrics_core.specs.Keys.{key_eq}
use Rattle.metrics_registry.proofs.NumberedKeys.{is_some-position}
use Rattle.metrics_registry.proofs.key_runs.KeyRun.place_of.Goals as goal

pub returns-then-self-clause-found : goal.returns-then-self-clause-found
returns-then-self-clause-found c =
    let place : c.place_by_rank.result ≡ position (key_eq c.args.key.now) c.args.self.now.keys = search rules in
    ap is_some place ∙ is_some-position (key_eq c.args.key.now) c.args.self.now.keys

pub returns-else-self-clause-found : goal.returns-else-self-clause-found
returns-else-self-clause-found c =
    let place : c.place_among.result ≡ position (key_eq c.args.key.now) c.args.self.now.keys = search rules in
    ap is_some place ∙ is_some-position (key_eq c.args.key.now) c.args.self.now.keys
