use Rattle.std.proofs.Common.{rules, ◌≡◌, false, sym}
use Rattle.std.specs.List.{list_any}
use Rattle.metrics_core.specs.Keys.{key_eq}
use Rattle.metrics_registry.proofs.NumberedKeys.{no_place}
use Rattle.metrics_registry.proofs.key_list.KeyList.enter.Goals as goal

pub returns-in_default-clause-index : goal.returns-in_default-clause-index
returns-in_default-clause-index c =
    let none : list_any (key_eq c.args.key) c.args.self.now.keys ≡ false = search rules in
    sym (no_place (key_eq c.args.key) c.args.self.now.keys none)
