use Rattle.std.proofs.Common.{Bool, true, false, List, [], ◌∷◌, ◌++◌}
use Rattle.std.specs.Prelude.{All, if◌then◌else◌}
use Rattle.std.proofs.lemmas.List.Elements.{All-push}
use Rattle.page_answers.specs.Devices.{ConnText, IsUnused}
use Rattle.page_answers.proofs.devices.MemoryListener.add.Goals as goal

unused_behind : (added : Bool) (conns : List ConnText) (conn : ConnText) → All IsUnused conns → IsUnused conn → All IsUnused (if added then conns ++ conn ∷ [] else conns)
unused_behind true conns conn all this = All-push IsUnused conns conn all this
unused_behind false conns conn all this = all

pub invariant_of-self : goal.invariant_of-self
invariant_of-self c = rw c.push_back.ensures.items (unused_behind _ c.self.inside.waiting.items c.args.conn c.self.invariant c.requires)
