use Rattle.std.proofs.Common.{◌≡◌, true, sym, subst, ◌∙◌}
use Rattle.name_counts.specs.Counts.{has_room}
use Rattle.name_counts.proofs.Room.{room-found}
use Rattle.name_counts.proofs.name_counts.NameCounts.reserve.Goals as goal

pub returns-then-contains_key-clause-room :
    goal.returns-then-contains_key-clause-room
returns-then-contains_key-clause-room c =
    subst (λ counts. has_room counts c.args.kind c.args.name.now ≡ true) c.self.view_is
    (room-found c.args.kind c.args.name.now c.self.inside.counts c.self.inside.ready (sym c.contains_key.ensures ∙ c.if-contains_key.true))
