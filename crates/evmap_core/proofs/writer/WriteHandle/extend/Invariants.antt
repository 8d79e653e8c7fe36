use Rattle.std.proofs.Common.{◌≡◌, ◌++◌}
use Rattle.evmap_core.specs.Handles.{shown, told, map_of_writer, pending, insertions}
use Rattle.evmap_core.proofs.writer.WriteHandle.extend.Given as goal

-- the items so far are pending, and these and the items to come are all
abbrev pub invariant-loop-key : goal.invariant-loop-key
invariant-loop-key g l =
    ((shown l.self ≡ shown l.fn.self) × (told l.self ≡ told l.fn.self) × (map_of_writer l.self ≡ map_of_writer l.fn.self))
    × (pending g.K.KeyClone.plain l.self ≡ pending g.K.KeyClone.plain l.fn.self ++ insertions g.K.KeyClone.plain l.yielded)
    × (l.yielded ++ l.key-iterator.rest.items ≡ l.fn.items.items)
