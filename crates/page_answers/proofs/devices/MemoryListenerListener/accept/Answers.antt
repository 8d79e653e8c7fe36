use Rattle.std.proofs.lemmas.List.Elements.{All-drop}
use Rattle.page_answers.specs.Devices.{IsUnused}
use Rattle.page_answers.proofs.devices.MemoryListenerListener.accept.Goals as goal

pub invariant_of-self : goal.invariant_of-self
invariant_of-self g c = rw c.pop_front.ensures.rest (All-drop IsUnused 1 _ c.self.invariant)
