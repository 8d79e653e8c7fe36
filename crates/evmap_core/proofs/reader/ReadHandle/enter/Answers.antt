use Rattle.std.proofs.Common.{refl}
use Rattle.evmap_core.proofs.reader.ReadHandle.enter.Goals as goal

pub returns-in-Some : goal.returns-in-Some
returns-in-Some g c = ((refl, λ w. refl, tt), record { rests = tt; same_reference = refl; front = c.in-Some.ensures })

pub returns-in-None : goal.returns-in-None
returns-in-None g c = ((refl, λ w. tt, c.in-None.ensures), record { rests = tt; same_reference = tt; front = tt })
