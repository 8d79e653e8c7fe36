use Rattle.evmap_contents.proofs.Plain.{holds_alike}
use Rattle.evmap_contents.proofs.laws.forms_change_no_value.Goals as goal

pub returns : goal.returns
returns g c = holds_alike g.K.KeyClone.same g.V.PartialEq.eq g.P.Keep.keeps g.met.V.Eq.laws g.met.P.Keep.alike
