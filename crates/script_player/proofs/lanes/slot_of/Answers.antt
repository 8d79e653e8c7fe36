use Rattle.std.proofs.Common.{sym, ap, ◌∙◌, Some, nat_eq}
use Rattle.std.proofs.lemmas.Bool.{eqb-true}
use Rattle.script_player.proofs.LaneSteps.{grown_keys}
use Rattle.script_player.proofs.lanes.slot_of.Goals as goal

pub returns-clause-grown : goal.returns-clause-grown
returns-clause-grown c = grown_keys nat_eq _ _ _ c.in_ok-slot.ensures.keys

pub returns-clause-stored : goal.returns-clause-stored
returns-clause-stored c =
    let stored = c.in_ok-slot.ensures.stored in
    stored.1 ∙ ap Some (sym (eqb-true c.args.index stored.0 stored.2))
