use Rattle.script_player.proofs.Asked.{accepted_text}
use Rattle.script_player.proofs.settings.native_config.Goals as goal

pub returns-in-Ok : goal.returns-in-Ok
returns-in-Ok c = accepted_text _ _ _ _ c.in-Ok.ensures.accepted
