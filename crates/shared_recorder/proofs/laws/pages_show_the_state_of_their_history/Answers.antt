use Rattle.shared_recorder.proofs.Heads.{history_heads}
use Rattle.shared_recorder.proofs.laws.pages_show_the_state_of_their_history.Goals as goal

pub returns : goal.returns
returns c = history_heads
