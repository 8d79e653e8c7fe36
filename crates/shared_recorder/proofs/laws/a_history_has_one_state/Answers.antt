use Rattle.shared_recorder.proofs.Reaching.{reached_state, reached_settings, removed_none}
use Rattle.shared_recorder.proofs.laws.a_history_has_one_state.Goals as goal

pub returns-clause-state : goal.returns-clause-state
returns-clause-state c = reached_state

pub returns-clause-settings : goal.returns-clause-settings
returns-clause-settings c = reached_settings

pub returns-clause-pages : goal.returns-clause-pages
returns-clause-pages c = removed_none
