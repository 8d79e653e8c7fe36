use Rattle.shared_flushes.specs.declared.entries.StateEntry.TheVariants.{Register}
use Rattle.shared_flushes.proofs.state.SharedState.register.Given as goal

abbrev pub ghosts-count_registration : goal.ghosts-count_registration
ghosts-count_registration g a = record { call = Register a._kind a._key.now a._number }
