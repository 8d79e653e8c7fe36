use Rattle.legal_history.specs.History.{calls}
use Rattle.shared_flushes.specs.declared.entries.StateEntry.TheVariants.{Register}
use Rattle.shared_flushes.proofs.Found.{registered_each, apart_each, found_there, called_later, called_own}
use Rattle.shared_flushes.proofs.laws.series_are_registrations.Goals as goal

pub returns-clause-registered : goal.returns-clause-registered
returns-clause-registered c = λ entries x kind stands. registered_each entries x stands kind

pub returns-clause-apart : goal.returns-clause-apart
returns-clause-apart c = λ entries x kind stands. apart_each entries x stands kind

pub returns-clause-there : goal.returns-clause-there
returns-clause-there c = λ entries x kind key n stands. found_there entries x stands kind key n

pub returns-clause-seen : goal.returns-clause-seen
returns-clause-seen c = λ v log x kind key n called sees stands. found_there (calls log) x stands kind key n (called_later (Register kind key n) v log called sees)

pub returns-clause-made : goal.returns-clause-made
returns-clause-made c = called_own
