use Rattle.shared_flushes.proofs.Found.{number_there, same_number}
use Rattle.shared_flushes.proofs.laws.numbers_are_keys.Goals as goal

pub returns-clause-number : goal.returns-clause-number
returns-clause-number c = λ entries x kind key n stands. number_there entries x stands kind key n

pub returns-clause-equal : goal.returns-clause-equal
returns-clause-equal c = λ entries x kind a b n m stands. same_number entries x stands kind a b n m
