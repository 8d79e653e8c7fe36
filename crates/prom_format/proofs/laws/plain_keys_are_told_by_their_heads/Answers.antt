use Rattle.prom_format.proofs.PlainKeys.{plain_keys_told}
use Rattle.prom_format.proofs.laws.plain_keys_are_told_by_their_heads.Goals as goal

pub returns : goal.returns
returns c = plain_keys_told
