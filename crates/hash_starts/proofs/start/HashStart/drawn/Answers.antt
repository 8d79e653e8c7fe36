use Rattle.std.proofs.Common.{◌≡◌, refl, ◌∙◌}
use Rattle.std.specs.Hash.DefaultHasher.{initial, with_keys}
use Rattle.hash_starts.proofs.start.HashStart.drawn.Goals as goal

-- the keys of the fixed start are 0
without_keys : initial ≡ with_keys 0 0
unfolding initial with_keys
without_keys = refl

pub returns-in-Err : goal.returns-in-Err
returns-in-Err g c = (0, 0, c.fixed.ensures ∙ without_keys)
