use Rattle.std.proofs.Common.{◌≡◌, [], ◌∷◌, ◌++◌, subst}
use Rattle.std.specs.Prelude.{fold}
use Rattle.metrics_core.specs.declared.key_hasher.Taken.TheVariants.{Bytes}
use Rattle.metrics_core.specs.Hashes.{hash_step}
use Rattle.metrics_core.specs.KeyHashing.{OfBytes, StandsFor, hashed}
use Rattle.metrics_core.proofs.KeyHasherSteps.{bytes_turn, stands_for_more}
use Rattle.metrics_core.proofs.key_hasher.KeyHasher.write.Goals as goal

-- the hash that is kept is that of the bytes so far and the new ones
pub returns : goal.returns
returns c =
    let old = c.args.self.now in
    let bytes = c.args.bytes.now in
    let kept : fold hash_step (hashed old) bytes ≡ c.continue_hash.result = cc in
    λ calls stands. subst (λ hash. StandsFor (Bytes hash) (calls ++ OfBytes bytes ∷ [])) kept (stands_for_more old (Bytes (fold hash_step (hashed old) bytes)) calls (OfBytes bytes) (bytes_turn old bytes) stands)
