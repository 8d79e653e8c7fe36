use Rattle.std.proofs.Common.{◌≡◌, ◌<◌, ℕ, Result, subst, ◌∙◌, length, arith}
use Rattle.std.specs.Prelude.{IfOk, slice_index_or, vec_len}
use Rattle.std.specs.Fork.{slice_chunk}
use Rattle.std.specs.declared.vec.Vec.{Vec}
use Rattle.std.specs.declared.alloc.Global.{Global}
use Rattle.std.proofs.lemmas.Result.{IfOk-weaker}
use Rattle.metrics_core.specs.declared.memory.Memory.{Memory}
use Rattle.script_player.specs.Copies.{AreForFlushes}
use Rattle.script_player.proofs.Copies.{chunks_copied, enough}
use Rattle.script_player.proofs.set_up.lines_for_flushes.Goals as goal

pub returns : goal.returns
returns g c =
    let setup = c.args.setup.now in
    let results = c.in_ok-parts.parts.items in
    let size = c.part_size.result in
    let count = length results in
    let all : count ≡ vec_len c.in_ok-parts.parts = omega (arith, c.in_ok-parts.parts.ok.0) in
    let each : (n : ℕ) (d : Result (Vec _ Global) Memory) → n < count → IfOk (slice_index_or results n d) (λ copies. AreForFlushes (slice_chunk setup size n) copies.items)
    = λ n d less.
    let gives = (c.in_ok-parts.ensures.each n d less).1 in
    subst (λ chunk. IfOk (slice_index_or results n d) (λ copies. AreForFlushes chunk copies.items)) gives.argument_is.value gives.call in
    IfOk-weaker c.all_made.result _ _ (λ made zip. chunks_copied size setup results made.items zip each
    (enough count (length setup) size c.part_size.ensures (all ∙ c.in_ok-parts.ensures.len))) c.all_made.ensures
