use Rattle.std.proofs.Common.{◌≡◌, arith}
use Rattle.bench_scripts.proofs.setup.register_four.Goals as goal

pub returns : goal.returns
returns c =
    let last : c.loop-number.number-index ≡ 4 = omega arith in
    rw last at c.loop-number.invariant
