use Rattle.std.proofs.Common.{arith, sym, subst}
use Rattle.std.specs.Str.{IsCharBoundary}
use Rattle.prom_format.proofs.Kept.{IsCharBoundary-kept}
use Rattle.prom_format.proofs.suffixes.push_full_name.Goals as goal

pub range_from-requires : goal.range_from-requires
range_from-requires c = λ _.
    let start = c.len-start.result in
    subst (λ bytes. IsCharBoundary bytes start) (sym c.deref.ensures)
    (IsCharBoundary-kept c.args.buffer.now c.push_name_with_unit.new.buffer start (omega arith) c.in_ok-push_name_with_unit.ensures.kept)
