use Rattle.std.proofs.Common.{◌+◌, ◌-◌, length, sym, ap, ◌∙◌, arith}
use Rattle.std.specs.Prelude.{nat_le}
use Rattle.std.specs.Option.{option_copied}
use Rattle.dsd_writer.proofs.Pieces.{takes_by}
use Rattle.dsd_writer.proofs.packing.last_takes.Goals as goal

pub overflow_sub-stored : goal.overflow_sub-stored
overflow_sub-stored c =
    let by = takes_by c.args.limit c.args.on_stream c.args.bytes.now c.args.starts.now c.requires.packed c.in-Some.start.now (sym c.last.ensures.value ∙ ap option_copied c.in-Some.is) in
    omega (arith, by.room)

pub overflow_sub-stored-2 : goal.overflow_sub-stored-2
overflow_sub-stored-2 c =
    let by = takes_by c.args.limit c.args.on_stream c.args.bytes.now c.args.starts.now c.requires.packed c.in-Some.start.now (sym c.last.ensures.value ∙ ap option_copied c.in-Some.is) in
    omega (arith, by.room, c.prefix_length.ensures.length)

pub returns : goal.returns
returns c =
    let by = takes_by c.args.limit c.args.on_stream c.args.bytes.now c.args.starts.now c.requires.packed c.in-Some.start.now (sym c.last.ensures.value ∙ ap option_copied c.in-Some.is) in
    ap (λ n. nat_le (length c.args.bytes.now - c.in-Some.start.now - n + c.args.line_length) c.args.limit) c.prefix_length.ensures.length ∙ sym (by.takes c.args.line_length)
