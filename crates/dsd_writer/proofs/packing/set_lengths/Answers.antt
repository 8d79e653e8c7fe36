use Rattle.std.proofs.Common.{◌≡◌, ℕ, ◌-◌, ◌++◌, List, length, take, drop, get_or, w32, vec_len, ap, ◌∙◌, arith}
use Rattle.std.specs.Int.{to_le_bytes}
use Rattle.std.proofs.lemmas.List.{length-drop, take_at}
use Rattle.dsd_writer.specs.Packing.{pieces_at}
use Rattle.dsd_writer.proofs.Lengths.{all_set, lengths_set, piece_at, set_one}
use Rattle.dsd_writer.proofs.packing.set_lengths.Goals as goal

pub overflow_sub-payload_length : goal.overflow_sub-payload_length
overflow_sub-payload_length c =
    let bytes = c.args.bytes.now.items in
    let starts = c.args.starts.now in
    let k = c.loop-place.place in
    let (piece, is) = piece_at c.requires.0 bytes starts c.requires.1 k c.end_of-end.result c.loop-place-test.true c.end_of-end.ensures.next
    (λ last. c.end_of-end.ensures.last last ∙ (omega (arith, c.loop-place.invariant.size))) in
    omega (arith, is.size)

pub overflow_sub-payload_length-in-loop-place : goal.overflow_sub-payload_length-in-loop-place
overflow_sub-payload_length-in-loop-place c =
    let bytes = c.args.bytes.now.items in
    let starts = c.args.starts.now in
    let k = c.loop-place.place in
    let (piece, is) = piece_at c.requires.0 bytes starts c.requires.1 k c.end_of-end.result c.loop-place-test.true c.end_of-end.ensures.next
    (λ last. c.end_of-end.ensures.last last ∙ (omega (arith, c.loop-place.invariant.size))) in
    omega (arith, is.size, is.there.room)

pub overflow_cast-payload_length : goal.overflow_cast-payload_length
overflow_cast-payload_length c =
    let bytes = c.args.bytes.now.items in
    let starts = c.args.starts.now in
    let k = c.loop-place.place in
    let (piece, is) = piece_at c.requires.0 bytes starts c.requires.1 k c.end_of-end.result c.loop-place-test.true c.end_of-end.ensures.next
    (λ last. c.end_of-end.ensures.last last ∙ (omega (arith, c.loop-place.invariant.size))) in
    omega (arith, is.size, is.there.room, is.there.short, length-drop 4 piece, c.requires.1.short)

pub set_length-requires : goal.set_length-requires
set_length-requires c =
    let bytes = c.args.bytes.now.items in
    let starts = c.args.starts.now in
    let k = c.loop-place.place in
    let (piece, is) = piece_at c.requires.0 bytes starts c.requires.1 k c.end_of-end.result c.loop-place-test.true c.end_of-end.ensures.next
    (λ last. c.end_of-end.ensures.last last ∙ (omega (arith, c.loop-place.invariant.size))) in
    omega (arith, is.size, is.there.room, is.within, c.loop-place.invariant.size)

pub loop-place-preserved : goal.loop-place-preserved
loop-place-preserved c =
    let bytes = c.args.bytes.now.items in
    let starts = c.args.starts.now in
    let k = c.loop-place.place in
    let (piece, is) = piece_at c.requires.0 bytes starts c.requires.1 k c.end_of-end.result c.loop-place-test.true c.end_of-end.ensures.next
    (λ last. c.end_of-end.ensures.last last ∙ (omega (arith, c.loop-place.invariant.size))) in
    let before = c.loop-place.bytes in
    let after = c.set_length.new.bytes in
    let start = get_or starts k 0 in
    let n = c.end_of-end.result - start - 4 in
    let pieces = pieces_at starts bytes in
    let size : length after ≡ vec_len before = c.set_length.ensures.len ∙ c.as_mut_slice.ensures.len in
    let whole = ap (λ (b : List ℕ). take start b ++ (to_le_bytes w32 n ++ drop 4 (drop start b))) c.as_mut_slice.ensures.value in
    record {
      set = take_at after (drop (length after) before.items) (vec_len before) size
          ∙ set_one c.requires.0 k pieces piece before.items after start n is.there c.requires.1.led c.loop-place.invariant.set is.begin (omega (arith, is.size, is.there.room)) (c.set_length.ensures.bytes ∙ whole);
      size = c.loop-place.invariant.size;
      capacity = c.loop-place.invariant.capacity;
    }

pub returns-clause-pieces : goal.returns-clause-pieces
returns-clause-pieces c =
    let bytes = c.args.bytes.now.items in
    let starts = c.args.starts.now in
    let after = all_set c.requires.0 bytes starts c.requires.1 c.loop-place.place c.loop-place.bytes.items c.loop-place-test.false c.loop-place.invariant.set in
    (lengths_set c.requires.0 bytes c.loop-place.bytes.items starts c.requires.1 after).are
