use Rattle.std.proofs.Common.{◌≡◌, ℕ, ◌≤◌, List, true, refl, sym, ap, ◌∙◌, subst}
use Rattle.dsd_writer.specs.Cuts.{AreWithin, IsBestCut, full_cut}
use Rattle.dsd_writer.specs.Lines.{payload_fits, payloads_of}
use Rattle.dsd_writer.specs.Packing.{framed_payloads, payloads_at, pieces_at}
use Rattle.dsd_writer.specs.Writers.{IsEmptied, WriterText, room_in}
use Rattle.dsd_writer.proofs.Best.{best_payloads}
use Rattle.dsd_writer.proofs.Spare.{room_anew, room_emptied}
use Rattle.dsd_writer.proofs.Stored.{anew}
use Rattle.dsd_writer.proofs.Written.{kept_writer}
use Rattle.dsd_writer.proofs.writer.PayloadWriter.payloads.Goals as goal

pub returns : goal.returns
returns c =
    let inside = c.self.inside in
    let limit = inside.limit in
    let on_stream = inside.on_stream in
    let tags = inside.global_tags.items in
    let bytes = c.begin_anew.new.bytes in
    let starts = c.begin_anew.new.starts in
    let lengths = c.begin_anew.new.lengths in
    let sealed = c.seal.new.bytes in
    let begin = c.begin_anew.ensures in
    let old : WriterText = kept_writer limit on_stream tags inside.handed_out inside.buffer.bytes inside.buffer.starts inside.lengths in
    let new : WriterText = kept_writer limit on_stream tags true sealed starts lengths in
    let begun = anew limit on_stream inside.handed_out inside.buffer.bytes.items bytes.items inside.buffer.starts.items starts.items inside.lengths.items lengths.items c.self.invariant begin.bytes begin.starts begin.lengths in
    let room = room_anew inside.handed_out inside.buffer.bytes bytes inside.buffer.starts starts inside.lengths lengths begin.bytes begin.starts begin.lengths begin.bytes_capacity begin.starts_capacity begin.lengths_capacity in
    let spare : old.spare ≤ new.spare = subst (λ (n : ℕ). n ≤ room_in true sealed starts lengths) (sym room) (room_emptied bytes sealed starts lengths c.seal.ensures.capacity) in
    let emptied : IsEmptied old new = record { settings = record { same_limit = refl; same_start = refl; same_tags = refl }; lines = refl; spare = spare } in
    let pieces : pieces_at starts.items sealed.items ≡ framed_payloads on_stream (payloads_at on_stream starts.items bytes.items) =
    subst (λ (s : List ℕ). pieces_at s sealed.items ≡ framed_payloads on_stream (payloads_at on_stream s bytes.items)) c.as_slice.ensures.value c.seal.ensures.pieces in
    let packed = pieces ∙ ap (framed_payloads on_stream) (sym begun.stored.packed ∙ ap (payloads_of limit) begun.lines_are) in
    let within = subst (λ (lines : List (List ℕ)). AreWithin limit lines) begun.lines_are begun.stored.within in
    let best = best_payloads limit old.lines within in (
      (refl, (λ _. tt), subst (λ (writer : WriterText). IsEmptied writer new) c.self.view_is emptied),
      record {
        empties = tt;
        payloads = subst (λ (writer : WriterText). pieces_at starts.items sealed.items ≡ framed_payloads writer.on_stream (payloads_of writer.limit writer.lines)) c.self.view_is packed;
        best = subst (λ (writer : WriterText). IsBestCut (payload_fits writer.limit) writer.lines (full_cut (payload_fits writer.limit) writer.lines)) c.self.view_is best.0;
        within = subst (λ (writer : WriterText). AreWithin writer.limit (payloads_of writer.limit writer.lines)) c.self.view_is best.1;
      },
    )
