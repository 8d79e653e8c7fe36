use Rattle.std.proofs.Common.{◌≡◌, ℕ, ◌<◌, List, [], ◌∷◌, length, refl, sym, subst, arith}
use Rattle.std.specs.Prelude.{codes}
use Rattle.metrics_core.specs.Numbers.{dogstatsd_number}
use Rattle.dsd_writer.specs.Writers.{WriterText, Writes}
use Rattle.dsd_writer.proofs.LineRooms.{number_some, one_some}
use Rattle.dsd_writer.proofs.Written.{BeginsAnew, kept_writer, written_in}
use Rattle.dsd_writer.proofs.writer.PayloadWriter.write_gauge_line.Goals as goal

letter : (type : List ℕ) → type ≡ codes "g" → 0 < length type
letter type is = subst (λ (t : List ℕ). 0 < length t) (sym is) (omega arith)

pub invariant_of-self : goal.invariant_of-self
invariant_of-self c =
    let inside = c.self.inside in
    let text = dogstatsd_number c.requires.value in
    let begun = c.begin_anew.ensures in
    let anew : BeginsAnew inside.handed_out inside.buffer.bytes c.begin_anew.new.bytes inside.buffer.starts c.begin_anew.new.starts inside.lengths c.begin_anew.new.lengths = record {
      bytes_are = begun.bytes;
      starts_are = begun.starts;
      lengths_are = begun.lengths;
      bytes_capacity = begun.bytes_capacity;
      starts_capacity = begun.starts_capacity;
      lengths_capacity = begun.lengths_capacity;
    } in
    let written = written_in c.write_made.result inside.limit inside.on_stream inside.handed_out inside.global_tags.items
    inside.buffer.bytes c.begin_anew.new.bytes c.write_made.new.bytes inside.buffer.starts c.begin_anew.new.starts c.write_made.new.starts inside.lengths c.begin_anew.new.lengths c.write_made.new.lengths
    c.begin_anew.new.handed_out c.requires.item c.requires.item (text ∷ []) c.self.invariant anew begun.done
    (c.write_made.ensures.appends c.requires.item text c.requires.is) (c.write_made.ensures.written c.requires.item text c.requires.is) refl (letter c.requires.item.type c.requires.type) (one_some text (number_some c.requires.value)) in
    written.kept

pub returns : goal.returns
returns c = λ item value type is.
    let inside = c.self.inside in
    let text = dogstatsd_number value in
    let begun = c.begin_anew.ensures in
    let anew : BeginsAnew inside.handed_out inside.buffer.bytes c.begin_anew.new.bytes inside.buffer.starts c.begin_anew.new.starts inside.lengths c.begin_anew.new.lengths = record {
      bytes_are = begun.bytes;
      starts_are = begun.starts;
      lengths_are = begun.lengths;
      bytes_capacity = begun.bytes_capacity;
      starts_capacity = begun.starts_capacity;
      lengths_capacity = begun.lengths_capacity;
    } in
    let written = written_in c.write_made.result inside.limit inside.on_stream inside.handed_out inside.global_tags.items
    inside.buffer.bytes c.begin_anew.new.bytes c.write_made.new.bytes inside.buffer.starts c.begin_anew.new.starts c.write_made.new.starts inside.lengths c.begin_anew.new.lengths c.write_made.new.lengths
    c.begin_anew.new.handed_out item item (text ∷ []) c.self.invariant anew begun.done
    (c.write_made.ensures.appends item text is) (c.write_made.ensures.written item text is) refl (letter item.type type) (one_some text (number_some value)) in
    subst (λ (old : WriterText). Writes c.write_made.result old (kept_writer inside.limit inside.on_stream inside.global_tags.items c.begin_anew.new.handed_out c.write_made.new.bytes c.write_made.new.starts c.write_made.new.lengths) item (text ∷ []))
    c.self.view_is written.writes
