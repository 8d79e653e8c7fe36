use Rattle.std.proofs.Common.{List, ap, ◌∙◌, subst, [], ◌∷◌}
use Rattle.std.specs.Prelude.{option_copied}
use Rattle.metrics_core.specs.Keys.{LabelText}
use Rattle.dsd_writer.specs.Items.{key_text, type_text}
use Rattle.dsd_writer.specs.Lines.{ItemText}
use Rattle.dsd_writer.specs.Writers.{WriterText, Writes, item_in, item_of, timed}
use Rattle.dsd_writer.proofs.LineRooms.{one_some, type_some}
use Rattle.dsd_writer.proofs.Written.{BeginsAnew, kept_writer, written_in}
use Rattle.dsd_writer.proofs.writer.PayloadWriter.write_one.Goals as goal

pub invariant_of-self : goal.invariant_of-self
invariant_of-self c =
    let inside = c.self.inside in
    let series = λ (tags : List LabelText). item_of (type_text c.args.line_type) (option_copied c.args.prefix) (key_text c.args.key) tags in
    let item_is = c.at-item.ensures ∙ ap (λ (item : ItemText). timed c.args.timestamp item) (c.new.ensures ∙ ap series c.as_slice.ensures.value) in
    let begun = c.begin_anew.ensures in
    let anew : BeginsAnew inside.handed_out inside.buffer.bytes c.begin_anew.new.bytes inside.buffer.starts c.begin_anew.new.starts inside.lengths c.begin_anew.new.lengths = record {
      bytes_are = begun.bytes;
      starts_are = begun.starts;
      lengths_are = begun.lengths;
      bytes_capacity = begun.bytes_capacity;
      starts_capacity = begun.starts_capacity;
      lengths_capacity = begun.lengths_capacity;
    } in
    let written = written_in c.write_point.result inside.limit inside.on_stream inside.handed_out inside.global_tags.items
    inside.buffer.bytes c.begin_anew.new.bytes c.write_point.new.bytes inside.buffer.starts c.begin_anew.new.starts c.write_point.new.starts inside.lengths c.begin_anew.new.lengths c.write_point.new.lengths
    c.begin_anew.new.handed_out c.at-item.result (timed c.args.timestamp (series inside.global_tags.items)) (c.args.text.now ∷ []) c.self.invariant anew begun.done
    c.write_point.ensures.appends c.write_point.ensures.written item_is (type_some c.args.line_type) (one_some c.args.text.now c.write_point.ensures.some) in
    written.kept

pub returns : goal.returns
returns c =
    let inside = c.self.inside in
    let series = λ (tags : List LabelText). item_of (type_text c.args.line_type) (option_copied c.args.prefix) (key_text c.args.key) tags in
    let item_is = c.at-item.ensures ∙ ap (λ (item : ItemText). timed c.args.timestamp item) (c.new.ensures ∙ ap series c.as_slice.ensures.value) in
    let begun = c.begin_anew.ensures in
    let anew : BeginsAnew inside.handed_out inside.buffer.bytes c.begin_anew.new.bytes inside.buffer.starts c.begin_anew.new.starts inside.lengths c.begin_anew.new.lengths = record {
      bytes_are = begun.bytes;
      starts_are = begun.starts;
      lengths_are = begun.lengths;
      bytes_capacity = begun.bytes_capacity;
      starts_capacity = begun.starts_capacity;
      lengths_capacity = begun.lengths_capacity;
    } in
    let written = written_in c.write_point.result inside.limit inside.on_stream inside.handed_out inside.global_tags.items
    inside.buffer.bytes c.begin_anew.new.bytes c.write_point.new.bytes inside.buffer.starts c.begin_anew.new.starts c.write_point.new.starts inside.lengths c.begin_anew.new.lengths c.write_point.new.lengths
    c.begin_anew.new.handed_out c.at-item.result (timed c.args.timestamp (series inside.global_tags.items)) (c.args.text.now ∷ []) c.self.invariant anew begun.done
    c.write_point.ensures.appends c.write_point.ensures.written item_is (type_some c.args.line_type) (one_some c.args.text.now c.write_point.ensures.some) in
    record {
      writes = subst (λ (old : WriterText). Writes c.write_point.result old (kept_writer inside.limit inside.on_stream inside.global_tags.items c.begin_anew.new.handed_out c.write_point.new.bytes c.write_point.new.starts c.write_point.new.lengths)
          (timed c.args.timestamp (item_in old (type_text c.args.line_type) (option_copied c.args.prefix) (key_text c.args.key))) (c.args.text.now ∷ [])) c.self.view_is written.writes;
    }
