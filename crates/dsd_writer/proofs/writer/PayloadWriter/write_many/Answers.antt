use Rattle.std.proofs.Common.{List, ap, ◌∙◌, subst}
use Rattle.std.specs.Prelude.{option_copied}
use Rattle.metrics_core.specs.Keys.{LabelText}
use Rattle.dsd_writer.specs.Items.{key_text, type_text}
use Rattle.dsd_writer.specs.Lines.{ItemText, spelled_values}
use Rattle.dsd_writer.specs.Writers.{WriterText, Writes, item_in, item_of, sampled}
use Rattle.dsd_writer.proofs.LineRooms.{spelled_some, type_some}
use Rattle.dsd_writer.proofs.Written.{BeginsAnew, kept_writer, written_in}
use Rattle.dsd_writer.proofs.writer.PayloadWriter.write_many.Goals as goal

pub invariant_of-self : goal.invariant_of-self
invariant_of-self c =
    let inside = c.self.inside in
    let series = λ (tags : List LabelText). item_of (type_text c.args.line_type) (option_copied c.args.prefix) (key_text c.args.key) tags in
    let item_is = c.sampled-item.ensures ∙ ap (λ (item : ItemText). sampled c.args.rate item) (c.new.ensures ∙ ap series c.as_slice.ensures.value) in
    let begun = c.begin_anew.ensures in
    let anew : BeginsAnew inside.handed_out inside.buffer.bytes c.begin_anew.new.bytes inside.buffer.starts c.begin_anew.new.starts inside.lengths c.begin_anew.new.lengths = record {
      bytes_are = begun.bytes;
      starts_are = begun.starts;
      lengths_are = begun.lengths;
      bytes_capacity = begun.bytes_capacity;
      starts_capacity = begun.starts_capacity;
      lengths_capacity = begun.lengths_capacity;
    } in
    let written = written_in c.write_points.result inside.limit inside.on_stream inside.handed_out inside.global_tags.items
    inside.buffer.bytes c.begin_anew.new.bytes c.write_points.new.bytes inside.buffer.starts c.begin_anew.new.starts c.write_points.new.starts inside.lengths c.begin_anew.new.lengths c.write_points.new.lengths
    c.begin_anew.new.handed_out c.sampled-item.result (sampled c.args.rate (series inside.global_tags.items)) (spelled_values c.args.values.now) c.self.invariant anew begun.done
    c.write_points.ensures.appends c.write_points.ensures.written item_is (type_some c.args.line_type) (spelled_some c.args.values.now) in
    written.kept

pub returns : goal.returns
returns c =
    let inside = c.self.inside in
    let series = λ (tags : List LabelText). item_of (type_text c.args.line_type) (option_copied c.args.prefix) (key_text c.args.key) tags in
    let item_is = c.sampled-item.ensures ∙ ap (λ (item : ItemText). sampled c.args.rate item) (c.new.ensures ∙ ap series c.as_slice.ensures.value) in
    let begun = c.begin_anew.ensures in
    let anew : BeginsAnew inside.handed_out inside.buffer.bytes c.begin_anew.new.bytes inside.buffer.starts c.begin_anew.new.starts inside.lengths c.begin_anew.new.lengths = record {
      bytes_are = begun.bytes;
      starts_are = begun.starts;
      lengths_are = begun.lengths;
      bytes_capacity = begun.bytes_capacity;
      starts_capacity = begun.starts_capacity;
      lengths_capacity = begun.lengths_capacity;
    } in
    let written = written_in c.write_points.result inside.limit inside.on_stream inside.handed_out inside.global_tags.items
    inside.buffer.bytes c.begin_anew.new.bytes c.write_points.new.bytes inside.buffer.starts c.begin_anew.new.starts c.write_points.new.starts inside.lengths c.begin_anew.new.lengths c.write_points.new.lengths
    c.begin_anew.new.handed_out c.sampled-item.result (sampled c.args.rate (series inside.global_tags.items)) (spelled_values c.args.values.now) c.self.invariant anew begun.done
    c.write_points.ensures.appends c.write_points.ensures.written item_is (type_some c.args.line_type) (spelled_some c.args.values.now) in
    record {
      writes = subst (λ (old : WriterText). Writes c.write_points.result old (kept_writer inside.limit inside.on_stream inside.global_tags.items c.begin_anew.new.handed_out c.write_points.new.bytes c.write_points.new.starts c.write_points.new.lengths)
          (sampled c.args.rate (item_in old (type_text c.args.line_type) (option_copied c.args.prefix) (key_text c.args.key))) (spelled_values c.args.values.now)) c.self.view_is written.writes;
    }
