use Rattle.std.proofs.Common.{◌≡◌, Some, sym, rules}
use Rattle.std.specs.Arc.{arc_value}
use Rattle.std.specs.Cow.{cow_str_bytes}
use Rattle.drive_script.specs.Reading.{registered_kind_at, text_at, labels_at}
use Rattle.drive_script.proofs.Loops.{registered_read}
use Rattle.drive_script.proofs.lines.register_line.Goals as goal

pub returns : goal.returns
returns c =
    let line = c.args.line.now in
    let kind : registered_kind_at line ≡ Some (c.in-Some.kind, c.registered_kind.new.self.rest.now) = search rules in
    let name : text_at c.registered_kind.new.self.rest.now ≡ Some (cow_str_bytes c.in-Some-2.name, c.text.new.self.rest.now) = search rules in
    let labels : labels_at c.text.new.self.rest.now ≡ Some (c.in-Some-3.labels.items, c.labels.new.self.rest.now) = search rules in
    let held : arc_value c.in_ok-labels-2.labels ≡ c.in-Some-3.labels = search rules in
    rw (c.from_shared_labels-key.ensures.parts, held, c.from.ensures, c.in_ok-name-2.ensures.text) (sym (registered_read line c.registered_kind.new.self.rest.now c.text.new.self.rest.now c.labels.new.self.rest.now c.in-Some.kind (cow_str_bytes c.in-Some-2.name) c.in-Some-3.labels.items kind name labels))
