use Rattle.std.proofs.Common.{map}
use Rattle.std.specs.Prelude.{string_bytes}
use Rattle.std.specs.Int.{w128}
use Rattle.std.proofs.lemmas.Int.{to_z-of_z}
use Rattle.page_relay.specs.Values.{label_of}
use Rattle.page_relay.proofs.Forms.{no_row_labels, no_row_value, row_taken}
use Rattle.page_relay.proofs.lines.read_row.Goals as goal

pub returns-in_default-2 : goal.returns-in_default-2
returns-in_default-2 c = λ row h.
    no_row_labels c.args.line.now (string_bytes c.in-Some.name) c.name.new.self.rest.now (rw c.new-cursor.ensures at (rw c.in-Some.is at c.in_ok-name.ensures)) (rw c.in_default-2.is at c.in_ok-labels.ensures) row h

pub returns-in_default-3 : goal.returns-in_default-3
returns-in_default-3 c = λ row h.
    no_row_value c.args.line.now (string_bytes c.in-Some.name) c.name.new.self.rest.now (map label_of c.in-Some-2.labels.items) c.label_set.new.self.rest.now
    (rw c.new-cursor.ensures at (rw c.in-Some.is at c.in_ok-name.ensures)) (rw c.in-Some-2.is at c.in_ok-labels.ensures) (rw c.in_default-3.is at c.in_ok-value.ensures) row h

pub returns : goal.returns
returns c =
    let number = rw c.in-Some-3.is at c.in_ok-value.ensures in
    let taken = row_taken c.args.line.now (string_bytes c.in-Some.name) c.name.new.self.rest.now (map label_of c.in-Some-2.labels.items) c.label_set.new.self.rest.now c.in-Some-3.value
    (rw c.new-cursor.ensures at (rw c.in-Some.is at c.in_ok-name.ensures)) (rw c.in-Some-2.is at c.in_ok-labels.ensures) number.0 number.1 in
    rw (to_z-of_z w128 c.in-Some-3.value number.1) taken
