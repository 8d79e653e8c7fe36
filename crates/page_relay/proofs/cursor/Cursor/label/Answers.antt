use Rattle.std.proofs.Common.{◌≡◌, true, false, rules}
use Rattle.std.specs.Prelude.{string_bytes}
use Rattle.std.specs.Option.{is_none}
use Rattle.page_relay.proofs.Options.{absent, present}
use Rattle.page_relay.proofs.Labels.{no_label_equals, no_label_value, no_label_quote}
use Rattle.page_relay.proofs.cursor.Cursor.label.Goals as goal

pub returns-then-is_none : goal.returns-then-is_none
returns-then-is_none c =
    let none : is_none c.literal.result ≡ true = search rules in
    no_label_equals c.args.self.now.rest.now (string_bytes c.in-Some.key) c.name.new.self.rest.now (rw c.in-Some.is at c.in_ok-key.ensures) (absent _ _ c.literal.result none c.literal.ensures.taken)

pub returns-in_default-2 : goal.returns-in_default-2
returns-in_default-2 c =
    let some : is_none c.literal.result ≡ false = search rules in
    no_label_value c.args.self.now.rest.now (string_bytes c.in-Some.key) c.name.new.self.rest.now c.literal.new.self.rest.now (rw c.in-Some.is at c.in_ok-key.ensures) (present _ _ c.literal.result some c.literal.ensures.taken) (rw c.in_default-2.is at c.in_ok-value.ensures)

pub returns-then-is_none-2 : goal.returns-then-is_none-2
returns-then-is_none-2 c =
    let some : is_none c.literal.result ≡ false = search rules in
    let none : is_none c.literal-2.result ≡ true = search rules in
    no_label_quote c.args.self.now.rest.now (string_bytes c.in-Some.key) c.name.new.self.rest.now c.literal.new.self.rest.now (string_bytes c.in-Some-2.value) c.text.new.self.rest.now
    (rw c.in-Some.is at c.in_ok-key.ensures) (present _ _ c.literal.result some c.literal.ensures.taken) (rw c.in-Some-2.is at c.in_ok-value.ensures) (absent _ _ c.literal-2.result none c.literal-2.ensures.taken)
