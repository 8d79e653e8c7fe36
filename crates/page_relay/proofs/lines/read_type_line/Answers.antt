use Rattle.std.proofs.Common.{◌≡◌, ◌++◌, ◌∙◌, true, false, sym, rules}
use Rattle.std.specs.Prelude.{codes, string_bytes}
use Rattle.std.specs.Option.{is_none}
use Rattle.prom_format.specs.Pages.{type_text}
use Rattle.page_relay.proofs.Options.{absent, present}
use Rattle.page_relay.proofs.Forms.{no_space, told_behind}
use Rattle.page_relay.proofs.lines.read_type_line.Goals as goal

pub returns-then-is_none-2 : goal.returns-then-is_none-2
returns-then-is_none-2 c = λ name type h.
    let some : is_none c.literal.result ≡ false = search rules in
    let none : is_none c.literal-2.result ≡ true = search rules in
    let word : c.args.line.now ≡ codes "# TYPE " ++ c.literal.new.self.rest.now = sym c.new-cursor.ensures ∙ present _ _ c.literal.result some c.literal.ensures.taken in
    no_space (codes "# TYPE ") c.args.line.now c.literal.new.self.rest.now (string_bytes c.in-Some.name) c.name.new.self.rest.now word (rw c.in-Some.is at c.in_ok-name.ensures)
    (absent _ _ c.literal-2.result none c.literal-2.ensures.taken) name (type_text type) (h.named, h.spelled)

pub returns-in_default-shape : goal.returns-in_default-shape
returns-in_default-shape c = λ name type h.
    let some : is_none c.literal.result ≡ false = search rules in
    let space : is_none c.literal-2.result ≡ false = search rules in
    let word : c.args.line.now ≡ codes "# TYPE " ++ c.literal.new.self.rest.now = sym c.new-cursor.ensures ∙ present _ _ c.literal.result some c.literal.ensures.taken in
    let told = told_behind (codes "# TYPE ") c.args.line.now c.literal.new.self.rest.now (string_bytes c.in-Some.name) c.name.new.self.rest.now c.literal-2.new.self.rest.now name (type_text type) word (rw c.in-Some.is at c.in_ok-name.ensures)
    (present _ _ c.literal-2.result space c.literal-2.ensures.taken) (h.named, h.spelled) in
    c.in_default-shape.ensures type told.1
