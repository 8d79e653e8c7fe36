use Rattle.std.proofs.Common.{◌≡◌, [], ◌++◌, ◌∙◌, true, false, sym, rules}
use Rattle.std.specs.Prelude.{codes, string_bytes}
use Rattle.std.specs.Option.{is_none}
use Rattle.std.proofs.lemmas.List.{append-nil}
use Rattle.prom_format.specs.Printed.{escaped_description}
use Rattle.page_relay.proofs.Options.{absent, present}
use Rattle.page_relay.proofs.Forms.{no_space, told_behind}
use Rattle.page_relay.proofs.lines.read_help_line.Goals as goal

pub returns-then-is_none-2 : goal.returns-then-is_none-2
returns-then-is_none-2 c = λ name text h.
    let some : is_none c.literal.result ≡ false = search rules in
    let none : is_none c.literal-2.result ≡ true = search rules in
    let word : c.args.line.now ≡ codes "# HELP " ++ c.literal.new.self.rest.now = sym c.new-cursor.ensures ∙ present _ _ c.literal.result some c.literal.ensures.taken in
    no_space (codes "# HELP ") c.args.line.now c.literal.new.self.rest.now (string_bytes c.in-Some.name) c.name.new.self.rest.now word (rw c.in-Some.is at c.in_ok-name.ensures)
    (absent _ _ c.literal-2.result none c.literal-2.ensures.taken) name (escaped_description text) (h.named, h.spelled)

pub returns-in_default-2 : goal.returns-in_default-2
returns-in_default-2 c = λ name text h.
    let some : is_none c.literal.result ≡ false = search rules in
    let space : is_none c.literal-2.result ≡ false = search rules in
    let word : c.args.line.now ≡ codes "# HELP " ++ c.literal.new.self.rest.now = sym c.new-cursor.ensures ∙ present _ _ c.literal.result some c.literal.ensures.taken in
    let none = rw c.in_default-2.is at c.in_ok-text.ensures in
    let told = told_behind (codes "# HELP ") c.args.line.now c.literal.new.self.rest.now (string_bytes c.in-Some.name) c.name.new.self.rest.now c.literal-2.new.self.rest.now name (escaped_description text) word (rw c.in-Some.is at c.in_ok-name.ensures)
    (present _ _ c.literal-2.result space c.literal-2.ensures.taken) (h.named, h.spelled) in
    none text [] h.utf8 tt (told.1 ∙ sym (append-nil (escaped_description text)))
