use Rattle.std.proofs.Common.{◌≡◌, [], ◌∷◌, ◌++◌, Some, None, sym, ap, subst, ◌∙◌}
use Rattle.std.specs.Prelude.{All}
use Rattle.std.specs.String.{string_eq}
use Rattle.indexmap.proofs.CallerLemmas.{insert_entry-new}
use Rattle.prom_format.specs.LabelSets.{labels_of}
use Rattle.drive_script.specs.Heads.{text_of_head, keys_by_head, key_at, AreHeadsOf}
use Rattle.drive_script.specs.Valid.{Registration, PrintApart}
use Rattle.drive_script.proofs.HeadSteps.{head_added, head_tested, key_at_entries, keys_by_head-push}
use Rattle.drive_script.proofs.heads.HeadTable.note.Goals as goal

pub returns-in-Some : goal.returns-in-Some
returns-in-Some c = λ registered h.
    let globals = labels_of c.args.globals.now.entries in
    let entries = c.args.self.now.keys.entries in
    let registration : Registration = record { kind = c.args.kind; key = c.args.key.now } in
    let found : key_at (keys_by_head entries) (text_of_head globals registration) ≡ Some c.in-Some.known.now =
    ap (key_at (keys_by_head entries)) (sym c.in_ok-head.ensures) ∙ sym (key_at_entries entries c.in_ok-head.head) ∙ sym c.in-Some.ensures.value in
    head_tested globals (keys_by_head entries) registered registration h c.in-Some.known.now found c.eq.result c.eq.ensures

pub returns : goal.returns
returns c = λ registered h.
    let globals = labels_of c.args.globals.now.entries in
    let entries = c.args.self.now.keys.entries in
    let registration : Registration = record { kind = c.args.kind; key = c.args.key.now } in
    let absent : key_at (keys_by_head entries) (text_of_head globals registration) ≡ None =
    ap (key_at (keys_by_head entries)) (sym c.in_ok-head.ensures) ∙ sym (key_at_entries entries c.in_ok-head.head) ∙ sym c.in_default.ensures.value in
    let table : keys_by_head c.insert.new.self.entries ≡ keys_by_head entries ++ (text_of_head globals registration, registration.key) ∷ [] =
    ap keys_by_head (c.in_ok-insert.ensures.entries ∙ insert_entry-new string_eq c.args.self.now.keys c.in_ok-head.head c.in_ok-key.key (sym c.in_default.ensures.value))
    ∙ keys_by_head-push entries c.in_ok-head.head c.in_ok-key.key
    ∙ (λ j. keys_by_head entries ++ (c.in_ok-head.ensures j, c.in_ok-key.ensures.same j) ∷ []) in
    subst (λ t. AreHeadsOf globals t (registered ++ registration ∷ []) × All (λ s. PrintApart globals s registration) registered) (sym table)
    (head_added globals (keys_by_head entries) registered registration h absent)
