use Rattle.std.proofs.Common.{◌≡◌, None, false, sym, ◌∙◌, rules}
use Rattle.std.specs.Prelude.{bytes_eq, codes}
use Rattle.drive_script.specs.Reading.{unit_named}
use Rattle.drive_script.proofs.UnitNames.{none_named, no_text_named}
use Rattle.drive_script.proofs.cursor.unit_named.Goals as goal

pub returns-in_err-ok : goal.returns-in_err-ok
returns-in_err-ok c =
    let word = c.args.word.now in
    let other : bytes_eq word (codes "-") ≡ false = search rules in
    let none : unit_named word ≡ None = none_named word other (no_text_named _ _ word c.from_utf8.result c.from_utf8.ensures.cases (sym c.ok.ensures.value ∙ c.in_err-ok.was)) in
    let given : c.from_residual.result ≡ None = search rules in
    given ∙ sym none

pub returns-in_err-unit : goal.returns-in_err-unit
returns-in_err-unit c =
    let word = c.args.word.now in
    let other : bytes_eq word (codes "-") ≡ false = search rules in
    let same : c.in_ok-ok.field-0.now ≡ word = search rules in
    let refused : c.from_string.result ≡ None = search rules in
    let none : unit_named word ≡ None = none_named word other (λ unit is. let found = c.from_string.ensures.known unit (same ∙ is) in cc) in
    let given : c.from_residual-in_err-unit.result ≡ None = search rules in
    given ∙ sym none
