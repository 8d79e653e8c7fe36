use Rattle.std.proofs.Common.{◌≡◌, sym, ◌∙◌, rules}
use Rattle.dsd_lines.proofs.Digits.{digits_are_text, parsed}
use Rattle.dsd_lines.proofs.numbers.digits_value.Goals as goal

pub returns-in_err-ok : goal.returns-in_err-ok
returns-in_err-ok c = absurd (digits_are_text _ _ c.args.digits.now c.from_utf8.result c.requires c.from_utf8.ensures.cases (sym c.ok.ensures.value ∙ c.in_err-ok.was))

pub returns : goal.returns
returns c =
    let same : c.in_ok-ok.field-0.now ≡ c.args.digits.now = search rules in
    rw c.ok-2.ensures.value (parsed c.args.digits.now c.parse.result c.requires (rw same at c.parse.ensures.value.0))
