use Rattle.std.proofs.Common.{◌≡◌, not, true, ap, sym, subst, ◌∙◌, Ok, rules}
use Rattle.std.specs.Prelude.{IsUtf8, bytes_eq}
use Rattle.metrics_core.specs.Numbers.{page_number}
use Rattle.page_relay.specs.Reading.{all_places}
use Rattle.page_relay.proofs.Names.{differ}
use Rattle.page_relay.proofs.Values.{value_parsed, places_utf8}
use Rattle.page_relay.proofs.lines.read_value.Goals as goal

pub returns-in_default : goal.returns-in_default
returns-in_default c = λ value fits e.
    let is : c.as_slice.result.now ≡ all_places (page_number value) = c.as_slice.ensures.value ∙ c.in_ok-digits.ensures ∙ ap all_places e in
    c.in_default.ensures.cases.0 (subst IsUtf8 (sym is) (places_utf8 value fits))

pub returns-in_default-parse : goal.returns-in_default-parse
returns-in_default-parse c = λ value fits e.
    let same : c.in-Ok.digits.now ≡ c.as_slice.result.now = search rules in
    let is : c.in-Ok.digits.now ≡ all_places (page_number value) = same ∙ c.as_slice.ensures.value ∙ c.in_ok-digits.ensures ∙ ap all_places e in
    c.in_default-parse.not-Ok value (value_parsed value c.in-Ok.digits.now c.parse.result fits is c.parse.ensures.value.0)

pub returns-then-ne : goal.returns-then-ne
returns-then-ne c = λ value fits e.
    let same : c.in-Ok.digits.now ≡ c.as_slice.result.now = search rules in
    let is : c.in-Ok.digits.now ≡ all_places (page_number value) = same ∙ c.as_slice.ensures.value ∙ c.in_ok-digits.ensures ∙ ap all_places e in
    let parsed : c.parse.result ≡ Ok value = value_parsed value c.in-Ok.digits.now c.parse.result fits is c.parse.ensures.value.0 in
    let found : Ok c.in-Ok-parse.value ≡ Ok value = sym c.in-Ok-parse.is ∙ parsed in
    let value_is : c.in-Ok-parse.value ≡ value = cc in
    let spelled : c.as_bytes.result.now ≡ page_number c.in-Ok-parse.value = search rules in
    let test : not (bytes_eq c.as_bytes.result.now c.args.text.now) ≡ true = sym c.ne.ensures ∙ c.if-ne.true in
    differ c.as_bytes.result.now c.args.text.now test (spelled ∙ ap page_number value_is ∙ sym e)
