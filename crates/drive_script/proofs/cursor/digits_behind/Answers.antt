use Rattle.std.proofs.Common.{◌≡◌, ◌∷◌, ◌+◌, ◌*◌, true, rules, sym, ap, ◌∙◌, take, drop}
use Rattle.std.specs.Char.{is_ascii_digit}
use Rattle.std.specs.Str.Parse.{digits_value_after}
use Rattle.drive_script.specs.Reading.{digit_count}
use Rattle.drive_script.proofs.Fields.{goes_on, goes_past}
use Rattle.drive_script.proofs.cursor.digits_behind.Goals as goal

pub loop-first-preserved : goal.loop-first-preserved
loop-first-preserved c =
    let first = c.in-Some.first.now in
    let behind = c.in-Some.behind.now in
    let is : c.loop-first.rest.now ≡ first ∷ behind = search rules in
    let digit : is_ascii_digit first ≡ true = sym c.if-not-is_ascii_digit.ensures.value in
    record {
      value = ap (λ d. digits_value_after 10 (c.loop-first.value * 10 + d) (take (digit_count behind) behind)) c.from.ensures
          ∙ sym (goes_on c.loop-first.value first behind digit)
          ∙ sym (ap (λ l. digits_value_after 10 c.loop-first.value (take (digit_count l) l)) is)
          ∙ c.loop-first.invariant.value;
      rest = sym (goes_past first behind digit) ∙ sym (ap (λ l. drop (digit_count l) l) is) ∙ c.loop-first.invariant.rest;
    }
