use Rattle.std.proofs.Common.{◌≡◌, ◌∷◌, true, rules, sym, ap, ◌∙◌, take, drop, arith}
use Rattle.std.specs.Prelude.{decimal}
use Rattle.std.specs.Char.{is_ascii_digit}
use Rattle.std.specs.Str.Parse.{digits_value_after}
use Rattle.std.proofs.lemmas.Option.{IfSome_then}
use Rattle.drive_script.specs.Reading.{digit_count}
use Rattle.drive_script.proofs.Fields.{begun_number, goes_past, zero_front}
use Rattle.drive_script.proofs.cursor.short_number.Goals as goal

pub returns-then-first-eq48-clause-number : goal.returns-then-first-eq48-clause-number
returns-then-first-eq48-clause-number c =
    let first = c.in_ok-first.first.now in
    let behind = c.in_ok-first.behind.now in
    let is : c.args.bytes.now ≡ first ∷ behind = search rules in
    IfSome_then c.zero_before.result c.zero_before.ensures (λ found zero. ap (λ l. take (digit_count l) l) is ∙ zero_front first behind c.if-first-eq48.true zero.0 ∙ ap decimal (sym zero.1))

pub returns-clause-number : goal.returns-clause-number
returns-clause-number c =
    let first = c.in_ok-first.first.now in
    let behind = c.in_ok-first.behind.now in
    let is : c.args.bytes.now ≡ first ∷ behind = search rules in
    let digit : is_ascii_digit first ≡ true = sym c.if-not-is_ascii_digit.ensures.value in
    ap (λ l. take (digit_count l) l) is
    ∙ begun_number c.in_ok-value.value first behind digit c.if-first-eq48.false c.in_ok-value.ensures.fits
    (c.in_ok-value.ensures.value ∙ ap (λ m. digits_value_after 10 m (take (digit_count behind) behind)) c.from.ensures)

pub returns-clause-rest : goal.returns-clause-rest
returns-clause-rest c =
    let first = c.in_ok-first.first.now in
    let behind = c.in_ok-first.behind.now in
    let is : c.args.bytes.now ≡ first ∷ behind = search rules in
    let digit : is_ascii_digit first ≡ true = sym c.if-not-is_ascii_digit.ensures.value in
    c.in_ok-value.ensures.rest ∙ sym (goes_past first behind digit) ∙ sym (ap (λ l. drop (digit_count l) l) is)

pub returns-then-first-eq48-clause-fits : goal.returns-then-first-eq48-clause-fits
returns-then-first-eq48-clause-fits c =
    IfSome_then c.zero_before.result c.zero_before.ensures (λ found zero. omega (arith, zero.1))
