use Rattle.std.proofs.Common.{◌≡◌, [], map, ap, sym, subst, ◌∙◌, not, true, false}
use Rattle.std.specs.Prelude.{string_bytes, bytes_eq, Some}
use Rattle.page_relay.specs.Values.{families_of, family_of, row_of}
use Rattle.page_relay.specs.Fitting.{Help, Block, TakesLine}
use Rattle.page_relay.specs.Reading.{IsTypeLine}
use Rattle.page_relay.proofs.Forms.{type_name_told}
use Rattle.page_relay.proofs.Growing.{so, type_follows}
use Rattle.page_relay.proofs.Names.{differ, agree}
use Rattle.page_relay.proofs.progress.type_block.Goals as goal

pub returns-then-ne : goal.returns-then-ne
returns-then-ne c = λ utf8 sound fits.
    let read : IsTypeLine c.args.line.now (string_bytes c.in-Some.typed) c.in-Some.shape = rw c.in-Some.is at c.in_ok-typed.ensures in
    let same = type_name_told c.args.line.now (string_bytes c.in-Some.typed) (string_bytes c.args.name) c.in-Some.shape fits.0 read fits.1 in
    let test : not (bytes_eq c.as_str.result.now c.as_str-2.result.now) ≡ true = sym c.ne.ensures ∙ c.if-ne.true in
    differ c.as_str.result.now c.as_str-2.result.now test (c.as_str.ensures.value ∙ same ∙ sym c.as_str-2.ensures.value)

pub returns : goal.returns
returns c = λ utf8 sound.
    let pages = map families_of c.args.pages.items in
    let families = map family_of c.args.families.items in
    let test : not (bytes_eq c.as_str.result.now c.as_str-2.result.now) ≡ false = sym c.ne.ensures ∙ c.if-ne.false in
    let same : string_bytes c.in-Some.typed ≡ string_bytes c.args.name = sym c.as_str.ensures.value ∙ agree c.as_str.result.now c.as_str-2.result.now test ∙ c.as_str-2.ensures.value in
    let read : IsTypeLine c.args.line.now (string_bytes c.in-Some.typed) c.in-Some.shape = rw c.in-Some.is at c.in_ok-typed.ensures in
    let none : map row_of c.new.result.items ≡ [] = ap (map row_of) c.new.ensures.items in
    subst (λ next. TakesLine (so pages families (Help (string_bytes c.args.name) (string_bytes c.args.help))) c.args.line.now next)
    (λ j. so pages families (Block (record { help = Some (string_bytes c.args.help); name = string_bytes c.args.name; type = c.in-Some.shape; rows = sym none j })))
    (type_follows pages families c.args.line.now (string_bytes c.args.name) (string_bytes c.args.help) c.in-Some.shape sound utf8 (subst (λ name. IsTypeLine c.args.line.now name c.in-Some.shape) same read))
