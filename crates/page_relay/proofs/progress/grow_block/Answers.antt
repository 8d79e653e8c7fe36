use Rattle.std.proofs.Common.{◌≡◌, ◌<◌, [], ◌∷◌, ◌++◌, map, length, ap, sym, subst, ◌∙◌, arith, rules, ◌⊎◌, inl, inr}
use Rattle.std.proofs.lemmas.List.{map_push, nil_from_length, length-map}
use Rattle.page_relay.specs.Values.{families_of, family_of, row_of}
use Rattle.page_relay.specs.Fitting.{Nothing, Block, TakesLine}
use Rattle.page_relay.proofs.Growing.{so, row_follows, block_ends, no_row_fits}
use Rattle.page_relay.proofs.progress.grow_block.Goals as goal
use Rattle.page_relay.proofs.progress.grow_block.Goals.{else-is_empty-via-then-is_empty+else-not-is_empty, else-is_empty-via-else-is_empty}

pub returns-then-not-is_empty : goal.returns-then-not-is_empty
returns-then-not-is_empty c = λ utf8 sound.
    let pages = map families_of c.args.pages.items in
    let families = map family_of c.args.families.items in
    let family = family_of c.args.family in
    let no_bytes : length c.args.line.now ≡ 0 = search rules in
    let some : 0 < length c.args.family.rows.items = search rules in
    let pushed : map family_of c.push.new.self.items ≡ families ++ family ∷ [] = ap (map family_of) c.in_ok-push.ensures.items ∙ map_push family_of c.args.families.items c.args.family in
    subst (λ next. TakesLine (so pages families (Block family)) c.args.line.now next) (λ j. so pages (sym pushed j) Nothing)
    (block_ends pages families family c.args.line.now sound utf8 (nil_from_length c.args.line.now no_bytes) (omega (arith, some, length-map c.args.family.rows.items row_of)))

pub returns-in_default : goal.returns-in_default
returns-in_default c = λ utf8 sound fits.
    let why : (length (map row_of c.args.family.rows.items) ≡ 0) ⊎ (0 < length c.args.line.now) = elim c.else-is_empty.branch [
      | else-is_empty-via-then-is_empty+else-not-is_empty w ↦ let none : length c.args.family.rows.items ≡ 0 = search rules in inl (length-map c.args.family.rows.items row_of ∙ none)
      | else-is_empty-via-else-is_empty w ↦ let some : 0 < length c.args.line.now = search rules in inr some
    ] in
    no_row_fits (map row_of c.args.family.rows.items) c.args.line.now (rw c.in_default.is at c.in_ok-row.ensures) why fits

pub returns : goal.returns
returns c = λ utf8 sound.
    let pages = map families_of c.args.pages.items in
    let families = map family_of c.args.families.items in
    let family = family_of c.args.family in
    let pushed : map row_of c.push-2.new.self.items ≡ map row_of c.args.family.rows.items ++ row_of c.in-Some.row ∷ [] = ap (map row_of) c.in_ok-push-2.ensures.items ∙ map_push row_of c.args.family.rows.items c.in-Some.row in
    subst (λ next. TakesLine (so pages families (Block family)) c.args.line.now next)
    (λ j. so pages families (Block (record { help = family.help; name = family.name; type = family.type; rows = sym pushed j })))
    (row_follows pages families family c.args.line.now (row_of c.in-Some.row) sound utf8 (rw c.in-Some.is at c.in_ok-row.ensures))
