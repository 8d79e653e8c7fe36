use Rattle.std.proofs.Common.{◌≡◌, [], ◌∷◌, ◌++◌, map, ap, sym, subst, ◌∙◌, rules}
use Rattle.std.specs.Prelude.{codes, string_bytes, None}
use Rattle.std.proofs.lemmas.List.{map_push}
use Rattle.page_relay.specs.Values.{families_of, family_of, row_of}
use Rattle.page_relay.specs.Fitting.{Nothing, Block, TakesLine}
use Rattle.page_relay.proofs.Growing.{so, help_begins, type_begins, page_ends}
use Rattle.page_relay.proofs.progress.begin_block.Goals as goal

pub returns-then-eq : goal.returns-then-eq
returns-then-eq c = λ utf8 sound.
    let pages = map families_of c.args.pages.items in
    let families = map family_of c.args.families.items in
    let is_end : c.args.line.now ≡ codes "# EOF" = search rules in
    let pushed : map families_of c.push.new.self.items ≡ pages ++ families ∷ [] = ap (map families_of) c.in_ok-push.ensures.items ∙ map_push families_of c.args.pages.items _ in
    let none : map family_of c.new.result.items ≡ [] = ap (map family_of) c.new.ensures.items in
    subst (λ next. TakesLine (so pages families Nothing) c.args.line.now next) (λ j. so (sym pushed j) (sym none j) Nothing) (page_ends pages families c.args.line.now sound utf8 is_end)

pub returns-in-Some : goal.returns-in-Some
returns-in-Some c = λ utf8 sound.
    help_begins (map families_of c.args.pages.items) (map family_of c.args.families.items) c.args.line.now (string_bytes c.in-Some.name) (string_bytes c.in-Some.help) sound utf8 (rw c.in-Some.is at c.in_ok-name.ensures)

pub returns-in-Some-2 : goal.returns-in-Some-2
returns-in-Some-2 c = λ utf8 sound.
    let pages = map families_of c.args.pages.items in
    let families = map family_of c.args.families.items in
    let none : map row_of c.new-in-Some-2.result.items ≡ [] = ap (map row_of) c.new-in-Some-2.ensures.items in
    subst (λ next. TakesLine (so pages families Nothing) c.args.line.now next)
    (λ j. so pages families (Block (record { help = None; name = string_bytes c.in-Some-2.name; type = c.in-Some-2.shape; rows = sym none j })))
    (type_begins pages families c.args.line.now (string_bytes c.in-Some-2.name) c.in-Some-2.shape sound utf8 (rw c.in-Some-2.is at c.in_ok-name-2.ensures))
