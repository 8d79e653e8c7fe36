use Rattle.std.proofs.Common.{◌≡◌, true, ◌∷◌, rules, tests, sym, ap, ◌∙◌}
use Rattle.std.specs.Prelude.{◌&&◌}
use Rattle.std.specs.List.{list_all}
use Rattle.std.proofs.lemmas.Iterator.{YieldsList-from_slice}
use Rattle.std.proofs.lemmas.Iterator.Search.{all_from_yields_List}
use Rattle.prom_format.specs.NameKinds.{begins, continues}
use Rattle.prom_format.specs.Names.{is_name}
use Rattle.prom_format.proofs.names.NameKind.is_name.Goals as goal

pub returns-then-may_begin : goal.returns-then-may_begin
returns-then-may_begin c =
    let kind = c.args.self in
    let others : c.all.result ≡ list_all (continues kind) c.in-Some.others.now = all_from_yields_List (continues kind) _ _ c.all.result c.all.ensures.ran (YieldsList-from_slice c.in-Some.others.now cc) (λ x b q k. search (rules, tests)) in
    let split : c.args.text.now ≡ c.in-Some.first.now ∷ c.in-Some.others.now = search rules in
    let first : begins kind c.in-Some.first.now ≡ true = ap (begins kind) (sym c.from.ensures) ∙ sym c.may_begin.ensures ∙ c.if-may_begin.true in
    others ∙ sym (ap (is_name (begins kind)) split ∙ ap (λ b. b && list_all (continues kind) c.in-Some.others.now) first)
