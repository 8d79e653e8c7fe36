use Rattle.std.proofs.Common.{ℕ, [], ◌∷◌, ◌++◌, sym, ap, ◌∙◌}
use Rattle.std.specs.Option.{option_copied_mut}
use Rattle.std.specs.declared.vec.Vec.{Vec}
use Rattle.std.specs.declared.alloc.Global.{Global}
use Rattle.std.proofs.lemmas.Option.{same_Some}
use Rattle.std.proofs.lemmas.Result.{err_from_is_err_and}
use Rattle.prom_exporter.proofs.Groups.{member-written_at, members-stay_at, value_at}
use Rattle.prom_exporter.proofs.rows.put_at.Goals as goal

pub returns-clause-added : goal.returns-clause-added
returns-clause-added c = λ name (entry, at, is).
    let there = same_Some c.in-Some.places.now entry.1 (sym (ap option_copied_mut c.in-Some.is) ∙ c.get_index_mut.ensures.value ∙ value_at c.args.families.now.entries c.args.index entry at) in
    member-written_at (λ (v : Vec ℕ Global). v.items) name c.args.families.now.entries c.args.index entry c.push.new.self c.args.place c.get_index_mut.ensures.unique at is
    (c.in_ok-push.ensures.items ∙ ap (λ (v : Vec ℕ Global). v.items ++ c.args.place ∷ []) there)

pub returns-in_err-push-clause-refused : goal.returns-in_err-push-clause-refused
returns-in_err-push-clause-refused c =
    let refusal = err_from_is_err_and c.from_residual.result c.from_residual.ensures.1 in
    rw refusal.1 (members-stay_at (λ (v : Vec ℕ Global). v.items) [] c.args.families.now.entries c.args.index c.in-Some.places.now c.push.new.self (sym c.get_index_mut.ensures.value ∙ ap option_copied_mut c.in-Some.is) c.in_err-push.ensures.items)
