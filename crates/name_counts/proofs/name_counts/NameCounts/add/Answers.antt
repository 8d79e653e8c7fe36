use Rattle.std.proofs.Common.{◌≡◌, ◌<◌, false, true≢false, map, sym, ap, subst, ◌∙◌}
use Rattle.std.specs.Option.{option_copied_mut}
use Rattle.indexmap.specs.IndexMap.{insert_entry, spare}
use Rattle.name_counts.specs.Counts.{has_room, raised}
use Rattle.name_counts.specs.Names.{counted}
use Rattle.name_counts.specs.NameLaws.{pair_eq}
use Rattle.name_counts.proofs.Counted.{raised-found}
use Rattle.name_counts.proofs.Room.{on_err, no_room, inserted}
use Rattle.name_counts.proofs.name_counts.NameCounts.add.Goals as goal

pub returns-in-Some-clause-raised : goal.returns-in-Some-clause-raised
returns-in-Some-clause-raised c =
    ap (map counted) (c.get_mut.follows.holds _).0
    ∙ raised-found c.args.kind c.args.name.now c.self.inside.counts.entries c.in-Some.count.now (sym c.get_mut.ensures.value ∙ ap option_copied_mut c.in-Some.is)
    ∙ ap (λ counts. raised c.args.kind c.args.name.now counts.entries) c.self.view_is

pub returns-in_err-key-clause-no_room : goal.returns-in_err-key-clause-no_room
returns-in_err-key-clause-no_room c =
    on_err c.from_residual.result
    (subst (λ counts. has_room counts c.args.kind c.args.name.now ≡ false) c.self.view_is
    (no_room c.args.kind c.args.name.now c.self.inside.counts c.self.inside.ready (sym c.get_mut.ensures.value ∙ ap option_copied_mut c.in_default.is)
    (λ _. c.in_err-key.ensures.refused)))

pub returns-in_err-insert-clause-no_room : goal.returns-in_err-insert-clause-no_room
returns-in_err-insert-clause-no_room c =
    on_err c.from_residual-in_err-insert.result
    (subst (λ counts. has_room counts c.args.kind c.args.name.now ≡ false) c.self.view_is
    (no_room c.args.kind c.args.name.now c.self.inside.counts c.self.inside.ready (sym c.get_mut.ensures.value ∙ ap option_copied_mut c.in_default.is)
    (λ free. absurd (true≢false (sym (c.in_err-insert.ensures.succeeds (subst (λ m. 0 < spare m) (sym c.get_mut.follows.holds-at-none) free)))))))

pub returns-clause-raised : goal.returns-clause-raised
returns-clause-raised c =
    ap (map counted) c.in_ok-insert.ensures.entries
    ∙ subst (λ m. map counted (insert_entry pair_eq m.entries c.in_ok-key.key 1) ≡ raised c.args.kind c.args.name.now (map counted c.self.inside.counts.entries)) (sym c.get_mut.follows.holds-at-none)
    (inserted c.args.kind c.args.name.now c.self.inside.counts c.self.inside.ready c.in_ok-key.key c.in_ok-key.ensures.kept (sym c.get_mut.ensures.value ∙ ap option_copied_mut c.in_default.is))
    ∙ ap (λ counts. raised c.args.kind c.args.name.now counts.entries) c.self.view_is
