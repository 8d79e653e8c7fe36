use Rattle.std.proofs.Common.{◌<◌, length, subst, sym, ◌∙◌, refl}
use Rattle.std.proofs.lemmas.Option.{slice_get_read}
use Rattle.metrics_core.specs.KeyLaws.{key_eq_laws}
use Rattle.metrics_registry.proofs.StoredSeries.{id_of_key-none, id_of_key-at}
use Rattle.metrics_registry.proofs.columns.Column.find.Goals as goal

pub returns-in_err-place : goal.returns-in_err-place
returns-in_err-place g c =
    c.from_residual.ensures
    ∙ sym (id_of_key-none key_eq_laws.symm c.args.key.now c.args.keys.now.keys c.args.self.now.items.items c.requires.beside (sym c.in_err-place.ensures.found))

pub index-requires : goal.index-requires
index-requires g c =
    subst (λ n. c.in_ok-place.place < n) (c.requires.beside ∙ sym c.args.self.now.items.ok.0) c.in_ok-place.ensures.within

pub returns : goal.returns
returns g c =
    let within : c.in_ok-place.place < length c.args.self.now.items.items = subst (λ n. c.in_ok-place.place < n) c.requires.beside c.in_ok-place.ensures.within in
    sym (id_of_key-at key_eq_laws.symm c.args.key.now c.args.keys.now.keys c.args.self.now.items.items c.in_ok-place.place c.index.result.now c.requires.beside
    (sym c.in_ok-place.ensures.index) (slice_get_read _ _ _ _ refl within c.index.ensures))
