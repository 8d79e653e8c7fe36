use Rattle.std.proofs.Common.{◌<◌, sym, subst, ◌∙◌, refl}
use Rattle.std.proofs.lemmas.Option.{slice_get_read}
use Rattle.metrics_registry.specs.Stored.{live_of}
use Rattle.metrics_registry.proofs.Found.{cell_of-place, cell_of-none}
use Rattle.metrics_registry.proofs.StoredSeries.{place_within, cell-at}
use Rattle.metrics_registry.proofs.columns.Column.get.Goals as goal

pub returns-in_err-place : goal.returns-in_err-place
returns-in_err-place g c = λ ks stored. rw c.from_residual.ensures (sym (cell_of-none c.args.id (live_of ks c.args.self.now.items.items) (c.in_err-place.ensures ks stored)))

pub index-requires : goal.index-requires
index-requires g c =
    subst (λ n. c.in_ok-place.place < n) (sym c.args.self.now.items.ok.0)
    (place_within c.requires.0 c.args.self.now.items.items c.args.id c.in_ok-place.place c.requires.1.beside (c.in_ok-place.ensures c.requires.0 c.requires.1))

pub returns : goal.returns
returns g c = λ ks stored.
    let ss = c.args.self.now.items.items in
    let within = place_within ks ss c.args.id c.in_ok-place.place stored.beside (c.in_ok-place.ensures ks stored) in
    sym (cell_of-place c.args.id (live_of ks ss) c.in_ok-place.place stored.rises (c.in_ok-place.ensures ks stored)
    ∙ cell-at ks ss c.in_ok-place.place c.index.result.now stored.beside (slice_get_read _ _ _ _ refl within c.index.ensures))
