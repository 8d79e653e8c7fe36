use Rattle.std.proofs.Common.{◌≡◌, ◌<◌, ◌+◌, suc, [], length, get_or, set, refl, ap, subst, ◌∙◌, arith, add-one, Some}
use Rattle.std.specs.Prelude.{slice_get, swap}
use Rattle.std.proofs.lemmas.Option.{slice_get_read, slice_get-get_or}
use Rattle.metrics_core.specs.Keys.{KeyText}
use Rattle.metrics_registry.specs.Retained.{AskedAt}
use Rattle.metrics_registry.proofs.RetainedSeries.{kept-same, kept-true, kept-false, stored-end}
use Rattle.metrics_registry.proofs.columns.Column.retain.Goals as goal
use Rattle.metrics_registry.proofs.columns.Column.retain.Goals.{then-ask, else-ask}

pub loop-place-preserved : goal.loop-place-preserved
loop-place-preserved g c =
    let so_far = c.loop-place.invariant.1 in
    let ks = c.loop-place.keys.keys in
    let ss = c.loop-place.self.items.items in
    let i = c.loop-place.place in
    let within : i < length ss = omega (arith, c.loop-place-test.true, c.len-place-end.ensures, so_far.long, c.args.self.now.items.ok.0) in
    let at = slice_get_read ss (length ss) i c.index_mut.result.now refl within c.index_mut.ensures.value in
    let none : KeyText = record { name = []; labels = [] } in
    let key_at : slice_get ks i ≡ Some (get_or ks i none) = slice_get-get_or ks i none (omega (arith, within, so_far.long, so_far.keys_long, c.requires.stored.beside)) in
    let s = c.index_mut.result.now in
    let t = c.ask.new.series in
    let k = c.loop-place.kept in
    let ks0 = c.args.keys.now.keys in
    let ss0 = c.args.self.now.items.items in
    elim c.if-ask.branch [
      | then-ask w ↦ (
        c.ask.ensures.callable,
        kept-same g.F.FnMut c.args.keep ks0 ss0 (swap ks k i) c.if-ask.keys.keys (swap (set ss i t) k i) c.if-ask.self.items.items (suc k) c.if-ask.kept (suc i) (i + 1) c.ask.new.keep
            (ap (λ l. l.keys) w.keys-is ∙ w.move_up.ensures.keys) (ap (λ l. l.items.items) w.self-is ∙ w.move_up.ensures.items) (w.kept-is ∙ add-one k) (add-one i)
            (kept-true g.F.FnMut c.args.keep ks0 ss0 ks ss k i c.loop-place.keep c.requires.stored.beside so_far (get_or ks i none) s t key_at at c.ask.ensures.id c.ask.new.keep
            (subst (λ b. AskedAt g.F.FnMut c.loop-place.keep s.id s.cell b t.cell c.ask.new.keep) w.if-ask.true c.ask.ensures.asked)),
      )
      | else-ask w ↦ (
        c.ask.ensures.callable,
        kept-same g.F.FnMut c.args.keep ks0 ss0 ks c.if-ask.keys.keys (set ss i t) c.if-ask.self.items.items k c.if-ask.kept (suc i) (i + 1) c.ask.new.keep
            (ap (λ l. l.keys) w.keys-is) (ap (λ l. l.items.items) w.self-is) w.kept-is (add-one i)
            (kept-false g.F.FnMut c.args.keep ks0 ss0 ks ss k i c.loop-place.keep c.requires.stored.beside so_far (get_or ks i none) s t key_at at c.ask.ensures.id c.ask.new.keep
            (subst (λ b. AskedAt g.F.FnMut c.loop-place.keep s.id s.cell b t.cell c.ask.new.keep) w.if-ask.false c.ask.ensures.asked)),
      )
    ]

pub returns-clause-stored : goal.returns-clause-stored
returns-clause-stored g c =
    rw (c.truncate-2.ensures.keys, c.truncate.ensures.items)
    (stored-end g.F.FnMut c.args.keep c.args.keys.now.keys c.args.self.now.items.items c.loop-place.keys.keys c.loop-place.self.items.items c.loop-place.kept c.loop-place.place c.loop-place.keep c.requires.stored
    (omega (arith, c.loop-place-test.false, c.len-place-end.ensures, c.args.self.now.items.ok.0)) c.loop-place.invariant.1)
