use Rattle.std.proofs.Common.{[], ◌∷◌, ◌++◌, sym, ap, ◌∙◌, subst, fold, length, reverse}
use Rattle.std.specs.Arc.{arc_value}
use Rattle.evmap_contents.specs.Fold.{after, made_with}
use Rattle.evmap_contents.specs.declared.write.Write.TheVariants.{RemovePlaces}
use Rattle.evmap_core.specs.Marked.{ArePlaces}
use Rattle.evmap_core.specs.Stored.{writes_of}
use Rattle.evmap_core.proofs.writer.WriteHandle.mark_random.Goals as goal

pub returns : goal.returns
returns g c =
    let plain = g.K.KeyClone.plain in
    let step = after g.K.KeyClone.same g.V.PartialEq.eq g.P.Keep.keeps in
    let was = c.in_ok-publish.ensures in
    let is = c.in_ok-append.ensures in (
      subst (λ n. ArePlaces n c.args.asked c.in_ok-places.places.items) (c.len.ensures ∙ ap (λ s. length (fold step (made_with (arc_value s.made)) (writes_of plain s)).entries) (sym is.0)) c.in_ok-places.ensures,
      (
        ap (writes_of plain) is.0 ∙ was.0,
        is.2 ∙ ap (λ ws. ws ++ RemovePlaces c.in_ok-removed.removed ∷ []) was.1 ∙ ap (λ ps. RemovePlaces ps ∷ []) (c.in_ok-removed.ensures ∙ ap reverse c.deref.ensures.value),
        ap (λ s. arc_value s.made) is.0 ∙ was.2,
        is.1 ∙ was.3 ∙ sym (ap (writes_of plain) is.0),
        is.3 ∙ was.4,
      ),
    )
