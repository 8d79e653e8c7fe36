use Rattle.std.proofs.Common.{◌≡◌, ℕ, Some, length, sym, subst, arith}
use Rattle.std.specs.Prelude.{slice_get}
use Rattle.dsd_exporter.specs.GaugeTexts.{AreLines}
use Rattle.dsd_exporter.proofs.GaugeTexts.{lines-more}
use Rattle.dsd_exporter.proofs.gauge_texts.add_place.Goals as goal

pub returns-in_ok-push : goal.returns-in_ok-push
returns-in_ok-push c = λ prefix tags keys key at are.
    let lines = c.args.lines.now.items in
    let next : c.args.place ≡ length lines = omega (arith, c.if-place-len.true, c.len.ensures, c.args.lines.now.ok.0) in
    subst (AreLines prefix tags keys) (sym c.in_ok-push.ensures.items)
    (lines-more prefix tags keys lines key _ are (subst (λ (n : ℕ). slice_get keys n ≡ Some key) next at) tt)
