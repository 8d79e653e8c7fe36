use Rattle.std.proofs.Common.{◌∷◌, [], ◌++◌, ap, sym, ◌∙◌, fold, map, take}
use Rattle.std.proofs.lemmas.List.{map_more}
use Rattle.std.proofs.lemmas.List.Sums.{fold_push}
use Rattle.drive_script.specs.Texts.{setup_of}
use Rattle.script_player.specs.Flushes.{register_step}
use Rattle.script_player.proofs.set_up.copies_for_flushes.Goals as goal

pub loop-line-preserved : goal.loop-line-preserved
loop-line-preserved c = λ p.
    let line = c.line-item.result in
    let done = map setup_of (take c.loop-line.line-index c.args.setup.now) in
    let more = map_more setup_of c.args.setup.now c.loop-line.line-index line c.loop-line-test.true ∙ ap (λ l. done ++ setup_of l ∷ []) (sym c.line-item.is) in
    c.in_ok-push_for_flushes.ensures p
    ∙ ap (λ q. register_step q (setup_of line)) (c.loop-line.invariant p)
    ∙ sym (fold_push register_step p done (setup_of line))
    ∙ ap (fold register_step p) (sym more)
