use Rattle.std.proofs.Common.{ap, sym, ◌∙◌, fold, map}
use Rattle.std.proofs.lemmas.List.{map_push}
use Rattle.std.proofs.lemmas.List.Sums.{fold_push}
use Rattle.drive_script.specs.Script.{Register}
use Rattle.drive_script.specs.Texts.{setup_of}
use Rattle.script_player.specs.Flushes.{register_step}
use Rattle.script_player.proofs.set_up.push_for_flushes.Goals as goal

pub returns-in_ok-push-in-Register : goal.returns-in_ok-push-in-Register
returns-in_ok-push-in-Register c = λ p.
    let copies = c.args.copies.now.items in
    let same = ap (λ key. Register c.in-Register.kind key) c.in_ok-clone-in-Register.ensures.same ∙ ap setup_of (sym c.in-Register.is) in
    ap (λ lines. fold register_step p (map setup_of lines)) c.in_ok-push-in-Register.ensures.items
    ∙ ap (fold register_step p) (map_push setup_of copies _)
    ∙ fold_push register_step p (map setup_of copies) _
    ∙ ap (register_step (fold register_step p (map setup_of copies))) same
