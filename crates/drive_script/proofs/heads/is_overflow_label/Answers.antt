use Rattle.std.proofs.Common.{◌≡◌, ap, subst, ◌∙◌}
use Rattle.std.specs.Prelude.{bytes_eq, codes, IsUtf8}
use Rattle.std.proofs.lemmas.Slice.Eq.{bytes_eq-Decides}
use Rattle.drive_script.proofs.Overflow.{shown_decided}
use Rattle.drive_script.proofs.heads.is_overflow_label.Goals as goal

pub returns : goal.returns
returns c =
    let key = c.args.label.now.key in
    let tests : c.eq.result ≡ bytes_eq key (codes "overflow") = c.eq.ensures ∙ ap (λ text. bytes_eq text (codes "overflow")) c.key.ensures.text in
    let tells = bytes_eq-Decides key (codes "overflow") in
    tests ∙ shown_decided key (bytes_eq key (codes "overflow")) (subst IsUtf8 c.key.ensures.text c.key.utf8) tells.0 tells.1
