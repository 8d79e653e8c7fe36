-- Setup lines that are taken from the end of a list that is turned round.
use Rattle.std.proofs.Common.{◌≡◌, ◌∷◌, [], ◌++◌, List, ap, ◌∙◌, reverse}
use Rattle.std.proofs.lemmas.List.{reverse-append}
use Rattle.drive_script.specs.declared.script.Setup.{Setup}

-- the line that is taken is the first of those that are left
pub turned : (before after : List Setup) (line : Setup) → before ≡ after ++ line ∷ [] → reverse before ≡ line ∷ reverse after
turned before after line is = ap reverse is ∙ reverse-append after (line ∷ [])
