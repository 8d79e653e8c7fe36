use Rattle.std.proofs.Common.{◌≡◌, ◌+◌, ◌≤◌, ◌∙◌, [], map, refl, sym, ap, subst, arith}
use Rattle.std.specs.List.{AllZip}
use Rattle.std.proofs.lemmas.List.Elements.{All-nil}
use Rattle.drive_script.specs.Script.{ScriptText, HeaderLine, IsLine, IsMeant, header_lines, global_labels}
use Rattle.drive_script.specs.Growth.{IsLeastPlace, least_behind}
use Rattle.drive_script.specs.Heads.{AreNoted}
use Rattle.drive_script.specs.Texts.{round_of, settings_of}
use Rattle.drive_script.specs.Valid.{IsValid, registered, sample_total}
use Rattle.drive_script.specs.Vectors.{empty}
use Rattle.drive_script.proofs.Growth.{script_lines}
use Rattle.drive_script.proofs.HeaderGrowth.{nothing_said}
use Rattle.drive_script.proofs.Scripts.{empty_script_of}
use Rattle.drive_script.proofs.Steps.{kinds_of, script_with}
use Rattle.drive_script.proofs.progress.ScriptSoFar.new.Goals as goal

-- a header line of any place may be the first
any_first : IsLeastPlace 0 []
any_first = λ p. (λ _. All-nil (λ (line : HeaderLine). least_behind line ≤ p), λ _. omega arith)

pub returns : goal.returns
returns c =
    let same : script_with (settings_of c.new.result) c.new-2.result.items ≡ empty = λ j. record { settings = c.new.ensures j; rounds = map round_of (c.new-2.ensures.items j) } in
    let table = c.new-4.result.table in
    record {
      script = record {
        said = nothing_said;
        meant = subst (λ (s : ScriptText). IsMeant nothing_said s.settings) (sym same) (refl, refl);
        each = subst (λ (s : ScriptText). AllZip IsLine [] (script_lines nothing_said s)) (sym same) tt;
      };
      valid = subst IsValid (sym same) empty_script_of.1;
      known = record {
        globals = c.new-4.ensures.globals ∙ sym (ap (λ (s : ScriptText). global_labels s.settings) same);
        kinds = c.new-3.ensures.items ∙ sym (ap (λ (s : ScriptText). kinds_of (registered s)) same);
        heads = subst (λ globals. AreNoted globals table (registered (script_with (settings_of c.new.result) c.new-2.result.items))) (sym c.new-4.ensures.globals)
            (subst (λ (s : ScriptText). AreNoted [] table (registered s)) (sym same) c.new-4.ensures.noted);
        samples = ap (λ (s : ScriptText). sample_total s + 16777216) same;
        order = subst (λ (s : ScriptText). IsLeastPlace 0 (header_lines s.settings nothing_said)) (sym same) any_first;
      };
    }
