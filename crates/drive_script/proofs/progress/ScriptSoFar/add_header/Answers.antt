use Rattle.std.proofs.Common.{◌≡◌, ◌≤◌, ◌==◌, true, [], ◌∷◌, ◌++◌, map, length, sym, ap, subst, ◌∙◌, arith, rules}
use Rattle.std.specs.Prelude.{vec_len}
use Rattle.std.proofs.lemmas.List.{nil_from_length, length-map}
use Rattle.prom_format.specs.LabelSets.{labels_of}
use Rattle.drive_script.specs.Script.{SettingsText, header_lines, global_labels}
use Rattle.drive_script.specs.Growth.{AddsHeader, IsLeastPlace, MayFollow, place, least_behind, said_with, with_header, globals_with}
use Rattle.drive_script.specs.Texts.{header_of, round_of, settings_of, script_so_far}
use Rattle.drive_script.specs.Valid.{registered, registered_in}
use Rattle.std.specs.List.{flat_map}
use Rattle.drive_script.proofs.Growth.{header_next}
use Rattle.drive_script.proofs.HeadSteps.{none_noted}
use Rattle.drive_script.proofs.Steps.{script_with, header_added, globals_grown, least_grown}
use Rattle.drive_script.proofs.progress.ScriptSoFar.add_header.Goals as goal
use Rattle.drive_script.proofs.progress.ScriptSoFar.add_header.Goals.{then-not-is_empty-via-then-not-is_empty, then-not-is_empty-via-else-not-is_empty+then-place-self}

pub returns-then-not-is_empty : goal.returns-then-not-is_empty
returns-then-not-is_empty c = record {
  next = λ said known later new h.
      let old = c.args.self.now in
      let rounds = old.rounds in
      elim c.then-not-is_empty.branch [
        | then-not-is_empty-via-then-not-is_empty w ↦
            let none : vec_len rounds ≡ 0 = omega (arith, rounds.ok.0, ap length h.no_round, length-map rounds.items round_of) in
            let empty : c.is_empty.result ≡ true = c.is_empty.ensures ∙ ap (λ n. n == 0) none in
            absurd cc
        | then-not-is_empty-via-else-not-is_empty+then-place-self w ↦
            let within = (known.order (place (header_of c.args.line))).1 h.order in
            absurd (omega (arith, within, w.place.ensures, w.if-place-self.true))
      ];
}

pub returns : goal.returns
returns c = record {
  next = λ said known.
      let old = c.args.self.now in
      let line = header_of c.args.line in
      let settings = settings_of old.settings in
      let none : old.rounds.items ≡ [] = nil_from_length old.rounds.items (search rules) in
      let within : old.least_place ≤ place line = omega (arith, c.place.ensures, c.if-place-self.false) in
      let order : MayFollow (header_lines settings said) (place line) = (known.order (place line)).0 within in
      let told : settings_of c.add.new.self ≡ with_header settings line = c.in_ok-add.ensures in
      let added : AddsHeader said (script_so_far old) line (said_with said line) (script_with (settings_of c.add.new.self) old.rounds.items) =
      header_added said (script_so_far old) line (settings_of c.add.new.self) (ap (map round_of) none) order told in
      let lines : header_lines (settings_of c.add.new.self) (said_with said line) ≡ header_lines settings said ++ line ∷ [] = header_next said (said_with said line) (script_so_far old) (script_with (settings_of c.add.new.self) old.rounds.items) line added in (
        said_with said line,
        added,
        record {
          globals = c.in_ok-add_header.ensures.added ∙ ap (λ globals. globals_with globals line) known.globals ∙ globals_grown settings line ∙ ap (λ (s : SettingsText). global_labels s) (sym told);
          kinds = known.kinds;
          heads = none_noted (labels_of old.heads.globals.entries) (labels_of c.add_header.new.self.globals.entries) old.heads.table c.add_header.new.self.table (registered (script_so_far old)) c.in_ok-add_header.ensures.table (ap (λ rs. flat_map registered_in (map round_of rs)) none) known.heads;
          samples = known.samples;
          order = subst (λ n. IsLeastPlace n (header_lines (settings_of c.add.new.self) (said_with said line))) (sym c.least_behind-self.ensures)
              (subst (IsLeastPlace (least_behind line)) (sym lines) (least_grown (header_lines settings said) line old.least_place known.order within));
        },
      );
}
